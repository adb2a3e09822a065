-- A walk from the root that reaches an inode at all reaches it within as many steps as there are inodes.
use Rattle.std.proofs.Common.{◌≡◌, ◌⊎◌, inl, inr, ℕ, zero, suc, ◌+◌, ◌-◌, ◌<◌, ◌≤◌, List, Bool, true, false, not, ◌||◌, ◌&&◌, nat_eq, if◌then◌else◌, Some, is_some, refl, sym, ap, subst, ◌∙◌, arith}
use Rattle.std.proofs.lemmas.Bool.Decides.{eqb_tells}
use Rattle.mb_tree.specs.Counting.{sum_below, any_from, first_from}
use Rattle.mb_tree.specs.Volume.{last_inode}
use Rattle.mb_tree.proofs.Sums.{sum_short, sum_term}
use Rattle.mb_rules.specs.Parents.{late_from, is_reached}
use Rattle.mb_rules.specs.ReachedLaws.{ReachesAll}
use Rattle.mb_rules.proofs.Files.{found_from}

any_same : (p q : ℕ → Bool) (low n : ℕ) → ((k : ℕ) → low ≤ k → k < low + n → p k ≡ q k) → any_from p low n ≡ any_from q low n
unfolding first_from
any_same p q low zero same = refl
any_same p q low (suc n) same =
    let here : p low ≡ q low = same low (omega arith) (omega arith) in
    let later = any_same p q (low + 1) n (λ k a b. same k (omega arith) (omega arith)) in
    elim (q low) as (λ b. p low ≡ b → is_some (if p low then Some low else first_from p (low + 1) n) ≡ is_some (if b then Some low else first_from q (low + 1) n)) [
      | true ↦ λ e. rw e refl
      | false ↦ λ e. rw e later
    ] here

-- a search that does not find passes over each
missed_from : (p : ℕ → Bool) (low n : ℕ) → any_from p low n ≡ false → (k : ℕ) → low ≤ k → k < low + n → p k ≡ false
unfolding first_from
missed_from p low zero h k a b = absurd (omega arith)
missed_from p low (suc n) h k a b =
    elim (p low) as (λ t. p low ≡ t → is_some (if t then Some low else first_from p (low + 1) n) ≡ false → p k ≡ false) [
      | true ↦ λ e wrong. absurd (cc)
      | false ↦ λ e rest. elim (eqb_tells low k) [
        | inl here ↦ subst (λ j. p j ≡ false) here.1 e
        | inr apart ↦ missed_from p (low + 1) n rest k (let other = apart.1 in omega arith) (omega arith)
      ]
    ] refl h

or_idem : (a b : Bool) → ((a || b) || b) ≡ (a || b)
or_idem true b = refl
or_idem false true = refl
or_idem false false = refl

abbrev one_if : Bool → ℕ
one_if b = if b then 1 else 0

sum_le : (g h : ℕ → ℕ) (n : ℕ) → ((k : ℕ) → g k ≤ h k) → sum_below g n ≤ sum_below h n
unfolding sum_below
sum_le g h zero all = omega arith
sum_le g h (suc n) all = let here = all n in let rest = sum_le g h n all in omega arith

sum_grows : (g h : ℕ → ℕ) (n j : ℕ) → ((k : ℕ) → g k ≤ h k) → j < n → g j < h j → sum_below g n < sum_below h n
unfolding sum_below
sum_grows g h zero j all small more = absurd (omega arith)
sum_grows g h (suc n) j all small more =
    let here = all n in
    elim (eqb_tells j n) [
      | inl last ↦ let rest = sum_le g h n all in let at : g n < h n = subst (λ k. g k < h k) last.1 more in omega arith
      | inr apart ↦ let rest = sum_grows g h n j all (let other = apart.1 in omega arith) more in omega arith
    ]

one_le : (b c : Bool) → (b ≡ true → c ≡ true) → one_if b ≤ one_if c
one_le true c h = rw (h refl) (omega arith)
one_le false c h = omega arith

one_few : (b : Bool) → one_if b ≤ 1
one_few true = omega arith
one_few false = omega arith

same_bool : (b c : Bool) → (b ≡ true → c ≡ true) → (c && not b) ≡ false → c ≡ b
same_bool true c h e = h refl
same_bool false true h e = absurd (cc)
same_bool false false h e = refl

new_bool : (b c : Bool) → (c && not b) ≡ true → (b ≡ false) × (c ≡ true)
new_bool true true h = absurd (cc)
new_bool true false h = absurd (cc)
new_bool false true h = (refl, refl)
new_bool false false h = absurd (cc)

module _ (blocks : ℕ → List ℕ) where
  abbrev most : ℕ
  most = last_inode blocks

  abbrev reaches : ℕ → ℕ → Bool
  reaches steps ino = is_reached blocks steps ino

  abbrev more_from : ℕ → ℕ → Bool
  more_from steps ino = any_from (λ dir. reaches steps dir && not (nat_eq (late_from blocks ino dir) 0)) 0 (most + 1)

  next : (steps ino : ℕ) → reaches (suc steps) ino ≡ (reaches steps ino || more_from steps ino)
  unfolding is_reached
  next steps ino = refl

  still : (steps ino : ℕ) → reaches steps ino ≡ true → reaches (suc steps) ino ≡ true
  still steps ino h = next steps ino ∙ ap (λ b. b || more_from steps ino) h

  still_more : (more steps ino : ℕ) → reaches steps ino ≡ true → reaches (steps + more) ino ≡ true
  still_more zero steps ino h = let e : steps ≡ steps + 0 = omega arith in subst (λ s. reaches s ino ≡ true) e h
  still_more (suc more) steps ino h = let e : suc (steps + more) ≡ steps + suc more = omega arith in subst (λ s. reaches s ino ≡ true) e (still (steps + more) ino (still_more more steps ino h))

  -- nothing new among the inodes
  abbrev Settled : ℕ → Type 0
  Settled steps = (ino : ℕ) → ino < most + 1 → reaches (suc steps) ino ≡ reaches steps ino

  settles : (steps : ℕ) → Settled steps → Settled (suc steps)
  settles steps settled ino small =
      let same : more_from (suc steps) ino ≡ more_from steps ino = any_same _ _ 0 (most + 1) (λ dir a b. ap (λ t. t && not (nat_eq (late_from blocks ino dir) 0)) (settled dir (omega arith))) in
      next (suc steps) ino ∙ ap (λ b. reaches (suc steps) ino || b) same ∙ ap (λ b. b || more_from steps ino) (next steps ino) ∙ or_idem (reaches steps ino) (more_from steps ino) ∙ sym (next steps ino)

  settled_more : (more steps : ℕ) → Settled steps → (ino : ℕ) → ino < most + 1 → reaches (steps + more) ino ≡ reaches steps ino
  settled_more zero steps settled ino small = let e : steps + 0 ≡ steps = omega arith in ap (λ s. reaches s ino) e
  settled_more (suc more) steps settled ino small =
      let e : steps + suc more ≡ suc steps + more = omega arith in
      ap (λ s. reaches s ino) e ∙ settled_more more (suc steps) (settles steps settled) ino small ∙ settled ino small

  abbrev count : ℕ → ℕ
  count steps = sum_below (λ ino. one_if (reaches steps ino)) (most + 1)

  -- each step reaches more of them, or nothing new
  steps_on : (steps : ℕ) → (Settled steps) ⊎ (count steps < count (suc steps))
  steps_on steps =
      let new : ℕ → Bool = λ ino. reaches (suc steps) ino && not (reaches steps ino) in
      elim (any_from new 0 (most + 1)) as (λ b. any_from new 0 (most + 1) ≡ b → (Settled steps) ⊎ (count steps < count (suc steps))) [
        | true ↦ λ some.
            let found = found_from new 0 (most + 1) some in
            let below = found.2 in
            let two = new_bool (reaches steps found.0) (reaches (suc steps) found.0) found.3 in
            let one : one_if (reaches steps found.0) < one_if (reaches (suc steps) found.0) = rw (two.0, two.1) (omega arith) in
            inr (sum_grows (λ ino. one_if (reaches steps ino)) (λ ino. one_if (reaches (suc steps) ino)) (most + 1) found.0 (λ k. one_le (reaches steps k) (reaches (suc steps) k) (still steps k)) (omega arith) one)
        | false ↦ λ none. inl (λ ino small. same_bool (reaches steps ino) (reaches (suc steps) ino) (still steps ino) (missed_from new 0 (most + 1) none ino (omega arith) (omega arith)))
      ] refl

  root_counts : 2 ≤ most → 1 ≤ count 0
  unfolding is_reached
  root_counts h = let here : one_if (nat_eq 2 2) ≤ count 0 = sum_term (λ ino. one_if (reaches 0 ino)) 2 (most + 1) (omega arith) in here

  -- after so many steps nothing new comes, or more than so many are reached
  pub record SettledBy (steps : ℕ) : Type 0 where
    pub early : ℕ
    pub soon : early ≤ steps
    pub settled : Settled early

  so_many : 2 ≤ most → (steps : ℕ) → (SettledBy steps) ⊎ (steps + 1 ≤ count steps)
  so_many h zero = inr (root_counts h)
  so_many h (suc steps) =
      elim (so_many h steps) [
        | inl done ↦ inl (let soon = done.soon in record { early = done.early; soon = omega arith; settled = done.settled })
        | inr many ↦ elim (steps_on steps) [
          | inl settled ↦ inl (record { early = steps; soon = omega arith; settled = settled })
          | inr more ↦ inr (omega arith)
        ]
      ]

  full : (steps ino : ℕ) → ino ≤ most → most + 1 ≤ count steps → reaches steps ino ≡ true
  full steps ino small many =
      elim (reaches steps ino) as (λ b. reaches steps ino ≡ b → reaches steps ino ≡ true) [
        | true ↦ λ e. e
        | false ↦ λ e. absurd (
            let none : one_if (reaches steps ino) ≡ 0 = rw e refl in
            let short = sum_short (λ k. one_if (reaches steps k)) ino (most + 1) (omega arith) none (λ k. one_few (reaches steps k)) in
            omega arith)
      ] refl

  pub within_most : (steps ino : ℕ) → 2 ≤ most → ino ≤ most → reaches steps ino ≡ true → reaches most ino ≡ true
  within_most steps ino h small is =
      elim (so_many h most) [
        | inr many ↦ full most ino small many
        | inl done ↦
            let soon = done.soon in
            let later : reaches (done.early + steps) ino ≡ true =
            (let e : steps + done.early ≡ done.early + steps = omega arith in subst (λ s. reaches s ino ≡ true) e (still_more done.early steps ino is)) in
            let early : reaches done.early ino ≡ true = sym (settled_more steps done.early done.settled ino (omega arith)) ∙ later in
            let e : done.early + (most - done.early) ≡ most = omega arith in
            subst (λ s. reaches s ino ≡ true) e (still_more (most - done.early) done.early ino early)
      ]

pub reaches_all : ReachesAll
reaches_all blocks steps ino h small is = within_most blocks steps ino h small is
