-- The addresses under an address of a file, by the places in the index blocks on the way to them.
use Rattle.std.proofs.Common.{◌≡◌, ◌⊎◌, inl, inr, ℕ, zero, suc, ◌+◌, ◌<◌, ◌≤◌, List, [], ◌∷◌, ◌++◌, Bool, true, false, ◌||◌, nat_eq, refl, sym, ap, subst, ◌∙◌, arith}
use Rattle.std.specs.List.{IsDistinct}
use Rattle.std.proofs.lemmas.Bool.Decides.{nat_tests, eqb_tells, leb_tells}
use Rattle.std.proofs.lemmas.Map.Keys.{IsDistinct-head, IsDistinct-cons}
use Rattle.mb_word.specs.Fields.{index_entry}
use Rattle.mb_tree.specs.Blocks.{entry_in}
use Rattle.mb_rules.specs.Items.{Item, Holds, Held, is_met, each_from}
use Rattle.mb_rules.specs.Files.{address_items}
use Rattle.mb_rules.proofs.Walks.{AllHold, met_after, met_append, hold_each, once_before, apart_all, all_apart}

-- ---- what items meet

abbrev pub claimed : List Item → ℕ → Bool
claimed [] x = false
claimed (Holds test block rule ∷ items) x = claimed items x
claimed (Held address ∷ items) x = nat_eq x address || claimed items x

pub or_true : (a b : Bool) → (a || b) ≡ true → (a ≡ true) ⊎ (b ≡ true)
or_true true b h = inl refl
or_true false b h = inr h

or_right : (a b : Bool) → b ≡ true → (a || b) ≡ true
or_right true b h = refl
or_right false b h = h

pub kept_met : (items : List Item) (met : List ℕ) (x : ℕ) → is_met met x ≡ true → is_met (met_after met items) x ≡ true
kept_met [] met x h = h
kept_met (Holds test block rule ∷ items) met x h = kept_met items met x h
kept_met (Held address ∷ items) met x h = kept_met items (address ∷ met) x (or_right (nat_eq x address) (is_met met x) h)

pub claimed_met : (items : List Item) (met : List ℕ) (x : ℕ) → claimed items x ≡ true → is_met (met_after met items) x ≡ true
claimed_met [] met x h = absurd (cc)
claimed_met (Holds test block rule ∷ items) met x h = claimed_met items met x h
claimed_met (Held address ∷ items) met x h =
    elim (or_true (nat_eq x address) (claimed items x) h) [
      | inl here ↦ kept_met items (address ∷ met) x (rw here refl)
      | inr later ↦ claimed_met items (address ∷ met) x later
    ]

-- what is met in the end was met before or is claimed
pub met_from : (items : List Item) (met : List ℕ) (x : ℕ) → is_met (met_after met items) x ≡ true → (claimed items x ≡ true) ⊎ (is_met met x ≡ true)
met_from [] met x h = inr h
met_from (Holds test block rule ∷ items) met x h = met_from items met x h
met_from (Held address ∷ items) met x h =
    elim (met_from items (address ∷ met) x h) [
      | inl later ↦ inl (or_right (nat_eq x address) (claimed items x) later)
      | inr before ↦ elim (or_true (nat_eq x address) (is_met met x) before) [
        | inl here ↦ inl (rw here refl)
        | inr old ↦ inr old
      ]
    ]

-- what is claimed was not met before, where each address is met once
pub claimed_new : (items : List Item) (met : List ℕ) (x : ℕ) → IsDistinct nat_eq (met_after met items) → claimed items x ≡ true → is_met met x ≡ false
claimed_new [] met x once h = absurd (cc)
claimed_new (Holds test block rule ∷ items) met x once h = claimed_new items met x once h
claimed_new (Held address ∷ items) met x once h =
    let new : is_met met address ≡ false = all_apart address met (IsDistinct-head nat_eq address met (once_before (address ∷ met) items once)) in
    elim (eqb_tells x address) [
      | inl here ↦ subst (λ y. is_met met y ≡ false) (sym here.1) new
      | inr apart ↦
          let rest = claimed_new items (address ∷ met) x once (subst (λ b. (b || claimed items x) ≡ true) apart.0 h) in
          subst (λ b. (b || is_met met x) ≡ false) apart.0 rest
    ]

pub claimed_left : (xs ys : List Item) (x : ℕ) → claimed xs x ≡ true → claimed (xs ++ ys) x ≡ true
claimed_left [] ys x h = absurd (cc)
claimed_left (Holds test block rule ∷ xs) ys x h = claimed_left xs ys x h
claimed_left (Held address ∷ xs) ys x h =
    elim (or_true (nat_eq x address) (claimed xs x) h) [
      | inl here ↦ rw here refl
      | inr later ↦ or_right (nat_eq x address) (claimed (xs ++ ys) x) (claimed_left xs ys x later)
    ]

claimed_right : (xs ys : List Item) (x : ℕ) → claimed ys x ≡ true → claimed (xs ++ ys) x ≡ true
claimed_right [] ys x h = h
claimed_right (Holds test block rule ∷ xs) ys x h = claimed_right xs ys x h
claimed_right (Held address ∷ xs) ys x h = or_right (nat_eq x address) (claimed (xs ++ ys) x) (claimed_right xs ys x h)

pub claimed_split : (xs ys : List Item) (x : ℕ) → claimed (xs ++ ys) x ≡ true → (claimed xs x ≡ true) ⊎ (claimed ys x ≡ true)
claimed_split [] ys x h = inr h
claimed_split (Holds test block rule ∷ xs) ys x h = claimed_split xs ys x h
claimed_split (Held address ∷ xs) ys x h =
    elim (or_true (nat_eq x address) (claimed (xs ++ ys) x) h) [
      | inl here ↦ inl (rw here refl)
      | inr later ↦ elim (claimed_split xs ys x later) [
        | inl front ↦ inl (or_right (nat_eq x address) (claimed xs x) front)
        | inr back ↦ inr back
      ]
    ]

-- one of the numbers whose items claim it
pub record Claims (items : ℕ → List Item) (low n x : ℕ) : Type 0 where
  pub number : ℕ
  pub from : low ≤ number
  pub below : number < low + n
  pub claims : claimed (items number) x ≡ true

module _ (items : ℕ → List Item) where
  pub claimed_each : (low n k x : ℕ) → low ≤ k → k < low + n → claimed (items k) x ≡ true → claimed (each_from items low n) x ≡ true
  unfolding each_from
  claimed_each low zero k x a b h = absurd (omega arith)
  claimed_each low (suc n) k x a b h =
      elim (eqb_tells low k) [
        | inl here ↦ claimed_left (items low) (each_from items (low + 1) n) x (subst (λ j. claimed (items j) x ≡ true) (sym here.1) h)
        | inr apart ↦ claimed_right (items low) (each_from items (low + 1) n) x (claimed_each (low + 1) n k x (let other = apart.1 in omega arith) (omega arith) h)
      ]

  pub each_claims : (low n x : ℕ) → claimed (each_from items low n) x ≡ true → Claims items low n x
  unfolding each_from
  each_claims low zero x h = absurd (cc)
  each_claims low (suc n) x h =
      elim (claimed_split (items low) (each_from items (low + 1) n) x h) [
        | inl here ↦ record { number = low; from = omega arith; below = omega arith; claims = here }
        | inr later ↦
            let more = each_claims (low + 1) n x later in
            let from = more.from in
            let below = more.below in
            record { number = more.number; from = omega arith; below = omega arith; claims = more.claims }
      ]

  -- where each address is met once, the items of one number claim each once
  pub once_at : (low n k : ℕ) (met : List ℕ) → low ≤ k → k < low + n → IsDistinct nat_eq (met_after met (each_from items low n)) → (before : List ℕ) × IsDistinct nat_eq (met_after before (items k))
  unfolding each_from
  once_at low zero k met a b once = absurd (omega arith)
  once_at low (suc n) k met a b once =
      let split : IsDistinct nat_eq (met_after (met_after met (items low)) (each_from items (low + 1) n)) = subst (IsDistinct nat_eq) (met_append met (items low) (each_from items (low + 1) n)) once in
      elim (eqb_tells low k) [
        | inl here ↦ (met, subst (λ j. IsDistinct nat_eq (met_after met (items j))) here.1 (once_before (met_after met (items low)) (each_from items (low + 1) n) split))
        | inr apart ↦ once_at (low + 1) n k (met_after met (items low)) (let other = apart.1 in omega arith) (omega arith) split
      ]

  -- and no two of them claim the same
  pub one_claims : (low n i j x : ℕ) (met : List ℕ) → low ≤ i → i < j → j < low + n → IsDistinct nat_eq (met_after met (each_from items low n)) → claimed (items i) x ≡ true → claimed (items j) x ≡ true → ⊥
  unfolding each_from
  one_claims low zero i j x met a b c once one two = omega arith
  one_claims low (suc n) i j x met a b c once one two =
      let split : IsDistinct nat_eq (met_after (met_after met (items low)) (each_from items (low + 1) n)) = subst (IsDistinct nat_eq) (met_append met (items low) (each_from items (low + 1) n)) once in
      elim (eqb_tells low i) [
        | inl here ↦
            let first : claimed (items low) x ≡ true = subst (λ k. claimed (items k) x ≡ true) (sym here.1) one in
            let same = here.1 in
            let later : claimed (each_from items (low + 1) n) x ≡ true = claimed_each (low + 1) n j x (omega arith) (omega arith) two in
            let new = claimed_new (each_from items (low + 1) n) (met_after met (items low)) x split later in
            let old = claimed_met (items low) met x first in
            let wrong : true ≡ false = sym old ∙ new in
            cc
        | inr apart ↦ one_claims (low + 1) n i j x (met_after met (items low)) (let other = apart.1 in omega arith) b (omega arith) split one two
      ]

-- ---- ways

-- the places in the index blocks under an address, with so many levels below it
abbrev pub IsWay : ℕ → List ℕ → Type 0
IsWay levels [] = Unit {0}
IsWay zero (k ∷ ks) = ⊥
IsWay (suc levels) (k ∷ ks) = (k < 128) × IsWay levels ks

module _ (blocks : ℕ → List ℕ) where
  abbrev pub follow : ℕ → List ℕ → ℕ
  follow address [] = address
  follow address (k ∷ ks) = follow (entry_in blocks address k) ks

  pub follow_hole : (ks : List ℕ) → follow 0 ks ≡ 0
  unfolding entry_in
  follow_hole [] = refl
  follow_hole (k ∷ ks) = follow_hole ks

  abbrev pub under : ℕ → ℕ → ℕ → List Item
  under levels block k = address_items blocks levels block (index_entry (blocks block) k)

  pub claims_way : (ks : List ℕ) (levels holder address : ℕ) → IsWay levels ks → 0 < follow address ks → claimed (address_items blocks levels holder address) (follow address ks) ≡ true
  unfolding address_items entry_in
  claims_way ks levels holder zero way some = absurd (let hole = follow_hole ks in omega arith)
  claims_way [] zero holder (suc b) way some = let same : nat_eq (suc b) (suc b) ≡ true = grind (arith, nat_tests) in rw same refl
  claims_way [] (suc levels) holder (suc b) way some = let same : nat_eq (suc b) (suc b) ≡ true = grind (arith, nat_tests) in rw same refl
  claims_way (k ∷ ks) zero holder (suc b) way some = absurd way
  claims_way (k ∷ ks) (suc levels) holder (suc b) way some =
      let deep = claims_way ks levels (suc b) (index_entry (blocks (suc b)) k) way.1 some in
      let x : ℕ = follow (index_entry (blocks (suc b)) k) ks in
      or_right (nat_eq x (suc b)) _ (claimed_each (under levels (suc b)) 0 128 k x (omega arith) (let small = way.0 in omega arith) deep)

  -- a way to an address that is claimed
  pub record Way (levels address x : ℕ) : Type 0 where
    pub places : List ℕ
    pub way : IsWay levels places
    pub leads : follow address places ≡ x
    pub some : 0 < x

  pub way_claims : (levels holder address x : ℕ) → claimed (address_items blocks levels holder address) x ≡ true → Way levels address x
  unfolding address_items entry_in
  way_claims zero holder zero x h = absurd (cc)
  way_claims (suc levels) holder zero x h = absurd (cc)
  way_claims zero holder (suc b) x h =
      elim (eqb_tells x (suc b)) [
        | inl here ↦ record { places = []; way = tt; leads = sym here.1; some = let same = here.1 in omega arith }
        | inr apart ↦ absurd (let wrong : (false || false) ≡ true = subst (λ t. (t || false) ≡ true) apart.0 h in cc)
      ]
  way_claims (suc levels) holder (suc b) x h =
      elim (eqb_tells x (suc b)) [
        | inl here ↦ record { places = []; way = tt; leads = sym here.1; some = let same = here.1 in omega arith }
        | inr apart ↦
            let later : claimed (each_from (under levels (suc b)) 0 128) x ≡ true = subst (λ t. (t || claimed (each_from (under levels (suc b)) 0 128) x) ≡ true) apart.0 h in
            let one = each_claims (under levels (suc b)) 0 128 x later in
            let deep = way_claims levels (suc b) (index_entry (blocks (suc b)) one.number) x one.claims in
            let below = one.below in
            record { places = one.number ∷ deep.places; way = (omega arith, deep.way); leads = deep.leads; some = deep.some }
      ]

  -- the levels that are left at the end of a way
  abbrev pub left : ℕ → List ℕ → ℕ
  left levels [] = levels
  left zero (k ∷ ks) = zero
  left (suc levels) (k ∷ ks) = left levels ks

  pub hold_way : (ks : List ℕ) (levels holder address : ℕ) → IsWay levels ks → 0 < follow address ks → AllHold (address_items blocks levels holder address) → (last : ℕ) × AllHold (address_items blocks (left levels ks) last (follow address ks))
  unfolding address_items entry_in
  hold_way [] levels holder address way some all = (holder, all)
  hold_way (k ∷ ks) levels holder zero way some all = absurd (let hole = follow_hole ks in omega arith)
  hold_way (k ∷ ks) zero holder (suc b) way some all = absurd way
  hold_way (k ∷ ks) (suc levels) holder (suc b) way some all =
      hold_way ks levels (suc b) (index_entry (blocks (suc b)) k) way.1 some (hold_each (under levels (suc b)) 0 128 all.1.1 k (omega arith) (let small = way.0 in omega arith))

  deeper_claims : (levels b k : ℕ) (ks : List ℕ) → k < 128 → IsWay levels ks → 0 < follow (index_entry (blocks b) k) ks → claimed (each_from (under levels b) 0 128) (follow (index_entry (blocks b) k) ks) ≡ true
  deeper_claims levels b k ks small way some = claimed_each (under levels b) 0 128 k _ (omega arith) (omega arith) (claims_way ks levels b (index_entry (blocks b) k) way some)

  -- no way leads back to the address above it
  not_above : (levels b k : ℕ) (ks met : List ℕ) → IsDistinct nat_eq (met_after (suc b ∷ met) (each_from (under levels (suc b)) 0 128)) → k < 128 → IsWay levels ks → follow (index_entry (blocks (suc b)) k) ks ≡ suc b → ⊥
  not_above levels b k ks met once small way back =
      let x : ℕ = follow (index_entry (blocks (suc b)) k) ks in
      let new : (nat_eq x (suc b) || is_met met x) ≡ false = claimed_new (each_from (under levels (suc b)) 0 128) (suc b ∷ met) x once (deeper_claims levels (suc b) k ks small way (omega arith)) in
      let same : nat_eq x (suc b) ≡ true = grind (arith, nat_tests) in
      let wrong : (true || is_met met x) ≡ false = subst (λ t. (t || is_met met x) ≡ false) same new in
      cc

  not_two : (levels b j k : ℕ) (js ks met : List ℕ) → IsDistinct nat_eq (met_after (suc b ∷ met) (each_from (under levels (suc b)) 0 128)) → j < 128 → k < 128 → IsWay levels js → IsWay levels ks → j < k
      → 0 < follow (index_entry (blocks (suc b)) j) js → follow (index_entry (blocks (suc b)) j) js ≡ follow (index_entry (blocks (suc b)) k) ks → ⊥
  not_two levels b j k js ks met once small little way other less some same =
      let one = claims_way js levels (suc b) (index_entry (blocks (suc b)) j) way some in
      let two = claims_way ks levels (suc b) (index_entry (blocks (suc b)) k) other (omega arith) in
      one_claims (under levels (suc b)) 0 128 j k _ (suc b ∷ met) (omega arith) less (omega arith) once one (subst (λ x. claimed (under levels (suc b) k) x ≡ true) (sym same) two)

  -- where each address is met once, one way leads to it
  pub one_way : (ks js : List ℕ) (levels holder address : ℕ) (met : List ℕ) → IsDistinct nat_eq (met_after met (address_items blocks levels holder address)) → IsWay levels ks → IsWay levels js
      → 0 < follow address ks → follow address ks ≡ follow address js → ks ≡ js
  unfolding address_items entry_in
  one_way [] [] levels holder address met once way other some same = refl
  one_way ks js levels holder zero met once way other some same = absurd (let hole = follow_hole ks in omega arith)
  one_way [] (j ∷ js) zero holder (suc b) met once way other some same = absurd other
  one_way [] (j ∷ js) (suc levels) holder (suc b) met once way other some same = absurd (not_above levels b j js met once other.0 other.1 (sym same))
  one_way (k ∷ ks) [] zero holder (suc b) met once way other some same = absurd way
  one_way (k ∷ ks) [] (suc levels) holder (suc b) met once way other some same = absurd (not_above levels b k ks met once way.0 way.1 same)
  one_way (k ∷ ks) (j ∷ js) zero holder (suc b) met once way other some same = absurd way
  one_way (k ∷ ks) (j ∷ js) (suc levels) holder (suc b) met once way other some same =
      elim (eqb_tells k j) [
        | inl here ↦
            let child = once_at (under levels (suc b)) 0 128 k (suc b ∷ met) (omega arith) (let small = way.0 in omega arith) once in
            let alike = same ∙ ap (λ i. follow (index_entry (blocks (suc b)) i) js) (sym here.1) in
            ap (λ is. k ∷ is) (one_way ks js levels (suc b) (index_entry (blocks (suc b)) k) child.0 child.1 way.1 other.1 some alike) ∙ ap (λ i. i ∷ js) here.1
        | inr apart ↦ elim (leb_tells k j) [
          | inl less ↦ absurd (not_two levels b k j ks js met once way.0 other.0 way.1 other.1 (let a = apart.1 in let l = less.1 in omega arith) some same)
          | inr more ↦ absurd (not_two levels b j k js ks met once other.0 way.0 other.1 way.1 more.1 (omega arith) (sym same))
        ]
      ]

  -- ---- and the other way

  -- nothing of what the ways lead to is met yet, and each has one way
  pub record AreNew (levels address : ℕ) (met : List ℕ) : Type 0 where
    pub new : (ks : List ℕ) → IsWay levels ks → 0 < follow address ks → is_met met (follow address ks) ≡ false
    pub once : (ks js : List ℕ) → IsWay levels ks → IsWay levels js → 0 < follow address ks → follow address ks ≡ follow address js → ks ≡ js

  -- the same for n of the addresses in an index block
  pub record AreNewFrom (levels block low n : ℕ) (met : List ℕ) : Type 0 where
    pub new : (k : ℕ) (ks : List ℕ) → low ≤ k → k < low + n → IsWay levels ks → 0 < follow (index_entry (blocks block) k) ks → is_met met (follow (index_entry (blocks block) k) ks) ≡ false
    pub once : (k j : ℕ) (ks js : List ℕ) → low ≤ k → k < low + n → low ≤ j → j < low + n → IsWay levels ks → IsWay levels js
        → 0 < follow (index_entry (blocks block) k) ks → follow (index_entry (blocks block) k) ks ≡ follow (index_entry (blocks block) j) js → (k ≡ j) × (ks ≡ js)

  abbrev Once : ℕ → Type 0
  Once levels = (holder address : ℕ) (met : List ℕ) → IsDistinct nat_eq met → AreNew levels address met → IsDistinct nat_eq (met_after met (address_items blocks levels holder address))

  not_true : (b : Bool) → (b ≡ true → ⊥) → b ≡ false
  not_true true never = absurd (never refl)
  not_true false never = refl

  once_each : (levels : ℕ) → Once levels → (block low n : ℕ) (met : List ℕ) → IsDistinct nat_eq met → AreNewFrom levels block low n met → IsDistinct nat_eq (met_after met (each_from (under levels block) low n))
  unfolding each_from
  once_each levels deeper block low zero met once fresh = once
  once_each levels deeper block low (suc n) met once fresh =
      let first = deeper block (index_entry (blocks block) low) met once (record {
        new = λ ks way some. fresh.new low ks (omega arith) (omega arith) way some;
        once = λ ks js way other some same. (fresh.once low low ks js (omega arith) (omega arith) (omega arith) (omega arith) way other some same).1;
      }) in
      subst (IsDistinct nat_eq) (sym (met_append met (under levels block low) (each_from (under levels block) (low + 1) n)))
      (once_each levels deeper block (low + 1) n (met_after met (under levels block low)) first (record {
        new = λ k ks a b way some. not_true (is_met (met_after met (under levels block low)) (follow (index_entry (blocks block) k) ks)) (λ is. elim (met_from (under levels block low) met (follow (index_entry (blocks block) k) ks) is) [
          | inl here ↦
              let found = way_claims levels block (index_entry (blocks block) low) (follow (index_entry (blocks block) k) ks) here in
              let same = (fresh.once k low ks found.places (omega arith) (omega arith) (omega arith) (omega arith) way found.way some (sym found.leads)).0 in
              omega arith
          | inr before ↦ let not_met = fresh.new k ks (omega arith) (omega arith) way some in let wrong : true ≡ false = sym before ∙ not_met in cc
        ]);
        once = λ k j ks js a b c d way other some same. fresh.once k j ks js (omega arith) (omega arith) (omega arith) (omega arith) way other some same;
      }))

  pub once_way : (levels : ℕ) → Once levels
  unfolding address_items entry_in
  once_way zero holder zero met once fresh = once
  once_way (suc levels) holder zero met once fresh = once
  once_way zero holder (suc b) met once fresh = IsDistinct-cons nat_eq (suc b) met (apart_all (suc b) met (fresh.new [] tt (omega arith))) once
  once_way (suc levels) holder (suc b) met once fresh =
      let first : IsDistinct nat_eq (suc b ∷ met) = IsDistinct-cons nat_eq (suc b) met (apart_all (suc b) met (fresh.new [] tt (omega arith))) once in
      once_each levels (once_way levels) (suc b) 0 128 (suc b ∷ met) first (record {
        new = λ k ks a c way some. not_true (is_met (suc b ∷ met) (follow (index_entry (blocks (suc b)) k) ks)) (λ is. elim (or_true (nat_eq (follow (index_entry (blocks (suc b)) k) ks) (suc b)) (is_met met (follow (index_entry (blocks (suc b)) k) ks)) is) [
          | inl here ↦
              let same : follow (index_entry (blocks (suc b)) k) ks ≡ suc b = grind (arith, nat_tests) in
              let wrong : k ∷ ks ≡ [] = fresh.once (k ∷ ks) [] (omega arith, way) tt some same in
              cc
          | inr before ↦ let not_met = fresh.new (k ∷ ks) (omega arith, way) some in let wrong : true ≡ false = sym before ∙ not_met in cc
        ]);
        once = λ k j ks js a c d e way other some same.
            let alike : k ∷ ks ≡ j ∷ js = fresh.once (k ∷ ks) (j ∷ js) (omega arith, way) (omega arith, other) some same in
            (cc, cc);
      })
