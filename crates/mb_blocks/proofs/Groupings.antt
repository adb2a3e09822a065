-- The groups of parts that a list touches, each once: as many as the cost counts.
use Rattle.std.proofs.Common.{◌≡◌, ◌≢◌, inl, inr, ℕ, zero, suc, ◌+◌, ◌-◌, ◌/◌, ◌<◌, ◌≤◌, true, false, cond, not, ◌&&◌, ◌||◌, List, [], ◌∷◌, length, map, All, refl, sym, ap, subst, ◌∙◌, arith, nat_eq}
use Rattle.std.specs.FinSet as set
use Rattle.std.specs.FinSet.{len-empty}
use Rattle.std.specs.FinMap as fin
use Rattle.std.specs.FinMap.{entries_sorted}
use Rattle.std.specs.FinMap.Entries.{below_all}
use Rattle.std.specs.Prelude.{T}
use Rattle.std.specs.Ordering.{nat_cmp, is_lt, is_eq}
use Rattle.std.specs.declared.cmp.Ordering.{Ordering}
use Rattle.std.specs.declared.cmp.Ordering.TheVariants.{Less, Equal, Greater}
use Rattle.std.specs.List.{Contains, list_any}
use Rattle.std.proofs.lemmas.Bool.Decides.{nat_tests}
use Rattle.std.proofs.lemmas.List.Elements.{All-cons, Contains-get_or}
use Rattle.mb_tree.specs.Cost.{is_within, is_near, is_last, touched, first_parts}
use Rattle.mb_tree.proofs.FiniteMaps.{is_here}
use Rattle.mb_tree.proofs.OpenCounts.{left_of, right_of}
use Rattle.mb_blocks.specs.Laid.{AreOnce}
use Rattle.mb_tree.proofs.Groups.{counted}
use Rattle.mb_blocks.proofs.Rearranged.{first_or_later, later, once_cons, own}
use Rattle.mb_blocks.proofs.Shares.{any_found, any_of, is_in}

-- ---- members of a list, by a test and by their place

pub in_has : (xs : List ℕ) (k : ℕ) → is_in xs k ≡ true → Contains xs k
in_has [] k h = cc
in_has (x ∷ xs) k h = elim (nat_eq k x) as (λ b. nat_eq k x ≡ b → (b || is_in xs k) ≡ true → Contains (x ∷ xs) k) [
  | true ↦ λ e t. (let is : x ≡ k = grind (arith, nat_tests) in subst (Contains (x ∷ xs)) is (own x xs))
  | false ↦ λ e t. later x k xs (in_has xs k t)
] refl h

pub has_in : (xs : List ℕ) (k : ℕ) → Contains xs k → is_in xs k ≡ true
has_in [] k h = absurd (let low = h.1 in omega (arith, low))
has_in (x ∷ xs) k h = elim (first_or_later x k xs h) [
  | inl is ↦ (let t : nat_eq k x ≡ true = grind (arith, nat_tests) in ap (λ b. b || is_in xs k) t)
  | inr more ↦ elim (nat_eq k x) as (λ b. (b || is_in xs k) ≡ true) [ true ↦ refl | false ↦ has_in xs k more ]
]

-- ---- the keys of a map, and the parts below a number, each once

strict : (o : Ordering) → T (is_lt o) → is_eq o ≡ false
strict Less h = refl
strict Equal h = absurd h
strict Greater h = absurd h

module _ {X : Type 0} where
  below_others : (k : ℕ) (es : List (ℕ × X)) → T (below_all nat_cmp k es) → All (λ y. k ≢ y) (map (λ e. e.0) es)
  below_others k [] h = λ i d within. absurd (omega (arith, within))
  below_others k (e ∷ es) h =
      All-cons (λ y. k ≢ y) e.0 (map (λ e. e.0) es)
      (λ is. (let a : is_eq (nat_cmp k e.0) ≡ false = strict (nat_cmp k e.0) (left_of (is_lt (nat_cmp k e.0)) (below_all nat_cmp k es) h) in
      let b : is_eq (nat_cmp k e.0) ≡ true = ap (λ x. is_eq (nat_cmp k x)) (sym is) ∙ is_here k in cc))
      (below_others k es (right_of (is_lt (nat_cmp k e.0)) (below_all nat_cmp k es) h))

  sorted_once : (es : List (ℕ × X)) → T (fin.is_sorted nat_cmp es) → AreOnce (map (λ e. e.0) es)
  sorted_once [] h = λ i j d below within. absurd (omega (arith, within))
  sorted_once (e ∷ es) h =
      once_cons e.0 (map (λ e. e.0) es) (below_others e.0 es (left_of (below_all nat_cmp e.0 es) (fin.is_sorted nat_cmp es) h))
      (sorted_once es (right_of (below_all nat_cmp e.0 es) (fin.is_sorted nat_cmp es) h))

  pub keys_once : (m : fin.FinMap nat_cmp X) → AreOnce (fin.keys m)
  keys_once m = sorted_once (fin.entries m) (entries_sorted m)

pub first_below : (n k : ℕ) → Contains (first_parts n) k → k < n
first_below zero k h = absurd (let low = h.1 in omega (arith, low))
first_below (suc n) k h = elim (first_or_later n k (first_parts n) h) [
  | inl is ↦ omega (arith, is)
  | inr more ↦ (let b = first_below n k more in omega (arith, b))
]

pub below_first : (n k : ℕ) → k < n → Contains (first_parts n) k
below_first zero k low = absurd (omega (arith, low))
below_first (suc n) k low = elim (nat_eq k n) as (λ b. nat_eq k n ≡ b → Contains (first_parts (suc n)) k) [
  | true ↦ λ e. (let is : n ≡ k = grind (arith, nat_tests) in subst (Contains (first_parts (suc n))) is (own n (first_parts n)))
  | false ↦ λ e. (let off : k ≢ n = grind (arith, nat_tests) in later n k (first_parts n) (below_first n k (omega (arith, low, off))))
] refl

pub first_once : (n : ℕ) → AreOnce (first_parts n)
first_once zero = λ i j d below within. absurd (omega (arith, within))
first_once (suc n) = once_cons n (first_parts n) (λ i d within is. (let b = first_below n _ (Contains-get_or (first_parts n) i d within) in omega (arith, b, is))) (first_once n)

pub first_length : (n : ℕ) → length (first_parts n) ≡ n
first_length zero = refl
first_length (suc n) = ap suc (first_length n)

-- ---- groups

module _ (low high size : ℕ) where
  abbrev pub groups : List ℕ → List ℕ
  groups [] = []
  groups (part ∷ rest) = cond (is_last low high size part rest) ((part - low) / size ∷ groups rest) (groups rest)

  pub group_count : (parts : List ℕ) → length (groups parts) ≡ set.len (touched low high size parts)
  group_count [] = sym (len-empty nat_cmp)
  group_count (part ∷ rest) =
      elim (is_last low high size part rest) as (λ b. length (cond b ((part - low) / size ∷ groups rest) (groups rest)) ≡ cond b (set.len (touched low high size rest) + 1) (set.len (touched low high size rest))) [
        | true ↦ (let e = group_count rest in omega (arith, e))
        | false ↦ group_count rest
      ] ∙ sym (counted low high size part rest)

  within_is : (k : ℕ) → low ≤ k → k < high → is_within low high k ≡ true
  within_is k above below = grind (arith, nat_tests)

  within_says : (k : ℕ) → is_within low high k ≡ true → (low ≤ k) × (k < high)
  within_says k h = (grind (arith, nat_tests), grind (arith, nat_tests))

  near_says : (part k : ℕ) → is_near low high size part k ≡ true → (low ≤ k) × (k < high) × ((k - low) / size ≡ (part - low) / size)
  near_says part k h = (grind (arith, nat_tests), grind (arith, nat_tests), grind (arith, nat_tests))

  near_is : (part k : ℕ) → low ≤ k → k < high → (k - low) / size ≡ (part - low) / size → is_near low high size part k ≡ true
  near_is part k above below e =
      let w : is_within low high k ≡ true = within_is k above below in
      let g : nat_eq ((k - low) / size) ((part - low) / size) ≡ true = grind (arith, nat_tests) in
      ap (λ b. b && nat_eq ((k - low) / size) ((part - low) / size)) w ∙ g

  pub group_has : (parts : List ℕ) (k : ℕ) → Contains parts k → low ≤ k → k < high → Contains (groups parts) ((k - low) / size)
  group_has [] k h above below = absurd (let none = h.1 in omega (arith, none))
  group_has (part ∷ rest) k h above below =
      elim (is_last low high size part rest) as (λ b. is_last low high size part rest ≡ b → Contains (cond b ((part - low) / size ∷ groups rest) (groups rest)) ((k - low) / size)) [
        | true ↦ λ e. elim (first_or_later part k rest h) [
          | inl is ↦ subst (λ x. Contains ((part - low) / size ∷ groups rest) ((x - low) / size)) is (own ((part - low) / size) (groups rest))
          | inr more ↦ later ((part - low) / size) ((k - low) / size) (groups rest) (group_has rest k more above below)
        ]
        | false ↦ λ e. elim (first_or_later part k rest h) [
          | inl is ↦
              (let here : is_within low high part ≡ true = within_is part (omega (arith, is, above)) (omega (arith, is, below)) in
              let any : list_any (is_near low high size part) rest ≡ true =
              elim (list_any (is_near low high size part) rest) as (λ b. (is_within low high part && not b) ≡ false → b ≡ true) [ true ↦ λ t. refl | false ↦ λ t. (let bad : true ≡ false = sym (ap (λ b. b && true) here) ∙ t in cc) ] e in
              let twin = any_found (is_near low high size part) rest any in
              let near = near_says part twin.0 twin.2 in
              subst (Contains (groups rest)) (near.2 ∙ ap (λ x. (x - low) / size) is) (group_has rest twin.0 (in_has rest twin.0 twin.1) near.0 near.1))
          | inr more ↦ group_has rest k more above below
        ]
      ] refl

  -- a part in a group
  pub record IsGrouped (parts : List ℕ) (g : ℕ) : Type 0 where
    pub part : ℕ
    pub among : Contains parts part
    pub above : low ≤ part
    pub below : part < high
    pub group : (part - low) / size ≡ g

  further : (part g : ℕ) (rest : List ℕ) → IsGrouped rest g → IsGrouped (part ∷ rest) g
  further part g rest is = record { part = is.part; among = later part is.part rest is.among; above = is.above; below = is.below; group = is.group }

  pub group_from : (parts : List ℕ) (g : ℕ) → Contains (groups parts) g → IsGrouped parts g
  group_from [] g h = absurd (let none = h.1 in omega (arith, none))
  group_from (part ∷ rest) g h =
      elim (is_last low high size part rest) as (λ b. is_last low high size part rest ≡ b → Contains (cond b ((part - low) / size ∷ groups rest) (groups rest)) g → IsGrouped (part ∷ rest) g) [
        | true ↦ λ e c. elim (first_or_later ((part - low) / size) g (groups rest) c) [
          | inl is ↦
              (let here : is_within low high part ≡ true = elim (is_within low high part) as (λ b. (b && not (list_any (is_near low high size part) rest)) ≡ true → b ≡ true) [ true ↦ λ t. refl | false ↦ λ t. t ] e in
              let w = within_says part here in
              record { part = part; among = own part rest; above = w.0; below = w.1; group = is })
          | inr more ↦ further part g rest (group_from rest g more)
        ]
        | false ↦ λ e c. further part g rest (group_from rest g c)
      ] refl h

  pub groups_once : (parts : List ℕ) → AreOnce (groups parts)
  groups_once [] = λ i j d below within. absurd (omega (arith, within))
  groups_once (part ∷ rest) =
      elim (is_last low high size part rest) as (λ b. is_last low high size part rest ≡ b → AreOnce (cond b ((part - low) / size ∷ groups rest) (groups rest))) [
        | true ↦ λ e. once_cons ((part - low) / size) (groups rest)
            (λ i d within is.
            (let twin = group_from rest _ (Contains-get_or (groups rest) i d within) in
            let near : is_near low high size part twin.part ≡ true = near_is part twin.part twin.above twin.below (twin.group ∙ sym is) in
            let any : list_any (is_near low high size part) rest ≡ true = any_of (is_near low high size part) rest twin.part (has_in rest twin.part twin.among) near in
            elim (is_within low high part) as (λ b. (b && not (list_any (is_near low high size part) rest)) ≡ true → ⊥) [
              | true ↦ λ t. (let bad : false ≡ true = sym (ap not any) ∙ t in cc)
              | false ↦ λ t. cc
            ] e))
            (groups_once rest)
        | false ↦ λ e. groups_once rest
      ] refl
