-- Slots in a row: the first with a name, the first empty one, and how many are in use.
use Rattle.std.proofs.Common.{ℕ, zero, suc, ◌≡◌, inl, inr, ◌⊎◌, ◌+◌, ◌-◌, ◌*◌, ◌/◌, ◌%◌, ◌<◌, ◌≤◌, Bool, true, false, not, cond, nat_lt, min, List, [], ◌∷◌, length, map, get_or, Option, Some, None, option_map, unwrap_or, refl, sym, ap, subst, ◌∙◌, arith, add-one}
use Rattle.std.specs.Prelude.{position, find, slice_get, count_by}
use Rattle.std.specs.List.{range_with_len, position_or_len}
use Rattle.std.proofs.lemmas.Bool.{cases_lt}
use Rattle.std.proofs.lemmas.Bool.Decides.{nat_tests}
use Rattle.std.proofs.lemmas.List.Folds.{find_at}
use Rattle.std.proofs.lemmas.List.FromFn.{length-map-range_with_len, get_or-map-range_with_len, map-range_with_len_more}
use Rattle.std.proofs.lemmas.List.Sums.{position_or_len_is}
use Rattle.std.proofs.lemmas.Option.{slice_get-get_or}
use Rattle.mb_kinds.specs.Image.{zeros}
use Rattle.mb_tree.specs.Blocks.{slot_of, slot_in, part_in, part_bytes}
use Rattle.mb_tree.specs.Lookup.{is_used, is_named, number_of}
use Rattle.mb_tree.specs.declared.nodes.PlainSlot.{PlainSlot}
use Rattle.mb_tree.proofs.SlotLists.{count_push}
use Rattle.mb_namei.specs.PartSearches.{slots_before, IsPassedBy}
use Rattle.mb_namei.specs.Searching.{is_empty}
use Rattle.mb_namei.specs.Slots.{AreUnnamed, IsFirstEmpty, IsFirstNamed, used_below}

-- ---- lists made of a row

module _ {X : Type 0} (p : X → Bool) (f : ℕ → X) (n : ℕ) where
  abbrev row : List X
  row = map f (range_with_len 0 n)

  long : length row ≡ n
  long = length-map-range_with_len f 0 n

  each : (k : ℕ) → k < n → get_or row k (f 0) ≡ f k
  each k low = get_or-map-range_with_len f 0 n k k (f 0) low (omega arith)

  place_is : (at : ℕ) → at ≤ n → ((k : ℕ) → k < at → p (f k) ≡ false) → (at < n → p (f at) ≡ true) → position_or_len p row ≡ at
  place_is at low before here =
      position_or_len_is p row at (f 0) (omega (arith, low, long)) (λ k less. ap p (each k (omega (arith, less, low))) ∙ before k less)
      (λ less. let l : at < n = omega (arith, less, long) in ap p (each at l) ∙ here l)

  pub row_first : (at : ℕ) → at < n → p (f at) ≡ true → ((k : ℕ) → k < at → p (f k) ≡ false) → (position p row ≡ Some at) × (find p row ≡ Some (f at))
  row_first at low here before =
      let e = place_is at (omega (arith, low)) before (λ less. here) in
      let t : nat_lt at (length row) ≡ true = (let l : at < length row = omega (arith, low, long) in grind (arith, nat_tests)) in (
        ap (λ i. cond (nat_lt i (length row)) (Some i) None) e ∙ ap (λ b. cond b (Some at) None) t,
        find_at p row ∙ ap (slice_get row) e ∙ slice_get-get_or row at (f 0) (omega (arith, low, long)) ∙ ap Some (each at low),
      )

  pub row_none : ((k : ℕ) → k < n → p (f k) ≡ false) → (position p row ≡ None) × (find p row ≡ None)
  row_none fails =
      let e = place_is n (omega arith) fails (λ less. absurd (omega (arith, less))) in
      let t : nat_lt n (length row) ≡ false = (let l : length row ≤ n = omega (arith, long) in grind (arith, nat_tests)) in (
        ap (λ i. cond (nat_lt i (length row)) (Some i) None) e ∙ ap (λ b. cond b (Some n) None) t,
        find_at p row ∙ ap (slice_get row) e ∙ past row n (omega (arith, long)),
      )
    where
      past : (xs : List X) (k : ℕ) → length xs ≤ k → slice_get xs k ≡ None
      past [] k low = refl
      past (x ∷ xs) zero low = absurd (omega (arith, low))
      past (x ∷ xs) (suc k) low = past xs k (omega (arith, low))

pub row_used : (f : ℕ → PlainSlot) (n : ℕ) → used_below f n ≡ count_by is_used (map f (range_with_len 0 n))
row_used f zero = refl
row_used f (suc n) =
    ap (λ m. m + cond (is_used (f n)) 1 0) (row_used f n)
    ∙ sym (ap (λ m. count_by is_used (map f (range_with_len 0 m))) (sym (add-one n)) ∙ ap (count_by is_used) (map-range_with_len_more f 0 n n (omega arith)) ∙ count_push is_used (map f (range_with_len 0 n)) (f n))

-- ---- the answers

module _ (f : ℕ → PlainSlot) (slots : List PlainSlot) (count : ℕ) (are : slots ≡ map f (range_with_len 0 count)) (name : List ℕ) where
  pub named_at : (at ino : ℕ) → IsFirstNamed f name count at ino → (position (is_named name) slots ≡ Some at) × (number_of slots name ≡ Some ino)
  named_at at ino first =
      let r = row_first (is_named name) f count at first.within first.here first.before in
      (ap (position (is_named name)) are ∙ r.0, ap (λ xs. number_of xs name) are ∙ ap (option_map (λ slot. slot.ino)) r.1 ∙ ap Some first.number)

  pub named_none : AreUnnamed f name count → number_of slots name ≡ None
  named_none none = ap (λ xs. number_of xs name) are ∙ ap (option_map (λ slot. slot.ino)) (row_none (is_named name) f count none).1

  pub empty_at : (at : ℕ) → IsFirstEmpty f count count at → at < count → position is_empty slots ≡ Some at
  empty_at at first low = ap (position is_empty) are ∙ (row_first is_empty f count at low (ap not (first.here low)) (λ k less. ap not (first.before k (omega (arith, less, low)) less))).0

  pub empty_none : (at : ℕ) → IsFirstEmpty f count count at → count ≤ at → position is_empty slots ≡ None
  empty_none at first past = ap (position is_empty) are ∙ (row_none is_empty f count (λ k less. ap not (first.before k less (omega (arith, less, past))))).0

-- ---- one part further

pub slot_here : (blocks : ℕ → List ℕ) (dir part : ℕ) (bytes : List ℕ) → part_in blocks dir part ≡ Some bytes → (j : ℕ) → j < 32 → slot_in blocks dir (32 * part + j) ≡ slot_of bytes j
slot_here blocks dir part bytes is j low =
    let d : (32 * part + j) / 32 ≡ part = omega (arith, low) in
    let m : (32 * part + j) % 32 ≡ j = omega (arith, low) in
    ap (λ k. slot_of (part_bytes blocks dir k) ((32 * part + j) % 32)) d ∙ ap (slot_of (part_bytes blocks dir part)) m ∙ ap (λ b. slot_of b j) (part_is (part_in blocks dir part) is)
  where
    part_is : (o : Option (List ℕ)) → o ≡ Some bytes → unwrap_or o zeros ≡ bytes
    part_is o e = ap (λ x. unwrap_or x zeros) e

module _ (blocks : ℕ → List ℕ) (dir part count empty here : ℕ) (name bytes : List ℕ) (is_here : here ≡ min (count - 32 * part) 32) (low : 32 * part < count)
    (is : part_in blocks dir part ≡ Some bytes) where
  slot_k : (k : ℕ) → 32 * part ≤ k → k < 32 * part + here → slot_in blocks dir k ≡ slot_of bytes (k - 32 * part)
  slot_k k from to = ap (slot_in blocks dir) (let e : k ≡ 32 * part + (k - 32 * part) = omega (arith, from) in e) ∙ slot_here blocks dir part bytes is (k - 32 * part) (omega (arith, from, to, is_here))

  module _ (passed : IsPassedBy blocks dir part count empty name) where
    -- none before a place of the part has the name
    unnamed_to : (place : ℕ) → place ≤ here → AreUnnamed (slot_of bytes) name place → AreUnnamed (slot_in blocks dir) name (32 * part + place)
    unnamed_to place within none k less = elim (cases_lt k (32 * part)) [
      | inl before ↦ passed.unnamed k (omega (arith, before, low))
      | inr from ↦ ap (is_named name) (slot_k k from (omega (arith, less, within))) ∙ none (k - 32 * part) (omega (arith, from, less))
    ]

    used_to : (place next : ℕ) → place ≤ here → next ≤ empty → ((j : ℕ) → j < place → 32 * part + j < next → is_used (slot_of bytes j) ≡ true)
        → (k : ℕ) → k < 32 * part + place → k < next → is_used (slot_in blocks dir k) ≡ true
    used_to place next within most used k less before = elim (cases_lt k (32 * part)) [
      | inl front ↦ passed.first.before k (omega (arith, front, low)) (omega (arith, before, most))
      | inr from ↦ ap is_used (slot_k k from (omega (arith, less, within))) ∙ used (k - 32 * part) (omega (arith, from, less)) (omega (arith, from, before))
    ]

    pub part_named : (place ino : ℕ) → IsFirstNamed (slot_of bytes) name here place ino → IsFirstNamed (slot_in blocks dir) name count (32 * part + place) ino
    part_named place ino first =
        let w = first.within in
        let e = slot_k (32 * part + place) (omega arith) (omega (arith, w)) in
        let s : slot_in blocks dir (32 * part + place) ≡ slot_of bytes place = e ∙ ap (slot_of bytes) (omega arith) in
        record {
          within = omega (arith, w, is_here);
          here = ap (is_named name) s ∙ first.here;
          number = ap (λ (x : PlainSlot). x.ino) s ∙ first.number;
          before = unnamed_to place (omega (arith, w)) first.before;
        }

    abbrev ends : slots_before (part + 1) count ≡ 32 * part + here
    ends = omega (arith, is_here, low)

    module _ (place : ℕ) (none : AreUnnamed (slot_of bytes) name here) (first : IsFirstEmpty (slot_of bytes) here here place) where
      unnamed_next : AreUnnamed (slot_in blocks dir) name (slots_before (part + 1) count)
      unnamed_next = subst (AreUnnamed (slot_in blocks dir) name) (sym ends) (unnamed_to here (omega arith) none)

      -- the part has the first empty slot
      pub empty_here : place < here → 32 * part + place < empty → IsPassedBy blocks dir (part + 1) count (32 * part + place) name
      empty_here some sooner = record {
        unnamed = unnamed_next;
        first = record {
          within = omega (arith, some, is_here);
          here = λ less. ap is_used (slot_k (32 * part + place) (omega arith) (omega (arith, some)) ∙ ap (slot_of bytes) (let e : 32 * part + place - 32 * part ≡ place = omega arith in e)) ∙ first.here some;
          before = λ k less before. used_to here (32 * part + place) (omega arith) (omega (arith, sooner)) (λ j lower less. first.before j lower (omega (arith, less))) k (omega (arith, less, ends)) before;
        };
      }

      -- it has none, or there was one before it
      pub empty_before : (here ≤ place) ⊎ (empty ≤ 32 * part + place) → IsPassedBy blocks dir (part + 1) count empty name
      empty_before either = record {
        unnamed = unnamed_next;
        first = record {
          within = passed.first.within;
          here = passed.first.here;
          before = λ k less before. used_to here empty (omega arith) (omega arith)
              (λ j lower sooner. first.before j lower (elim either [ inl all ↦ omega (arith, all, lower) | inr was ↦ omega (arith, was, sooner) ])) k (omega (arith, less, ends)) before;
        };
      }

pub used_more : (f g : ℕ → PlainSlot) (a m : ℕ) → ((j : ℕ) → j < m → f (a + j) ≡ g j) → used_below f (a + m) ≡ used_below f a + used_below g m
used_more f g a zero same = ap (used_below f) (let e : a + 0 ≡ a = omega arith in e) ∙ (let e : used_below f a ≡ used_below f a + 0 = omega arith in e)
used_more f g a (suc m) same =
    let rest = used_more f g a m (λ j low. same j (omega (arith, low))) in
    let step : used_below f (a + suc m) ≡ used_below f (a + m) + cond (is_used (f (a + m))) 1 0 = ap (used_below f) (let e : a + suc m ≡ suc (a + m) = omega arith in e) in
    let one : cond {A = ℕ} (is_used (f (a + m))) 1 0 ≡ cond (is_used (g m)) 1 0 = ap (λ (s : PlainSlot). cond {A = ℕ} (is_used s) 1 0) (same m (omega arith)) in
    omega (arith, rest, step, one)

pub part_used : (blocks : ℕ → List ℕ) (dir part count here more : ℕ) (bytes : List ℕ) → here ≡ min (count - 32 * part) 32 → 32 * part < count → part_in blocks dir part ≡ Some bytes → used_below (slot_of bytes) here ≡ more
    → used_below (slot_in blocks dir) (slots_before (part + 1) count) ≡ used_below (slot_in blocks dir) (slots_before part count) + more
part_used blocks dir part count here more bytes is_here low is used =
    let rest = used_more (slot_in blocks dir) (slot_of bytes) (32 * part) here (λ j less. slot_here blocks dir part bytes is j (omega (arith, less, is_here))) in
    ap (used_below (slot_in blocks dir)) (let e : slots_before (part + 1) count ≡ 32 * part + here = omega (arith, is_here, low) in e) ∙ rest
    ∙ ap (λ n. used_below (slot_in blocks dir) n + used_below (slot_of bytes) here) (let e : 32 * part ≡ slots_before part count = omega (arith, low) in e)
    ∙ ap (λ n. used_below (slot_in blocks dir) (slots_before part count) + n) used
