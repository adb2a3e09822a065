-- The ordinals of a caller's own entries: where none of its calls quit, each entry has the one of its place.
use Rattle.std.proofs.Common.{List, [], ◌∷◌, ◌++◌, ℕ, zero, suc, ◌+◌, ◌≡◌, ◌≤◌, None, Some, length, slice_get, refl, ap, sym, ◌∙◌, subst, arith, length-append}
use Rattle.std.proofs.lemmas.List.{map-id, map_push}
use Rattle.std.proofs.lemmas.List.FromFn.{map-range_with_len_more}
use Rattle.std.specs.List.{range_with_len}
use Rattle.mb_kinds.specs.Own.{own}
use Rattle.mb_kinds.specs.declared.entries.Entry.{Entry}
use Rattle.mb_core_order.proofs.OwnEntries.{AreOf, none_left, others, others_above, own_and_others, own_others}
use Rattle.mb_core_order.proofs.Overlays.{same_some}
use Rattle.mb_core_spec.specs.Callers.{begun, one_if}
use Rattle.mb_core_spec.specs.Numbers.{AreInPlace, OwnsEntries, is_open, open_flight}
use Rattle.mb_core_spec.specs.State.{CallerState}

-- ---- places

range_push : (from count : ℕ) → range_with_len from (count + 1) ≡ range_with_len from count ++ (from + count) ∷ []
range_push from count =
    sym (map-id (range_with_len from (count + 1))) ∙ map-range_with_len_more (λ (n : ℕ). n) from count (from + count) refl ∙ ap (λ ns. ns ++ (from + count) ∷ []) (map-id (range_with_len from count))

in_place_push : (entries : List Entry) (entry : Entry) → entry.ordinal ≡ length entries + 1 → AreInPlace entries → AreInPlace (entries ++ entry ∷ [])
in_place_push entries entry next placed =
    let long : length (entries ++ entry ∷ []) ≡ length entries + 1 = length-append entries (entry ∷ []) in
    let number : entry.ordinal ≡ 1 + length entries = omega (arith, next) in
    map_push (λ (e : Entry). e.ordinal) entries entry ∙ ap (λ ns. ns ++ entry.ordinal ∷ []) placed ∙ ap (λ n. range_with_len 1 (length entries) ++ n ∷ []) number
    ∙ sym (range_push 1 (length entries)) ∙ ap (range_with_len 1) (sym long)

-- ---- a caller's calls

abbrev pub is_one_open : CallerState → ℕ
is_one_open mine = one_if (is_open (open_flight mine.flight))

-- no entry comes: no more calls are in flight without one than began
pub counted_moves : (entries : List Entry) (mine new : CallerState) → mine.begun + is_one_open new ≤ new.begun + is_one_open mine → OwnsEntries entries mine → OwnsEntries entries new
counted_moves entries mine new fewer h = record {
  begun = (let low = h.begun in omega (arith, low, fewer));
  places = λ all. h.places (let low = h.begun in omega (arith, low, fewer, all));
}

-- the entry of a caller's last call comes
pub counted_push : (entries : List Entry) (entry : Entry) (mine new : CallerState) → new.begun ≡ mine.begun → is_one_open mine ≡ 1 → is_one_open new ≡ 0 → entry.ordinal ≡ mine.begun → OwnsEntries entries mine → OwnsEntries (entries ++ entry ∷ []) new
counted_push entries entry mine new begun was now last h =
    let long : length (entries ++ entry ∷ []) ≡ length entries + 1 = length-append entries (entry ∷ []) in
    let low = h.begun in
    record {
      begun = omega (arith, low, long, begun, was, now);
      places = λ all. in_place_push entries entry (omega (arith, last, all, long, begun, now)) (h.places (omega (arith, all, long, begun, was, now)));
    }

-- ---- all callers' calls

-- each caller has at most as many entries as calls that it began; where all have no fewer together, each has as many
pub each_counted : (callers : List CallerState) (history : List Entry) (first : ℕ) → ((place : ℕ) (mine : CallerState) → slice_get callers place ≡ Some mine → length (own history (first + place)) ≤ mine.begun) → AreOf first (length callers) history
    → (length history ≤ begun callers) × (begun callers ≤ length history → (place : ℕ) (mine : CallerState) → slice_get callers place ≡ Some mine → mine.begun ≡ length (own history (first + place)))
each_counted [] history first each all = (
  (let none : length history ≡ 0 = ap length (none_left history first all) in omega (arith, none)),
  λ few place mine is. absurd (no_caller mine is),
)
  where
    no_caller : (mine : CallerState) → None ≡ Some mine → ⊥
    no_caller mine is = cc
each_counted (one ∷ callers) history first each all =
    let here : length (own history first) ≤ one.begun = subst (λ n. length (own history n) ≤ one.begun) (omega arith) (each 0 one refl) in
    let parted = own_and_others history first in
    let longer : length (one ∷ callers) ≡ length callers + 1 = omega arith in
    let rest = each_counted callers (others history first) (first + 1)
    (λ place mine is. subst (λ entries. length entries ≤ mine.begun) (sym (own_of_others place)) (each (suc place) mine is)) (others_above history first (length callers) (subst (λ n. AreOf first n history) longer all)) in
    let below = rest.0 in (
      omega (arith, here, parted, below),
      λ few. by_place (omega (arith, few, here, parted, below)) (rest.1 (omega (arith, few, here, parted))),
    )
  where
    own_of_others : (place : ℕ) → own (others history first) (first + 1 + place) ≡ own history (first + suc place)
    own_of_others place = own_others history first (first + 1 + place) (λ same. absurd (omega (arith, same))) ∙ ap (own history) (omega arith)

    by_place : one.begun ≡ length (own history first) → ((place : ℕ) (mine : CallerState) → slice_get callers place ≡ Some mine → mine.begun ≡ length (own (others history first) (first + 1 + place)))
        → (place : ℕ) (mine : CallerState) → slice_get (one ∷ callers) place ≡ Some mine → mine.begun ≡ length (own history (first + place))
    by_place first_is rest_is zero mine is = ap (λ (d : CallerState). d.begun) (sym (same_some one mine is)) ∙ first_is ∙ ap (λ n. length (own history n)) (omega arith)
    by_place first_is rest_is (suc place) mine is = rest_is place mine is ∙ ap length (own_of_others place)
