-- How far the fold of a log has come.
use Rattle.std.proofs.Common.{◌≡◌, ℕ, zero, suc, ◌+◌, ◌≤◌, List, [], ◌∷◌, ◌++◌, Some, length, drop, slice_get, refl, sym, ap, ◌∙◌, arith}
use Rattle.std.proofs.Math.Seq.{drop-cons}
use Rattle.std.proofs.lemmas.List.{length-map}
use Rattle.std.proofs.lemmas.Option.{slice_get_within, get_or_from_slice_get}
use Rattle.mb_tree.specs.CarriedOut.{PickedOp}
use Rattle.mb_oplog.specs.declared.oplogs.Logged.{Logged}
use Rattle.mb_folds.specs.Folded.{folded, folded_from}
use Rattle.mb_folds.proofs.Folding.{folded_is_short}
use Rattle.mb_oplog.specs.Picked.{as_picked, picked_ops}

-- the rest of a list from a place on begins with the element there
next_first : {X : Type 0} (xs : List X) (at : ℕ) (x : X) → slice_get xs at ≡ Some x → drop at xs ≡ x ∷ drop (at + 1) xs
next_first xs at x here =
    let next : suc at ≡ at + 1 = omega arith in
    drop-cons xs at x (slice_get_within xs at x here) ∙ ap (λ y. y ∷ drop (suc at) xs) (get_or_from_slice_get xs at x x here) ∙ ap (λ n. x ∷ drop n xs) next

-- ---- one operation taken in

-- what the result comes to with any operations behind it, before and after the next one
abbrev pub IsTakenIn : List Logged → List Logged → Logged → Logged → Logged → Type 0
IsTakenIn settled new last next now = (later : List PickedOp) → picked_ops new ++ folded_from (as_picked now) later ≡ picked_ops settled ++ folded_from (as_picked last) (as_picked next ∷ later)

-- ---- the whole log

pub folds_more : (settled new : List Logged) (last now next : Logged) (items : List Logged) (at : ℕ) (goal : List PickedOp) → picked_ops settled ++ folded_from (as_picked last) (picked_ops (drop at items)) ≡ goal
    → slice_get items at ≡ Some next → IsTakenIn settled new last next now → picked_ops new ++ folded_from (as_picked now) (picked_ops (drop (at + 1) items)) ≡ goal
folds_more settled new last now next items at goal so_far here taken =
    taken (picked_ops (drop (at + 1) items))
    ∙ sym (ap (λ xs. picked_ops settled ++ folded_from (as_picked last) (picked_ops xs)) (next_first items at next here))
    ∙ so_far

drop_all : {X : Type 0} (xs : List X) (at : ℕ) → length xs ≤ at → drop at xs ≡ []
drop_all [] zero h = refl
drop_all [] (suc at) h = refl
drop_all (x ∷ xs) zero h = absurd (omega (arith, h))
drop_all (x ∷ xs) (suc at) h = drop_all xs at (omega (arith, h))

-- no longer than it was
pub stays_short : (ops items : List Logged) → picked_ops ops ≡ folded (picked_ops items) → length ops ≤ length items
stays_short ops items same =
    let many : length (picked_ops ops) ≡ length (folded (picked_ops items)) = ap (λ (xs : List PickedOp). length xs) same in
    omega (arith, many, length-map ops as_picked, length-map items as_picked, folded_is_short (picked_ops items))
