-- How far a loop over the pages has come.
use Rattle.std.proofs.Common.{◌≡◌, ℕ, suc, zero, ◌+◌, List, [], ◌∷◌, ◌++◌, ◌-◌, Some, None, length, refl, sym, ap, ◌∙◌, arith, slice_get, drop, nat_eq}
use Rattle.std.proofs.Math.Seq.{drop-cons}
use Rattle.std.proofs.lemmas.Option.{slice_get_within, get_or_from_slice_get}
use Rattle.indexmap.specs.IndexMap.{insert_entry}
use Rattle.mb_cache.specs.Pages.{PageList, installed}
use Rattle.mb_cache.specs.Stamps.{Stamps, raised, raised_by}

-- the rest of a list from a place on begins with the element there
pub next_first : {X : Type 0} (xs : List X) (at : ℕ) (x : X) → slice_get xs at ≡ Some x → drop at xs ≡ x ∷ drop (at + 1) xs
next_first xs at x here =
    let next : suc at ≡ at + 1 = omega arith in
    drop-cons xs at x (slice_get_within xs at x here) ∙ ap (λ y. y ∷ drop (suc at) xs) (get_or_from_slice_get xs at x x here) ∙ ap (λ n. x ∷ drop n xs) next

-- one page more is installed
pub installed_more : (pages new changes goal : PageList) (at block : ℕ) (bytes : List ℕ) → installed pages (drop at changes) ≡ goal → slice_get changes at ≡ Some (block, bytes) → new ≡ insert_entry nat_eq pages block bytes
    → installed new (drop (at + 1) changes) ≡ goal
installed_more pages new changes goal at block bytes so_far here put_one =
    ap (λ p. installed p (drop (at + 1) changes)) put_one ∙ sym (ap (installed pages) (next_first changes at (block, bytes) here)) ∙ so_far

-- one stamp more is raised
pub raised_more : (stamps new : Stamps) (changes : PageList) (goal : Stamps) (at block : ℕ) (bytes : List ℕ) → raised_by stamps (drop at changes) ≡ goal → slice_get changes at ≡ Some (block, bytes) → new ≡ raised stamps block
    → raised_by new (drop (at + 1) changes) ≡ goal
raised_more stamps new changes goal at block bytes so_far here one =
    ap (λ s. raised_by s (drop (at + 1) changes)) one ∙ sym (ap (raised_by stamps) (next_first changes at (block, bytes) here)) ∙ so_far

at_last : {X : Type 0} (n : ℕ) (xs : List X) (x : X) → suc n ≡ length xs → slice_get xs n ≡ Some x → (front : List X) × (xs ≡ front ++ x ∷ [])
at_last n [] x long here = absurd (omega (arith, long))
at_last zero (y ∷ []) x long here = ([], (let e : y ≡ x = cc in ap (λ z. z ∷ []) e))
at_last zero (y ∷ z ∷ zs) x long here = absurd (omega (arith, long))
at_last (suc n) (y ∷ ys) x long here = let rest = at_last n ys x (omega (arith, long)) here in (y ∷ rest.0, ap (λ zs. y ∷ zs) rest.1)

-- the list in front of its last element
pub front_of : {X : Type 0} (xs : List X) (x : X) → slice_get xs (length xs - 1) ≡ Some x → (front : List X) × (xs ≡ front ++ x ∷ [])
front_of [] x here = absurd (none_is_none here)
  where
    none_is_none : None ≡ Some x → ⊥
    none_is_none e = cc
front_of (y ∷ ys) x here =
    let n : length (y ∷ ys) - 1 ≡ length ys = omega arith in
    at_last (length ys) (y ∷ ys) x refl (sym (ap (slice_get (y ∷ ys)) n) ∙ here)

pub append_none : {X : Type 0} (xs : List X) → xs ++ [] ≡ xs
append_none [] = refl
append_none (x ∷ xs) = ap (λ ys. x ∷ ys) (append_none xs)
