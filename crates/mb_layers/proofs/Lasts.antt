-- The last page of a list of different blocks is taken out.
use Rattle.std.proofs.Common.{◌≡◌, ℕ, ◌-◌, false, cond, List, [], ◌∷◌, ◌++◌, Some, length, slice_get, nat_eq, sym, ap, ◌∙◌, subst, arith, length-append}
use Rattle.std.proofs.Math.Seq.{get_or-append_seam}
use Rattle.std.proofs.lemmas.Map.Keys.{IsDistinct-head, IsDistinct-tail}
use Rattle.std.proofs.lemmas.Option.{get_or_from_slice_get}
use Rattle.std.specs.List.{IsDistinct, AllByRecursion}
use Rattle.std.specs.Map.{keys_of, remove_entry}
use Rattle.mb_layers.specs.Pages.{PageList}
use Rattle.mb_layers.proofs.Finds.{block_self, block_swap}

last_is : {X : Type 0} (xs : List X) (y z : X) → slice_get (xs ++ y ∷ []) (length (xs ++ y ∷ []) - 1) ≡ Some z → y ≡ z
last_is xs y z here =
    let n : length (xs ++ y ∷ []) - 1 ≡ length xs = omega (arith, length-append xs (y ∷ [])) in
    sym (get_or-append_seam xs y [] z) ∙ get_or_from_slice_get (xs ++ y ∷ []) (length xs) z z (sym (ap (slice_get (xs ++ y ∷ [])) n) ∙ here)

off_last : (block : ℕ) (front : PageList) (page : ℕ × List ℕ) → AllByRecursion (λ key. nat_eq block key ≡ false) (keys_of (front ++ page ∷ [])) → nat_eq block page.0 ≡ false
off_last block [] page off = off.0
off_last block (x ∷ front) page off = off_last block front page off.1

cut_last : (front : PageList) (page : ℕ × List ℕ) → IsDistinct nat_eq (keys_of (front ++ page ∷ [])) → remove_entry (nat_eq page.0) (front ++ page ∷ []) ≡ front
cut_last [] page once = ap (λ y. cond y [] (page ∷ [])) (block_self page.0)
cut_last (x ∷ front) page once =
    let off : nat_eq x.0 page.0 ≡ false = off_last x.0 front page (IsDistinct-head nat_eq x.0 (keys_of (front ++ page ∷ [])) once) in
    ap (λ y. cond y (front ++ page ∷ []) (x ∷ remove_entry (nat_eq page.0) (front ++ page ∷ []))) (block_swap page.0 x.0 ∙ off)
    ∙ ap (λ l. x ∷ l) (cut_last front page (IsDistinct-tail nat_eq x.0 (keys_of (front ++ page ∷ [])) once))

-- what is left without the entry of the last page's block are the pages before it
pub last_left : (pages front : PageList) (page : ℕ × List ℕ) (block : ℕ) (bytes : List ℕ) (count : ℕ) → count ≡ length pages → IsDistinct nat_eq (keys_of pages) → slice_get pages (count - 1) ≡ Some (block, bytes)
    → pages ≡ front ++ page ∷ [] → remove_entry (nat_eq block) pages ≡ front
last_left pages front page block bytes count whole once here cut =
    let is : page ≡ (block, bytes) = last_is front page (block, bytes) (subst (λ l. slice_get l (length l - 1) ≡ Some (block, bytes)) cut (ap (λ n. slice_get pages (n - 1)) (sym whole) ∙ here)) in
    ap (λ (p : ℕ × List ℕ). remove_entry (nat_eq p.0) pages) (sym is) ∙ ap (remove_entry (nat_eq page.0)) cut ∙ cut_last front page (subst (λ l. IsDistinct nat_eq (keys_of l)) cut once)
