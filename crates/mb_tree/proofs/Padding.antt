-- A piece copied over zeros is its name.
use Rattle.std.proofs.Common.{◌≡◌, ℕ, zero, suc, ◌≤◌, List, [], ◌∷◌, ◌++◌, length, take, drop, min, replicate, refl, ap, ◌∙◌, arith, lit≤}
use Rattle.mb_tree.specs.Lookup.{padded}

zeros_taken : (w v : ℕ) → w ≤ v → replicate {A = ℕ} w 0 ≡ take w (replicate v 0)
zeros_taken zero v h = refl
zeros_taken (suc w) zero h = absurd (omega arith)
zeros_taken (suc w) (suc v) h = ap (λ xs. 0 ∷ xs) (zeros_taken w v (omega arith))

filled : (m w v : ℕ) (piece : List ℕ) → w ≤ v → m ≡ min (length piece) w → take m piece ++ drop m (replicate w 0) ≡ take w (piece ++ replicate v 0)
filled zero zero v piece h e = refl
filled zero (suc w) v [] h e = zeros_taken (suc w) v h
filled zero (suc w) v (x ∷ piece) h e = absurd (omega arith)
filled (suc m) zero v piece h e = absurd (omega arith)
filled (suc m) (suc w) v [] h e = absurd (omega arith)
filled (suc m) (suc w) v (x ∷ piece) h e = ap (λ xs. x ∷ xs) (filled m w v piece (omega arith) (omega arith))

pub is_padded : (most : ℕ) (piece front : List ℕ) → most ≡ min (length piece) 14 → front ≡ take most piece → front ++ drop most (replicate 14 0) ≡ padded piece
unfolding padded
is_padded most piece front e f = ap (λ xs. xs ++ drop most (replicate 14 0)) f ∙ filled most 14 14 piece (lit≤ tt) e
