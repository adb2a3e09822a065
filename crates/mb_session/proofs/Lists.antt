-- Two lists are equal where they are at each place.
use Rattle.std.proofs.Common.{◌≡◌, ◌<◌, ℕ, suc, List, [], ◌∷◌, length, slice_get, refl, ap, ◌∙◌, arith}

module _ {X : Type 0} where
  pub all_same : (xs ys : List X) → length xs ≡ length ys → ((at : ℕ) → at < length xs → slice_get xs at ≡ slice_get ys at) → xs ≡ ys
  all_same [] [] long same = refl
  all_same [] (y ∷ ys) long same = absurd (omega (arith, long))
  all_same (x ∷ xs) [] long same = absurd (omega (arith, long))
  all_same (x ∷ xs) (y ∷ ys) long same =
      let first = same 0 (omega arith) in
      let head : x ≡ y = cc in
      ap (λ z. z ∷ xs) head ∙ ap (λ zs. y ∷ zs) (all_same xs ys (omega (arith, long)) (λ at within. same (suc at) (omega (arith, within))))
