-- Sums over callers, and how far a loop over them has come.
use Rattle.std.proofs.Common.{◌≡◌, ℕ, zero, suc, ◌+◌, List, [], ◌∷◌, ◌++◌, Some, refl, ap, ◌∙◌, arith, slice_get, drop, replicate}
use Rattle.mb_cache.proofs.PageLoops.{next_first}
use Rattle.mb_core_spec.specs.Callers.{total}

module _ {X : Type 0} where
  pub one_more : (n : ℕ) (x : X) → replicate n x ++ x ∷ [] ≡ replicate (n + 1) x
  one_more zero x = refl
  one_more (suc n) x = let next : suc (n + 1) ≡ suc n + 1 = omega arith in ap (λ xs. x ∷ xs) (one_more n x) ∙ ap (λ k. replicate k x) next

  pub total_append : (f : X → ℕ) (xs ys : List X) → total f (xs ++ ys) ≡ total f xs + total f ys
  total_append f [] ys = omega arith
  total_append f (x ∷ xs) ys = let rest = total_append f xs ys in omega (arith, rest)

  -- one element more is added
  pub summed_more : (f : X → ℕ) (sum new goal : ℕ) (xs : List X) (at : ℕ) (x : X) → sum + total f (drop at xs) ≡ goal → slice_get xs at ≡ Some x → new ≡ sum + f x → new + total f (drop (at + 1) xs) ≡ goal
  summed_more f sum new goal xs at x so_far here one =
      let rest : total f (drop at xs) ≡ f x + total f (drop (at + 1) xs) = ap (total f) (next_first xs at x here) in
      omega (arith, so_far, one, rest)
