-- Sums over a list, of which one term changes.
use Rattle.std.proofs.Common.{◌≡◌, ℕ, zero, suc, ◌+◌, ◌<◌, ◌≤◌, List, [], ◌∷◌, length, get_or, set, refl, ap, arith}
use Rattle.std.specs.Prelude.{◌≢◌}
use Rattle.mb_frames.specs.Counts.{total}

module _ {X : Type 0} (f : X → ℕ) (d : X) where
  pub total_at : (xs : List X) (i : ℕ) → i < length xs → f (get_or xs i d) ≤ total f xs
  unfolding total
  total_at [] i w = absurd (omega arith)
  total_at (x ∷ xs) zero w = omega arith
  total_at (x ∷ xs) (suc i) w = omega (arith, total_at xs i (omega arith))

  pub total_set : (xs : List X) (i : ℕ) (y : X) → i < length xs → total f (set xs i y) + f (get_or xs i d) ≡ total f xs + f y
  unfolding total
  total_set [] i y w = absurd (omega arith)
  total_set (x ∷ xs) zero y w = omega arith
  total_set (x ∷ xs) (suc i) y w = omega (arith, total_set xs i y (omega arith))

  pub total_two : (xs : List X) (i j : ℕ) → i ≢ j → i < length xs → j < length xs → f (get_or xs i d) + f (get_or xs j d) ≤ total f xs
  unfolding total
  total_two [] i j n w v = absurd (omega arith)
  total_two (x ∷ xs) zero zero n w v = absurd (n refl)
  total_two (x ∷ xs) zero (suc j) n w v = omega (arith, total_at xs j (omega arith))
  total_two (x ∷ xs) (suc i) zero n w v = omega (arith, total_at xs i (omega arith))
  total_two (x ∷ xs) (suc i) (suc j) n w v = omega (arith, total_two xs i j (λ e. n (ap suc e)) (omega arith) (omega arith))
