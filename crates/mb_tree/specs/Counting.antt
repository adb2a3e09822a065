-- Sums and searches over numbers in a row.
use Rattle.std.specs.Prelude.{ℕ, zero, suc, ◌+◌, Bool, if◌then◌else◌, Option, Some, None, is_some}

-- g 0 + .. + g (n - 1)
unfoldable pub sum_below : (ℕ → ℕ) → ℕ → ℕ
sum_below g zero = 0
sum_below g (suc n) = g n + sum_below g n

-- the least of the n numbers from low on that passes
unfoldable pub first_from : (ℕ → Bool) → ℕ → ℕ → Option ℕ
first_from passes low zero = None
first_from passes low (suc n) = if passes low then Some low else first_from passes (low + 1) n

-- whether one of the n numbers from low on passes
abbrev pub any_from : (ℕ → Bool) → ℕ → ℕ → Bool
any_from passes low n = is_some (first_from passes low n)
