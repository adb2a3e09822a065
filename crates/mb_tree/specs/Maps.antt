-- Finite maps from numbers.
use Rattle.std.specs.Prelude.{ℕ, option_map, unwrap_or}
use Rattle.std.specs.FinMap as fin
use Rattle.std.specs.Ordering.{nat_cmp}

abbrev pub Numbered : Type 0 → Type 0
Numbered X = fin.FinMap nat_cmp X

-- the value at a key changed by f, where there is one
abbrev pub changed_at : {X : Type 0} → Numbered X → ℕ → (X → X) → Numbered X
changed_at m key f = unwrap_or (option_map (λ x. fin.insert m key (f x)) (fin.get m key)) m
