-- The worked counts, and the worked logs.
use Rattle.std.proofs.Common.{◌≡◌, [], ◌∷◌, ℕ, List, refl, ap, sym, ◌∙◌, arith}
use Rattle.mb_kinds.specs.declared.calls.Call.{Call}
use Rattle.mb_core_spec.specs.Begun.{idle}
use Rattle.mb_core_spec.specs.Examples.{WorkedCounts, WorkedLogsOf, answered_entry, put_one, two_parts}
use Rattle.mb_core_spec.specs.Numbers.{OwnsEntries}

-- the numbers of two lists
same_second : (a b c d : ℕ) → a ∷ b ∷ [] ≡ c ∷ d ∷ [] → b ≡ d
same_second a b c d h = cc

not_third : (call : Call) → OwnsEntries (answered_entry call 1 ∷ answered_entry call 3 ∷ []) (record idle { begun = 2 }) → ⊥
not_third call counted = (let wrong : 3 ≡ 2 = same_second 1 3 1 2 (counted.places refl) in omega (arith, wrong))

pub worked_counts : WorkedCounts
worked_counts call = (
  record { begun = omega arith; places = λ all. refl },
  record { begun = omega arith; places = λ all. absurd (let wrong : 3 ≡ 2 = all in omega (arith, wrong)) },
  not_third call,
)

pub worked_logs_of : WorkedLogsOf
worked_logs_of machine history sealed_at whole = (
  record { parts = (put_one 0 97 ∷ put_one 1 98 ∷ put_one 2 99 ∷ []) ∷ []; whole = sym whole; left = refl },
  record { parts = two_parts; whole = sym whole; left = refl },
  record { parts = [] ∷ two_parts; whole = sym whole; left = refl },
)
