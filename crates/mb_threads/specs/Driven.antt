-- The fault injectors of a job's callers.
use Rattle.std.specs.Prelude.{ℕ, zero, suc, List, [], ◌∷◌, Bool, Option, None}
use Rattle.mb_edge.specs.declared.crossings.Crossing.{Crossing}

-- the test of the caller's fault injector, which are in the order of the callers
abbrev pub test_of : List (Option (Crossing → Bool)) → ℕ → Option (Crossing → Bool)
test_of [] caller = None
test_of (test ∷ tests) zero = test
test_of (test ∷ tests) (suc caller) = test_of tests caller
