-- Folded lists, worked out.
use Rattle.std.proofs.Common.{◌≡◌, ℕ, ◌+◌, Bool, true, false, ◌&&◌, if◌then◌else◌, List, [], ◌∷◌, ◌++◌, length, nat_le, refl, ap, arith}
use Rattle.std.specs.Prelude.{◌==◌}
use Rattle.std.proofs.lemmas.Bool.Decides.{nat_tests}
use Rattle.mb_tree.specs.declared.operations.FsOp.TheVariants.{Put}
use Rattle.mb_folds.specs.Folded.{folded, most_bytes}
use Rattle.mb_folds.specs.Worked.{Meet, WorkedFolds, plain}

-- two writes whose bytes meet
by_test : (front back : List ℕ) (test : Bool) → (7 + length front == 7 + length front && nat_le (length front + length back) most_bytes) ≡ test
    → folded (plain (Put 3 7 front 1) ∷ plain (Put 3 (7 + length front) back 2) ∷ [])
    ≡ (if test then plain (Put 3 7 (front ++ back) 2) ∷ [] else plain (Put 3 7 front 1) ∷ plain (Put 3 (7 + length front) back 2) ∷ [])
by_test front back test h = ap (λ (b : Bool). if b then plain (Put 3 7 (front ++ back) 2) ∷ [] else plain (Put 3 7 front 1) ∷ plain (Put 3 (7 + length front) back 2) ∷ []) h

full : Meet 65535 (λ front back. plain (Put 3 7 (front ++ back) 2) ∷ [])
full front back h = by_test front back true (grind (arith, nat_tests))

past : Meet 65536 (λ front back. plain (Put 3 7 front 1) ∷ plain (Put 3 (7 + length front) back 2) ∷ [])
past front back h = by_test front back false (grind (arith, nat_tests))

pub worked_folds : WorkedFolds
worked_folds = record { writes = refl; full = full; past = past; gap = refl; over = refl; apart = refl; picked = λ number. refl; again = refl; between = refl }
