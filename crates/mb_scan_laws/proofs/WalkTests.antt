-- Items that are tests alone: a walk goes through where they hold, and meets nothing.
use Rattle.std.proofs.Common.{◌≡◌, ℕ, zero, suc, ◌+◌, List, [], ◌∷◌, ◌++◌, Ok, refl}
use Rattle.std.specs.Prelude.{◌↔◌}
use Rattle.mb_rules.specs.Items.{Item, Holds, Held, walked, each_from}
use Rattle.mb_rules.proofs.Walks.{AllHold, walk_holds}

abbrev pub AreTests : List Item → Type 0
AreTests [] = Unit {0}
AreTests (Holds test block rule ∷ items) = AreTests items
AreTests (Held address ∷ items) = ⊥

pub tests_append : (xs ys : List Item) → AreTests xs → AreTests ys → AreTests (xs ++ ys)
tests_append [] ys one two = two
tests_append (Holds test block rule ∷ xs) ys one two = tests_append xs ys one two
tests_append (Held address ∷ xs) ys one two = absurd one

pub tests_each : (items : ℕ → List Item) (low n : ℕ) → ((k : ℕ) → AreTests (items k)) → AreTests (each_from items low n)
unfolding each_from
tests_each items low zero each = tt
tests_each items low (suc n) each = tests_append (items low) (each_from items (low + 1) n) (each low) (tests_each items (low + 1) n each)

pub tests_walk : (met : List ℕ) (items : List Item) → AreTests items → AllHold items → walked met items ≡ Ok met
unfolding walked
tests_walk met [] are all = refl
tests_walk met (Holds test block rule ∷ items) are all = rw (walked, all.0) (tests_walk met items are all.1)
tests_walk met (Held address ∷ items) are all = absurd are

-- so it goes through exactly where they hold
pub walk_is : (met : List ℕ) (items : List Item) → AreTests items → (walked met items ≡ Ok met) ↔ AllHold items
walk_is met items are = (λ h. (walk_holds met items met h).0, λ all. tests_walk met items are all)
