-- The values among the cells of a row that have one, in order.
use Rattle.std.specs.Prelude.{List, [], ◌∷◌, Option, Some, None}

abbrev pub filled : {X : Type 0} → List (Option X) → List X
filled [] = []
filled (None ∷ cells) = filled cells
filled (Some x ∷ cells) = x ∷ filled cells
