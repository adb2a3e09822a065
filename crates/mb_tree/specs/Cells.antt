-- What a row of cells says as a map: the value of each cell that has one, at the cell's place, from 0.
use Rattle.std.specs.Prelude.{List, [], ◌∷◌, ℕ, ◌+◌, Option, Some, None}
use Rattle.std.specs.FinMap as fin
use Rattle.std.specs.Ordering.{nat_cmp}

abbrev pub cell_entries : {X : Type 0} → ℕ → List (Option X) → List (ℕ × X)
cell_entries at [] = []
cell_entries at (None ∷ cells) = cell_entries (at + 1) cells
cell_entries at (Some x ∷ cells) = (at, x) ∷ cell_entries (at + 1) cells

unfoldable pub from_cells : {X : Type 0} → List (Option X) → fin.FinMap nat_cmp X
from_cells cells = fin.from_entries (cell_entries 0 cells)
