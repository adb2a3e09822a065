-- What the owner of the nodes owns and lends.
use Rattle.std.specs.Prelude.{List, [], ◌∷◌}
use base.Fml.{Lft, Fml, ftrue, fsep}
use denote.Sharing.{nothing, beside}
use denote.Struct.Lending.{lent_at}
use Rattle.std.specs.contracts.impls.GlobalAllocator.TheImpl.{ghosts}
use Rattle.std.specs.Box.Ownership.{box_owns}
use Rattle.mb_frames.specs.Cells.{Cell}
use Rattle.mb_frames.specs.contracts.node.Node.{the_row}

-- the node at its place, and the right to free its block
abbrev pub cell_owns : Cell → Fml
cell_owns c = box_owns (ghosts.dealloc_token c.alloc) the_row c.at c.node

abbrev pub cells_own : List Cell → Fml
cells_own [] = ftrue
cells_own (c ∷ cs) = fsep (cell_owns c) (cells_own cs)

abbrev pub cells_lent : List Cell → Lft → Fml
cells_lent [] = nothing
cells_lent (c ∷ cs) = beside (lent_at the_row c.at c.node) (cells_lent cs)
