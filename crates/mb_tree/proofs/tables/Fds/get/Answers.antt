use Rattle.std.proofs.Common.{arith}
use Rattle.mb_tree.proofs.CellMaps.{get_cell, cell_past}
use Rattle.mb_tree.proofs.tables.Fds.get.Goals as goal

pub returns-then-at-lt20 : goal.returns-then-at-lt20
returns-then-at-lt20 c = get_cell _ c.self.inside.cells c.from-at.result c.args.fd _ c.self.view_is c.from-at.ensures (omega (arith, c.self.invariant))

pub returns-else-at-lt20 : goal.returns-else-at-lt20
returns-else-at-lt20 c = cell_past _ c.self.inside.cells c.from-at.result c.args.fd c.self.view_is c.from-at.ensures (omega (arith, c.self.invariant))
