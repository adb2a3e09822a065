use Rattle.std.proofs.Common.{arith}
use Rattle.mb_tree.proofs.CellMaps.{get_cell, cell_past}
use Rattle.mb_tree.proofs.tables.Files.get.Goals as goal

pub returns-then-at-lt17-clause-file : goal.returns-then-at-lt17-clause-file
returns-then-at-lt17-clause-file c = get_cell _ c.self.inside.cells c.from-at.result c.args.place _ c.self.view_is c.from-at.ensures (omega (arith, c.self.invariant))

pub returns-else-at-lt17-clause-file : goal.returns-else-at-lt17-clause-file
returns-else-at-lt17-clause-file c = cell_past _ c.self.inside.cells c.from-at.result c.args.place c.self.view_is c.from-at.ensures (omega (arith, c.self.invariant))
