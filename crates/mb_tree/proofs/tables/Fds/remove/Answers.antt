use Rattle.std.proofs.Common.{arith}
use Rattle.mb_tree.proofs.CellMaps.{drop_cell, drop_past}
use Rattle.mb_tree.proofs.tables.Fds.remove.Goals as goal

pub returns-then-at-ge20 : goal.returns-then-at-ge20
returns-then-at-ge20 c = drop_past _ c.self.inside.cells c.from-at.result c.args.fd c.self.view_is c.from-at.ensures (omega (arith, c.self.invariant))

pub returns : goal.returns
returns c = drop_cell _ c.self.inside.cells c.from-at.result c.args.fd c.self.view_is c.from-at.ensures (omega (arith, c.self.invariant))
