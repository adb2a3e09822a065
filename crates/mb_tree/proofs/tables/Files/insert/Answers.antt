use Rattle.std.proofs.Common.{arith}
use Rattle.mb_tree.proofs.CellMaps.{put_cell}
use Rattle.mb_tree.proofs.tables.Files.insert.Goals as goal

pub returns : goal.returns
returns c = put_cell _ c.self.inside.cells c.from.result c.args.place c.args.file c.self.view_is c.from.ensures (omega (arith, c.self.invariant))
