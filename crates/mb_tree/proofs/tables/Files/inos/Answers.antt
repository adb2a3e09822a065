use Rattle.std.proofs.Common.{arith}
use Rattle.mb_tree.proofs.CellMaps.{all_filled}
use Rattle.mb_tree.specs.declared.seats.PlainFile.{PlainFile}
use Rattle.mb_tree.proofs.tables.Files.inos.Goals as goal

pub returns : goal.returns
returns c = all_filled (λ (file : PlainFile). file.ino) c.loop-cell.inos c.self.inside.cells _ c.loop-cell.cell-index c.self.view_is (omega (arith, c.self.invariant)) c.loop-cell.invariant
