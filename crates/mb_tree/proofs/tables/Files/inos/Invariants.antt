use Rattle.std.proofs.Common.{◌≡◌, ◌++◌, map, drop}
use Rattle.mb_tree.specs.Filled.{filled}
use Rattle.mb_tree.specs.declared.seats.PlainFile.{PlainFile}
use Rattle.mb_tree.proofs.tables.Files.inos.Given as goal

abbrev pub invariant-loop-cell : goal.invariant-loop-cell
invariant-loop-cell l = l.inos ++ map (λ (file : PlainFile). file.ino) (filled (drop l.cell-index l.cell-items)) ≡ map (λ (file : PlainFile). file.ino) (filled l.cell-items)
