use Rattle.mb_tree.proofs.CellMaps.{no_cells}
use Rattle.mb_tree.proofs.tables.Fds.new.Goals as goal

pub returns : goal.returns
returns c = no_cells 20
