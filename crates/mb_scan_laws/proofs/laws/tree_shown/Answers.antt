use Rattle.mb_scan_laws.proofs.Scans.{tree_shown as proved}
use Rattle.mb_scan_laws.proofs.laws.tree_shown.Goals as goal

pub returns : goal.returns
returns c = proved
