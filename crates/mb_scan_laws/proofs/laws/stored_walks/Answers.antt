use Rattle.mb_scan_laws.proofs.Storing.{stored_walks as proved}
use Rattle.mb_scan_laws.proofs.laws.stored_walks.Goals as goal

pub returns : goal.returns
returns c = proved
