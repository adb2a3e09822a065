use Rattle.mb_scan_laws.proofs.Storing.{stores as proved}
use Rattle.mb_scan_laws.proofs.laws.stores.Goals as goal

pub returns : goal.returns
returns c = proved
