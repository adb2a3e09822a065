use Rattle.mb_scan_laws.proofs.Scans.{accepted as proved}
use Rattle.mb_scan_laws.proofs.laws.accepted.Goals as goal

pub returns : goal.returns
returns c = proved
