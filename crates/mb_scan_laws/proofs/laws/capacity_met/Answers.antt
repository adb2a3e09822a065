use Rattle.mb_scan_laws.proofs.Scans.{capacity_met as proved}
use Rattle.mb_scan_laws.proofs.laws.capacity_met.Goals as goal

pub returns : goal.returns
returns c = proved
