use Rattle.mb_scan_laws.proofs.Scans.{accepts as proved}
use Rattle.mb_scan_laws.proofs.laws.accepts.Goals as goal

pub returns : goal.returns
returns c = proved
