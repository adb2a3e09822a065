use Rattle.mb_scan_laws.proofs.SlotsAccepted.{slots_accept as proved}
use Rattle.mb_scan_laws.proofs.laws.slots_accept.Goals as goal

pub returns : goal.returns
returns c = proved
