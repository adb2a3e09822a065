use Rattle.mb_scan_laws.proofs.ParentsAccepted.{parents_accept as proved}
use Rattle.mb_scan_laws.proofs.laws.parents_accept.Goals as goal

pub returns : goal.returns
returns c = proved
