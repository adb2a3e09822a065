use Rattle.mb_scan_laws.proofs.Costs.{files_cost as proved}
use Rattle.mb_scan_laws.proofs.laws.files_cost.Goals as goal

pub returns : goal.returns
returns c = proved
