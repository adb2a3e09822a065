use Rattle.mb_tree.proofs.CarryingOut.{carried_out_appends}
use Rattle.mb_tree.proofs.history_laws.carried_out_appends.Goals as goal

pub returns : goal.returns
returns c = carried_out_appends
