use Rattle.mb_tree.proofs.CarryingOut.{carried_out_once}
use Rattle.mb_tree.proofs.history_laws.carried_out_once.Goals as goal

pub returns : goal.returns
returns c = carried_out_once
