use Rattle.mb_tree.proofs.CarryingOut.{carried_out_goes_on}
use Rattle.mb_tree.proofs.history_laws.carried_out_goes_on.Goals as goal

pub returns : goal.returns
returns c = carried_out_goes_on
