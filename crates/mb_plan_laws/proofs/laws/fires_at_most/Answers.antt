use Rattle.mb_plan_laws.proofs.FewFaults.{fires_at_most}
use Rattle.mb_plan_laws.proofs.laws.fires_at_most.Goals as goal

pub returns : goal.returns
returns c = fires_at_most
