use Rattle.mb_core_spec.proofs.Counted.{worked_counts}
use Rattle.mb_core_spec.proofs.examples.worked_counts.Goals as goal

pub returns : goal.returns
returns c = worked_counts
