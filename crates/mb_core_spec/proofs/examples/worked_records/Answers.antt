use Rattle.mb_core_spec.proofs.Recorded.{worked_records}
use Rattle.mb_core_spec.proofs.examples.worked_records.Goals as goal

pub returns : goal.returns
returns c = worked_records
