use Rattle.mb_call_texts.proofs.Examples.{worked_readings}
use Rattle.mb_call_texts.proofs.laws.worked_readings.Goals as goal

pub returns : goal.returns
returns c = worked_readings
