use Rattle.mb_call_texts.proofs.Examples.{worked_texts}
use Rattle.mb_call_texts.proofs.laws.worked_texts.Goals as goal

pub returns : goal.returns
returns c = worked_texts
