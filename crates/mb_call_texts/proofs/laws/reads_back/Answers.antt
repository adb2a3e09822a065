use Rattle.mb_call_texts.proofs.ReadBack.{reads_back}
use Rattle.mb_call_texts.proofs.laws.reads_back.Goals as goal

pub returns : goal.returns
returns c = reads_back
