use Rattle.mb_call_texts.proofs.Writables.{reads_writable}
use Rattle.mb_call_texts.proofs.laws.reads_writable.Goals as goal

pub returns : goal.returns
returns c = reads_writable
