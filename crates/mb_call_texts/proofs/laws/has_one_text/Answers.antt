use Rattle.mb_call_texts.proofs.Writables.{has_one_text}
use Rattle.mb_call_texts.proofs.laws.has_one_text.Goals as goal

pub returns : goal.returns
returns c = has_one_text
