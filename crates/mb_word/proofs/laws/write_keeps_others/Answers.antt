use Rattle.mb_word.proofs.Writes.{put_at_same}
use Rattle.mb_word.proofs.laws.write_keeps_others.Goals as goal

pub returns : goal.returns
returns c = put_at_same
