use Rattle.mb_word.specs.Numbers.{put_at, word_bytes}
use Rattle.mb_alloc.proofs.writes.word.Goals as goal

pub returns : goal.returns
unfolding put_at word_bytes
returns c = c.put_word.ensures
