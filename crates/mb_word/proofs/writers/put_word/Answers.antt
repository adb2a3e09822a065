use Rattle.std.proofs.Common.{arith}
use Rattle.mb_word.specs.Numbers.{word_bytes}
use Rattle.mb_word.proofs.Writes.{put_mid_front}
use Rattle.mb_word.proofs.writers.put_word.Goals as goal

pub returns : goal.returns
unfolding word_bytes
returns c = put_mid_front c.args.b.now c.args.at (word_bytes c.args.value) c.write_u16.new.buf (omega arith) c.write_u16.ensures
