use Rattle.std.proofs.Common.{◌/◌, ◌%◌, ◌+◌, refl, arith}
use Rattle.mb_word.specs.Numbers.{word_bytes, long_bytes}
use Rattle.mb_word.proofs.Values.{length-word_bytes}
use Rattle.mb_word.proofs.Writes.{put_more}
use Rattle.mb_word.proofs.writers.put_long.Goals as goal

pub returns : goal.returns
unfolding long_bytes
returns c =
    put_more c.args.b.now c.put_word.new.b c.put_word-2.new.b c.args.at (c.args.at + 2) 2
    (word_bytes (c.args.value / 65536)) (word_bytes (c.args.value % 65536))
    (length-word_bytes (c.args.value / 65536)) refl (omega (arith, length-word_bytes (c.args.value % 65536)))
    c.put_word.ensures c.put_word-2.ensures
