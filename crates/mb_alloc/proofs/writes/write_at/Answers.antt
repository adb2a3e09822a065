use Rattle.std.proofs.Common.{◌∙◌, ◌+◌, length, ap, arith}
use Rattle.mb_word.specs.Numbers.{put_at}
use Rattle.mb_word.proofs.Writes.{put_mid_whole}
use Rattle.mb_alloc.proofs.writes.write_at.Goals as goal

pub returns-clause-bytes : goal.returns-clause-bytes
returns-clause-bytes c = put_mid_whole c.args.into.now c.args.at (c.args.at + length c.args.bytes.now) c.copy_from_slice.new.self (omega arith) ∙ ap (put_at c.args.into.now c.args.at) c.copy_from_slice.ensures.after
