use Rattle.std.proofs.Common.{refl, replicate, arith}
use Rattle.mb_file.specs.Freeing.{list_block}
use Rattle.mb_file.proofs.Hanging.{count_one, moved}
use Rattle.mb_file.proofs.hangs.begin_list.Goals as goal

pub returns-clause-moves : goal.returns-clause-moves
returns-clause-moves c = moved c.args.first.now (replicate 512 0) (list_block c.args.first.now) c.put_word.new.b c.put_long.new.b c.args.block (omega arith) refl refl c.put_word.ensures c.put_long.ensures c.requires

pub returns-clause-count : goal.returns-clause-count
returns-clause-count c = count_one c.args.first.now (replicate 512 0) (list_block c.args.first.now) c.put_word.new.b c.put_long.new.b c.args.block (omega arith) refl refl c.put_word.ensures c.put_long.ensures
