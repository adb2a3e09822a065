use Rattle.mb_blocks.proofs.SetBytes.{entry_set, top_set}
use Rattle.mb_blocks.proofs.laws.address_bytes.Goals as goal

pub returns : goal.returns
returns c = record {
  entry = λ old new index place value low fits long is others. entry_set old new index place value low fits long is others;
  top = λ old new ino place value some low fits long is others. top_set old new ino place value some low fits long is others;
}
