use Rattle.mb_moves.proofs.Setting.{set_advances}
use Rattle.mb_moves.proofs.laws.fields_advance.Goals as goal

pub returns : goal.returns
returns c = λ image tree chain looks stored ino node changed has body new written keeps fields.
    set_advances image tree chain looks stored ino node has changed body new written keeps fields
