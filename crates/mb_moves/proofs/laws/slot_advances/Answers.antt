use Rattle.mb_moves.proofs.Setting.{slot_advances}
use Rattle.mb_moves.proofs.laws.slot_advances.Goals as goal

pub returns : goal.returns
returns c = λ image tree chain looks stored ino node has slots body at low slot new sets.
    slot_advances image tree chain looks stored ino node has slots body at low slot new sets
