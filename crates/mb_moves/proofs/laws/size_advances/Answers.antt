use Rattle.mb_moves.proofs.Setting.{sized_advances}
use Rattle.mb_moves.proofs.laws.size_advances.Goals as goal

pub returns : goal.returns
returns c = λ image tree chain looks stored ino node changed has size more parts body now new written tops fields sized.
    sized_advances image tree chain looks stored ino node has changed size more parts body now new written tops fields sized
