use Rattle.mb_moves.proofs.Growing.{growth_advances}
use Rattle.mb_moves.proofs.laws.growth_advances.Goals as goal

pub returns : goal.returns
returns c = λ image tree chain looks stored ino node changed has slots more body now some_more in_one one two new reaches writes written tops fields sized.
    growth_advances image tree chain looks stored ino node has changed slots more body now some_more in_one one two new reaches writes written tops fields sized
