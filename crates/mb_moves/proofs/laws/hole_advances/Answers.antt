use Rattle.mb_moves.proofs.Growing.{filled_advances}
use Rattle.mb_moves.proofs.laws.hole_advances.Goals as goal

pub returns : goal.returns
returns c = λ image tree chain looks stored ino node has size parts part body none below new reaches.
    filled_advances image tree chain looks stored ino node has size parts part body none below new reaches
