use Rattle.mb_moves.proofs.Setting.{put_advances}
use Rattle.mb_moves.proofs.laws.part_advances.Goals as goal

pub returns : goal.returns
returns c = λ image tree chain looks stored ino node has size parts part was body there new others long.
    put_advances image tree chain looks stored ino node has size parts part was body there new others long
