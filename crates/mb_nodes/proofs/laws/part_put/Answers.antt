use Rattle.mb_nodes.proofs.Setting.{put_now}
use Rattle.mb_nodes.proofs.laws.part_put.Goals as goal

pub returns : goal.returns
returns c = λ image tree chain stored ino node has size parts part was body there new others long.
    put_now image tree chain stored ino node has size parts part was body there new others long
