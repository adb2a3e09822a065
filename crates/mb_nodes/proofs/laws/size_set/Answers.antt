use Rattle.mb_nodes.proofs.Setting.{sized_now}
use Rattle.mb_nodes.proofs.laws.size_set.Goals as goal

pub returns : goal.returns
returns c = λ image tree chain stored ino node changed has size more parts body now new written tops fields sized.
    sized_now image tree chain stored ino node has new written tops size more parts body changed now fields sized
