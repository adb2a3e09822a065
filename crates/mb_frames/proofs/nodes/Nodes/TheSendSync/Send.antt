use denote.Param.Send.{IsSend}
use Rattle.mb_frames.proofs.Crosses.{Nodes-send}
use Rattle.mb_frames.specs.contracts.nodes.Nodes.{the_row}

pub send : IsSend the_row
send = Nodes-send
