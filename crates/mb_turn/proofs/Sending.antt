-- A pass and a turn may move to another thread, and a turn may be shared by threads, where the value may move.
use denote.RattleType.{RattleType}
use denote.Param.Send.{IsSend, IsSync, sendable}
use Rattle.std.proofs.Crossing.{crosses}
use Rattle.atomic_table.proofs.shared.Seat.TheSendSync.{the_send as seat}
use Rattle.mb_turn.specs.declared.booked.Booked.{Ghosts}
use Rattle.mb_turn.specs.contracts.pass.Pass.{the_row as pass_row}
use Rattle.mb_turn.specs.contracts.turn.Turn.{the_row as turn_row}
use Rattle.mb_turn.proofs.turn.Turn.TheSendSync.{the_send as turn_sends, the_sync as turn_syncs}

pub pass_send : (T Origin : RattleType) (g : Ghosts T.Denot Origin.Denot) → IsSend T → IsSend (pass_row T Origin g)
pass_send T Origin g sends = search (sendable, crosses, seat) depth 60

pub turn_send : (T Origin : RattleType) (g : Ghosts T.Denot Origin.Denot) → IsSend T → IsSend (turn_row T Origin g)
turn_send T Origin g sends = search (sendable, crosses, turn_sends) depth 60

pub turn_sync : (T Origin : RattleType) (g : Ghosts T.Denot Origin.Denot) → IsSend T → IsSync (turn_row T Origin g)
turn_sync T Origin g sends = search (sendable, crosses, turn_syncs) depth 60
