use Rattle.mb_moves.proofs.Touching.{near_touched, touched_is}
use Rattle.mb_moves.proofs.need_laws.touched_is_near.Goals as goal

pub returns : goal.returns
returns c = record { looked_at = touched_is; near = near_touched }
