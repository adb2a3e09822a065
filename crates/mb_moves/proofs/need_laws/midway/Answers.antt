use Rattle.mb_moves.proofs.Within.{at_birth, at_node, making_refused, midway_near, midway_reached, midway_written}
use Rattle.mb_moves.proofs.need_laws.midway.Goals as goal

pub returns : goal.returns
returns c = record { node = at_node; birth = at_birth; reached = midway_reached; written = midway_written; near = midway_near; refused = making_refused }
