use Rattle.mb_moves.proofs.InARow.{changed_in_turn, near_before, nothing_changed, stored_after, stored_at_first}
use Rattle.mb_moves.proofs.laws.changes_in_a_row.Goals as goal

pub returns : goal.returns
returns c = record { nothing = nothing_changed; turns = changed_in_turn; stored = stored_after; near = near_before; first = stored_at_first }
