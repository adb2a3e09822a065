use Rattle.mb_moves.proofs.InARow.{nothing_done, one_after_another}
use Rattle.mb_moves.proofs.laws.steps_in_a_row.Goals as goal

pub returns : goal.returns
returns c = record { nothing = nothing_done; another = one_after_another }
