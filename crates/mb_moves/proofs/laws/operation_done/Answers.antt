use Rattle.mb_moves.proofs.Done.{operation_done, operation_refused}
use Rattle.mb_moves.proofs.laws.operation_done.Goals as goal

pub returns : goal.returns
returns c = record { done = operation_done; refused = operation_refused }
