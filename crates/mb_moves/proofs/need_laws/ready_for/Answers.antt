use Rattle.mb_moves.proofs.Asking.{ready_for, stored_rules}
use Rattle.mb_moves.proofs.need_laws.ready_for.Goals as goal

pub returns : goal.returns
returns c = record { rules = stored_rules; ready = ready_for }
