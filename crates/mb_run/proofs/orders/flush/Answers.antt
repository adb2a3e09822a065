use Rattle.mb_run.proofs.Calm.{flushed_still}
use Rattle.mb_run.proofs.Quiet.{quiet_flush}
use Rattle.mb_run.proofs.Timely.{timely_flush}
use Rattle.mb_run.proofs.orders.flush.Goals as goal

pub returns-clause-quiet : goal.returns-clause-quiet
returns-clause-quiet g c = quiet_flush _ _ _ c.flush_one.ensures.flushes

pub returns-clause-seals : goal.returns-clause-seals
returns-clause-seals g c = timely_flush _ _ _ c.flush_one.ensures.flushes

pub returns-clause-still : goal.returns-clause-still
returns-clause-still g c = flushed_still _ _ _ c.flush_one.ensures.flushes
