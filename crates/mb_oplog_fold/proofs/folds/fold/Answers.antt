use Rattle.std.proofs.Common.{◌≤◌, length, sym, subst}
use Rattle.mb_oplog_fold.proofs.Taking.{stays_short}
use Rattle.mb_oplog_fold.proofs.folds.fold.Goals as goal

pub refill-requires : goal.refill-requires
refill-requires c = stays_short c.in_ok-ops.ops.items c.args.log.now.items c.in_ok-ops.ensures

pub returns-clause-short : goal.returns-clause-short
returns-clause-short c = subst (λ items. length items ≤ length c.args.log.now.items) (sym c.refill.ensures.items) (stays_short c.in_ok-ops.ops.items c.args.log.now.items c.in_ok-ops.ensures)
