use Rattle.mb_oplog_fold.proofs.Taking.{folds_more}
use Rattle.mb_oplog_fold.proofs.folds.folded_copy.Goals as goal

pub loop-at-preserved : goal.loop-at-preserved
loop-at-preserved c = record {
  folds = folds_more c.loop-at.settled.items c.take_in.new.settled.items c.loop-at.last c.in_ok-last-2.last c.get-in-loop-at.result.now c.args.log.now.items c.loop-at.at _ c.loop-at.invariant.folds c.get-in-loop-at.ensures c.in_ok-last-2.ensures;
  within = c.loop-at.invariant.within;
}
