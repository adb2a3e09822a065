use Rattle.std.proofs.Common.{◌≡◌, ◌++◌, drop, length}
use Rattle.mb_folds.specs.Folded.{folded, folded_from}
use Rattle.mb_oplog.specs.Picked.{as_picked, picked_ops}
use Rattle.mb_oplog_fold.proofs.folds.folded_copy.Given as goal

abbrev pub invariant-loop-at : goal.invariant-loop-at
invariant-loop-at l = record {
  folds : picked_ops l.settled.items ++ folded_from (as_picked l.last) (picked_ops (drop l.at l.log.items)) ≡ folded (picked_ops l.log.items);
  within : l.at-end ≡ length l.log.items;
}
