use Rattle.mb_cache.specs.Kept.{shown}
use Rattle.mb_copies.specs.Reads.{renewed}
use Rattle.mb_copies.proofs.Renewals.{once_more, renewed_more}
use Rattle.mb_copies.proofs.copies.Copies.renew.Goals as goal

pub loop-at-preserved : goal.loop-at-preserved
loop-at-preserved c = record {
  copies = renewed_more (shown c.loop-at.self.items) (shown c.rewrite.new.self.items) c.args.changes.now c.loop-at.at _ _ (renewed c.args.changes.now (shown c.args.self.now.items)) c.at-block.ensures.change c.loop-at.invariant.once c.loop-at.invariant.copies c.rewrite.ensures;
  once = once_more c.args.changes.now c.loop-at.at _ _ c.at-block.ensures.change c.loop-at.invariant.once;
  within = c.loop-at.invariant.within;
}
