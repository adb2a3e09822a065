use Rattle.std.proofs.Common.{◌∙◌, arith}
use Rattle.mb_cache.proofs.PageLoops.{installed_more}
use Rattle.mb_cache.proofs.caches.install_pages.Goals as goal

pub loop-at-preserved : goal.loop-at-preserved
loop-at-preserved c = record {
  pages = installed_more c.loop-at.layers.current c.put.new.self.current c.args.changes.now _ c.loop-at.at _ _ c.loop-at.invariant.pages c.at-block.ensures.change c.put.ensures.current;
  sealed = c.put.ensures.sealed ∙ c.loop-at.invariant.sealed;
  room = omega (arith, c.put.ensures.spare, c.loop-at.invariant.room);
  within = c.loop-at.invariant.within;
}
