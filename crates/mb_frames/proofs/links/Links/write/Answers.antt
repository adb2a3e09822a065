use Rattle.std.proofs.Common.{refl}
use Rattle.mb_frames.proofs.Cells.{block_read, writes_put}
use Rattle.mb_frames.proofs.links.Links.write.Goals as goal

pub returns-clause-cells : goal.returns-clause-cells
returns-clause-cells c = writes_put _ _ c.node_mut.result.now _ _ c.requires c.node_mut.ensures.value (block_read _ _ _ c.node_mut.ensures.value c.requires) (refl, refl, refl)
