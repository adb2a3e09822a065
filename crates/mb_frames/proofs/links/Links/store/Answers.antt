use Rattle.std.proofs.Common.{refl}
use Rattle.mb_frames.proofs.Cells.{writes_put}
use Rattle.mb_frames.proofs.links.Links.store.Goals as goal

pub returns-clause-cells : goal.returns-clause-cells
returns-clause-cells c = writes_put _ _ c.node_mut-node.result.now _ _ c.requires c.node_mut-node.ensures.value refl (refl, refl, refl)
