use Rattle.std.proofs.Common.{refl}
use Rattle.mb_frames.proofs.Cells.{is_put, links_put}
use Rattle.mb_frames.proofs.links.Links.link.Goals as goal

pub node_mut-requires-2 : goal.node_mut-requires-2
node_mut-requires-2 c = is_put _ _ _ _ c.requires.1

pub returns-clause-cells : goal.returns-clause-cells
returns-clause-cells c = links_put _ _ _ c.node_mut.result.now _ c.node_mut-2.result.now _ c.requires.0 c.requires.1 c.node_mut.ensures.value (refl, refl, refl, refl, refl) c.node_mut-2.ensures.value (refl, refl, refl, refl, refl)
