use Rattle.std.proofs.Common.{◌-◌}
use Rattle.mb_frames.proofs.Walks.{Walking}
use Rattle.mb_frames.proofs.links.Links.walk.Given as goal

abbrev pub invariant-steps : goal.invariant-steps
invariant-steps l = Walking l.self.nodes.cells l.fn.head.ptr l.most l.at.ptr l.steps

abbrev pub decreases-steps : goal.decreases-steps
decreases-steps l = l.most - l.steps
