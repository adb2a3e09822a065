use Rattle.mb_fsops.proofs.Releasing.{AreReleased}
use Rattle.mb_fsops.proofs.releases.release.Given as goal

abbrev pub invariant-loop-ino : goal.invariant-loop-ino
invariant-loop-ino g l = AreReleased (g.V.View.shown l.view) l.opens l.inos l.changes l.ino-index
