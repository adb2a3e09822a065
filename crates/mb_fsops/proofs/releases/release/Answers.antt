use Rattle.std.proofs.Common.{List, ℕ, None, subst}
use Rattle.mb_tree.specs.declared.operations.FsOp.TheVariants.{Release}
use Rattle.mb_iface.specs.declared.replies.Acted.TheVariants as acted
use Rattle.mb_fsops.specs.Performing.{PerformsAlways}
use Rattle.mb_fsops.proofs.Releasing.{release_asks, release_begins, release_ends, release_next}
use Rattle.mb_fsops.proofs.releases.release.Goals as goal

pub loop-ino-init : goal.loop-ino-init
loop-ino-init g c = release_begins (g.V.View.shown c.args.view.now) c.args.opens.now c.as_slice-inos.result.now c.new-changes.result c.new-changes.ensures

pub loop-ino-preserved : goal.loop-ino-preserved
loop-ino-preserved g c =
    release_next (g.V.View.shown c.args.view.now) c.args.opens.now c.as_slice-inos.result.now c.loop-ino.changes c.release_one.new.changes c.loop-ino.ino-index c.loop-ino-test.true c.loop-ino.invariant c.in-Done.ensures

pub returns-in-Need : goal.returns-in-Need
returns-in-Need g c =
    subst (λ (inos : List ℕ). PerformsAlways (g.V.View.shown c.args.view.now) c.args.opens.now (Release inos) (acted.Need c.in-Need.need)) c.as_slice-inos.ensures
    (release_asks (g.V.View.shown c.args.view.now) c.args.opens.now c.as_slice-inos.result.now c.loop-ino.changes c.release_one.new.changes c.loop-ino.ino-index c.loop-ino-test.true c.loop-ino.invariant c.in-Need.need c.in-Need.ensures)

pub returns : goal.returns
returns g c =
    subst (λ (inos : List ℕ). PerformsAlways (g.V.View.shown c.args.view.now) c.args.opens.now (Release inos) (acted.Done c.loop-ino.changes None)) c.as_slice-inos.ensures
    (release_ends (g.V.View.shown c.args.view.now) c.args.opens.now c.as_slice-inos.result.now c.loop-ino.changes c.loop-ino.ino-index c.loop-ino-test.false c.loop-ino.invariant)
