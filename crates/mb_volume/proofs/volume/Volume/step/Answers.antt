use Rattle.mb_volume.proofs.Hearing.{hears_event}
use Rattle.mb_volume.proofs.Rising.{rises_unasked}
use Rattle.mb_volume.specs.Passing.{part_in}
use Rattle.mb_volume.proofs.volume.Volume.step.Goals as goal

pub returns-then-shut-clause-comes : goal.returns-then-shut-clause-comes
returns-then-shut-clause-comes g c =
    let came = c.hold.ensures.comes in
    record {
      later = came.later;
      leads = came.leads;
      hears = hears_event (g.H.Hook.test c.args.hook.now) (part_in c.args.pass.now).seat (part_in c.hold.new.pass).seat c.args.attempt.now c.hold.new.attempt c.hold.result.0 _ _ came.grows came.marks.crosses (came.marks.passes tt);
      same = came.same;
      rises = rises_unasked _ _ _ _ came.rises;
    }
