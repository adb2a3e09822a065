use Rattle.std.proofs.Common.{refl, ap, ◌∙◌}
use Rattle.mb_edge.specs.declared.crossings.Crossings.{Crossings}
use Rattle.mb_volume.specs.Passing.{part_in}
use Rattle.mb_run.proofs.Rising.{rises_none}
use Rattle.mb_volume.proofs.Hearing.{hears_fault, hears_go}
use Rattle.mb_volume.proofs.volume.Volume.ask.Goals as goal

pub returns-in-Go-clause-rises : goal.returns-in-Go-clause-rises
returns-in-Go-clause-rises g c = rises_none _ _ _ _ c.in-Go.ensures.cause.later refl

pub returns-in-Fault-clause-rises : goal.returns-in-Fault-clause-rises
returns-in-Fault-clause-rises g c = c.hold-came.ensures.comes.rises _ c.in-Fault.ensures.cause

pub returns-in-Go-clause-passed : goal.returns-in-Go-clause-passed
returns-in-Go-clause-passed g c = record {
  pass = refl;
  attempt = ap (λ (crossings : Crossings). record c.args.attempt.now { crossings = crossings }) c.next-crossing.ensures.counted;
  hears = hears_go (g.H.Hook.test c.args.hook.now) c.args.attempt.now.crossings c.args.kind c.requires.making.underway.counts _ _ c.in-Go.ensures.cause.later (rw c.next-crossing.ensures.crossing at c.in-Go.ensures.answer);
}

pub returns-in-Fault-clause-struck : goal.returns-in-Fault-clause-struck
returns-in-Fault-clause-struck g c =
    let came = c.hold-came.ensures.comes in
    record {
      later = came.later;
      leads = rw c.in-Fault.ensures.test at came.leads;
      hears = hears_fault (g.H.Hook.test c.args.hook.now) (part_in c.args.pass.now).seat (part_in c.hold-came.new.pass).seat c.args.attempt.now c.hold-came.new.attempt c.hold-came.result.0 _ _ _ c.args.kind c.requires.making.underway.counts
          (c.in-Fault.ensures.cause.struck refl) came.grows c.in-Fault.ensures.cause.later (came.marks.crosses ∙ c.next-crossing.ensures.counted) (rw c.next-crossing.ensures.counted at came.marks.passes);
      same = came.same;
    }
