use Rattle.std.proofs.Common.{ap, ◌∙◌}
use Rattle.mb_kinds.specs.declared.faults.Kind.TheVariants as kind
use Rattle.mb_volume.specs.declared.attempt.Attempt.{Attempt}
use Rattle.mb_volume.specs.declared.events.Came.TheVariants as came
use Rattle.mb_volume.proofs.Holding.{at_inside, counted_on, holds_inside, inside_then, later_past, later_then, making_inside}
use Rattle.mb_run.proofs.Rising.{rises_then}
use Rattle.mb_volume.proofs.Rising.{rises_unasked}
use Rattle.mb_volume.proofs.Hearing.{hears_entered, hears_outside, hears_struck, inside_leaves}
use Rattle.mb_volume.specs.Passing.{part_in}
use Rattle.mb_volume.proofs.volume.Volume.enter.Goals as goal

pub hold-came-requires-clause-may : goal.hold-came-requires-clause-may
hold-came-requires-clause-may g c = c.requires.outside

pub ask-requires-clause-making : goal.ask-requires-clause-making
ask-requires-clause-making g c =
    let came = c.hold-came.ensures.comes in
    rw c.hold-came.ensures.test (making_inside _ _ c.args.pass.now c.hold-came.new.pass _ _ _ _ came.later.caller came.same c.requires.making c.in-Inside.is came.leads)

pub ask-requires-clause-holds : goal.ask-requires-clause-holds
ask-requires-clause-holds g c = holds_inside _ _ c.args.pass.now c.hold-came.new.pass _ _ _ _ c.requires.making c.in-Inside.is c.hold-came.ensures.comes.leads

pub ask-requires-clause-leaves : goal.ask-requires-clause-leaves
ask-requires-clause-leaves g c = inside_leaves c.hold-came.new.attempt _ _ (at_inside _ _ c.args.pass.now c.hold-came.new.pass _ _ _ _ c.requires.making c.in-Inside.is c.hold-came.ensures.comes.leads)

pub returns-in-Some-clause-comes : goal.returns-in-Some-clause-comes
returns-in-Some-clause-comes g c =
    let came = c.hold-came.ensures.comes in
    let struck = rw c.hold-came.ensures.test at c.in-Some.ensures.struck in
    record {
      later = later_then _ _ _ _ came.later struck.later;
      leads = inside_then _ _ c.args.pass.now c.hold-came.new.pass c.ask.new.pass _ _ _ _ _ _ came.same c.in-Inside.is came.leads struck.leads;
      hears = hears_struck (g.H.Hook.test c.args.hook.now) (part_in c.args.pass.now).seat (part_in c.hold-came.new.pass).seat (part_in c.ask.new.pass).seat c.args.attempt.now c.hold-came.new.attempt c.ask.new.attempt c.hold-came.result.0 _
          (at_inside _ _ c.args.pass.now c.hold-came.new.pass _ _ _ _ c.requires.making c.in-Inside.is came.leads) _ _ _ came.grows came.marks.crosses _ struck.hears;
      same = struck.same ∙ came.same;
      rises = rises_then _ _ _ _ _ _ (rises_unasked _ _ _ _ came.rises) c.ask.ensures.rises;
    }

pub returns-in-None-clause-comes : goal.returns-in-None-clause-comes
returns-in-None-clause-comes g c =
    let held = c.hold-came.ensures.comes in
    let past = rw c.hold-came.ensures.test at c.in-None.ensures.passed in
    let making = making_inside _ _ c.args.pass.now c.hold-came.new.pass _ _ _ _ held.later.caller held.same c.requires.making c.in-Inside.is held.leads in
    record {
      later = later_past _ c.args.pass.now c.hold-came.new.pass c.ask.new.pass past.pass held.later;
      leads = inside_then _ _ c.args.pass.now c.hold-came.new.pass c.ask.new.pass c.args.attempt.now c.hold-came.new.attempt c.ask.new.attempt _ came.On _ held.same c.in-Inside.is held.leads
          (counted_on _ _ c.hold-came.new.pass c.ask.new.pass c.hold-came.new.attempt c.ask.new.attempt kind.Enter past.pass past.attempt);
      hears = hears_entered (g.H.Hook.test c.args.hook.now) (part_in c.args.pass.now).seat (part_in c.hold-came.new.pass).seat (part_in c.ask.new.pass).seat c.args.attempt.now c.hold-came.new.attempt c.ask.new.attempt c.hold-came.result.0 _
          (at_inside _ _ c.args.pass.now c.hold-came.new.pass _ _ _ _ c.requires.making c.in-Inside.is held.leads) _ _ _ held.grows held.marks.crosses
          c.in-Inside.is making.underway.counts held.marks.passes past.hears (ap (λ p. (part_in p).seat) past.pass) past.attempt;
      same = ap (λ (a : Attempt). a.crossings.caller) past.attempt ∙ held.same;
      rises = rises_then _ _ _ _ _ _ (rises_unasked _ _ _ _ held.rises) c.ask.ensures.rises;
    }

pub returns-in_default-clause-comes : goal.returns-in_default-clause-comes
returns-in_default-clause-comes g c =
    let came = c.hold-came.ensures.comes in
    record {
      later = came.later;
      leads = came.leads;
      hears = hears_outside (g.H.Hook.test c.args.hook.now) (part_in c.args.pass.now).seat (part_in c.hold-came.new.pass).seat c.args.attempt.now c.hold-came.new.attempt c.hold-came.result.0 _ _ c.in_default.not-Inside came.grows came.marks.crosses came.marks.passes;
      same = came.same;
      rises = rises_unasked _ _ _ _ came.rises;
    }
