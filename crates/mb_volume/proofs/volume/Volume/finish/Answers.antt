use Rattle.std.proofs.Common.{ap, ◌∙◌}
use Rattle.mb_kinds.specs.declared.faults.Kind.TheVariants as kind
use Rattle.mb_volume.specs.declared.attempt.Attempt.{Attempt}
use Rattle.mb_volume.proofs.Holding.{counted_leads, later_from, making_counted}
use Rattle.mb_run.proofs.Rising.{rises_then}
use Rattle.mb_volume.proofs.Rising.{rises_unasked}
use Rattle.mb_volume.proofs.Hearing.{asked_there, finish_asked, hears_asked, hears_same, inside_leaves, not_logged}
use Rattle.mb_volume.specs.Passing.{part_in}
use Rattle.mb_volume.proofs.volume.Volume.finish.Goals as goal

pub ask-requires-clause-leaves : goal.ask-requires-clause-leaves
ask-requires-clause-leaves g c = inside_leaves c.args.attempt.now _ _ c.requires.inside

pub hold-requires-clause-making : goal.hold-requires-clause-making
hold-requires-clause-making g c = rw c.ask.ensures.test (making_counted _ _ _ _ _ _ kind.Finish c.in-None.ensures.passed.pass c.in-None.ensures.passed.attempt c.requires.making)

pub returns-in-Some-clause-comes : goal.returns-in-Some-clause-comes
returns-in-Some-clause-comes g c =
    let struck = c.in-Some.ensures.struck in
    record {
      later = struck.later;
      leads = struck.leads;
      hears = λ caller ordinal first heard. struck.hears caller ordinal first heard.heard (not_logged c.args.attempt.now _ _ c.requires.inside);
      same = struck.same;
      rises = c.ask.ensures.rises;
    }

pub returns-then-not-attempt-clause-comes : goal.returns-then-not-attempt-clause-comes
returns-then-not-attempt-clause-comes g c =
    let past = c.in-None.ensures.passed in
    let came = rw c.ask.ensures.test at c.hold.ensures.comes in
    let marks = rw past.pass at c.hold.ensures.comes.marks in
    record {
      later = later_from _ c.args.pass.now c.ask.new.pass c.hold.new.pass past.pass came.later;
      leads = counted_leads _ _ c.args.pass.now c.ask.new.pass c.hold.new.pass _ _ _ kind.Finish _ past.pass past.attempt came.leads;
      hears = hears_asked (g.H.Hook.test c.args.hook.now) (part_in c.args.pass.now).seat (part_in c.hold.new.pass).seat c.args.attempt.now c.hold.new.attempt c.hold.result.0 _ _ _ kind.Finish c.ask.new.attempt c.requires.making.underway.counts past.attempt
          past.hears came.grows marks.crosses (marks.passes (asked_there c.args.attempt.now c.ask.new.attempt kind.Finish c.requires.making.underway.counts past.attempt));
      same = came.same ∙ ap (λ (a : Attempt). a.crossings.caller) past.attempt;
      rises = rises_then _ _ _ _ _ _ c.ask.ensures.rises (rises_unasked _ _ _ _ came.rises);
    }

pub returns-clause-comes : goal.returns-clause-comes
returns-clause-comes g c =
    let came = c.hold-2.ensures.comes in
    record {
      later = came.later;
      leads = came.leads;
      hears = hears_same (g.H.Hook.test c.args.hook.now) (part_in c.args.pass.now).seat (part_in c.hold-2.new.pass).seat c.args.attempt.now c.hold-2.new.attempt c.hold-2.result.0 _ _ came.grows came.marks.crosses
          (λ passed. came.marks.passes (finish_asked (part_in c.args.pass.now).seat c.args.attempt.now _ c.requires.inside c.if-not-attempt.false passed) passed);
      same = came.same;
      rises = rises_unasked _ _ _ _ came.rises;
    }
