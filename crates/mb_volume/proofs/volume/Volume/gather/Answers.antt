use Rattle.std.proofs.Common.{ap, ◌∙◌}
use Rattle.mb_kinds.specs.declared.faults.Kind.TheVariants as kind
use Rattle.mb_volume.specs.declared.attempt.Attempt.{Attempt}
use Rattle.mb_volume.proofs.Holding.{counted_leads, later_from, making_counted}
use Rattle.mb_run.proofs.Rising.{rises_then}
use Rattle.mb_volume.proofs.Rising.{rises_unasked}
use Rattle.mb_volume.proofs.Hearing.{asked_there, hears_asked, inside_leaves, not_logged}
use Rattle.mb_volume.specs.Passing.{part_in}
use Rattle.mb_volume.proofs.volume.Volume.gather.Goals as goal

pub ask-requires-clause-leaves : goal.ask-requires-clause-leaves
ask-requires-clause-leaves g c = inside_leaves c.args.attempt.now _ _ c.requires.inside

pub hold-came-requires-clause-making : goal.hold-came-requires-clause-making
hold-came-requires-clause-making g c = rw c.ask.ensures.test (making_counted _ _ _ _ _ _ kind.Gather c.in-None.ensures.passed.pass c.in-None.ensures.passed.attempt c.requires.making)

pub returns-in-Some-clause-comes : goal.returns-in-Some-clause-comes
returns-in-Some-clause-comes g c =
    let struck = c.in-Some.ensures.struck in
    record {
      later = struck.later;
      leads = struck.leads;
      hears = λ caller ordinal first heard. struck.hears caller ordinal first heard.heard (not_logged c.args.attempt.now _ _ c.requires.inside);
      same = struck.same;
      rises = c.ask.ensures.rises;
    }

pub returns-clause-comes : goal.returns-clause-comes
returns-clause-comes g c =
    let past = c.in-None.ensures.passed in
    let came = rw c.ask.ensures.test at c.hold-came.ensures.comes in
    let marks = rw past.pass at c.hold-came.ensures.comes.marks in
    record {
      later = later_from _ c.args.pass.now c.ask.new.pass c.hold-came.new.pass past.pass came.later;
      leads = counted_leads _ _ c.args.pass.now c.ask.new.pass c.hold-came.new.pass _ _ _ kind.Gather _ past.pass past.attempt came.leads;
      hears = hears_asked (g.H.Hook.test c.args.hook.now) (part_in c.args.pass.now).seat (part_in c.hold-came.new.pass).seat c.args.attempt.now c.hold-came.new.attempt c.hold-came.result.0 _ _ _ kind.Gather c.ask.new.attempt c.requires.making.underway.counts past.attempt
          past.hears came.grows marks.crosses (marks.passes (asked_there c.args.attempt.now c.ask.new.attempt kind.Gather c.requires.making.underway.counts past.attempt));
      same = came.same ∙ ap (λ (a : Attempt). a.crossings.caller) past.attempt;
      rises = rises_then _ _ _ _ _ _ c.ask.ensures.rises (rises_unasked _ _ _ _ came.rises);
    }

pub returns-clause-grown : goal.returns-clause-grown
returns-clause-grown g c = rw c.in-None.ensures.passed.attempt at c.hold-came.ensures.grown
