use Rattle.std.proofs.Common.{refl, subst, sym}
use Rattle.mb_run.specs.Sights.{Sight}
use Rattle.mb_volume.specs.Parts.{part_of}
use Rattle.mb_volume.specs.Underway.{IsCallUnderway}
use Rattle.mb_volume.proofs.Entered.{moves_nothing}
use Rattle.mb_volume.proofs.Marking.{marks_idle, marks_rolled}
use Rattle.mb_volume.proofs.Rolled.{comes_by, moves_by, runs_for, same_caller}
use Rattle.mb_volume.proofs.events.recover.Goals as goal

pub recover_step-stepped-requires-clause-by : goal.recover_step-stepped-requires-clause-by
recover_step-stepped-requires-clause-by g c = runs_for _ _ _ (g.C.EventCore.sight c.args.core.now) _ c.requires.on.2 c.requires.waits

pub returns-in-Idle-clause-comes : goal.returns-in-Idle-clause-comes
returns-in-Idle-clause-comes g c = record {
  goes = λ from u. subst (λ (s : Sight). IsCallUnderway c.args.call.now (g.H.Hook.test c.args.hook.now) from (part_of s c.args.attempt.now.crossings.caller) c.args.attempt.now) (sym c.in-Idle.ensures.steps.1) u;
  marks = marks_idle (g.H.Hook.test c.args.hook.now) _ _ c.args.attempt.now c.requires.on.2.counts c.in-Idle.ensures.steps.1;
  same = refl;
  moves = moves_nothing _ _ _ c.in-Idle.ensures.steps.1;
}

pub returns-in_default-clause-comes : goal.returns-in_default-clause-comes
returns-in_default-clause-comes g c = record {
  goes = λ from u. rw c.rolled.ensures (comes_by _ _ _ _ _ u c.requires.waits _ _ _ _ c.recover_step-stepped.ensures.on c.keep.ensures c.recover_step-stepped.ensures.steps);
  marks = rw c.rolled.ensures (marks_rolled (g.H.Hook.test c.args.hook.now) _ _ c.args.attempt.now c.requires.on.2.counts _ _ c.recover_step-stepped.result c.in_default.not-Idle c.recover_step-stepped.ensures.on c.keep.ensures c.recover_step-stepped.ensures.steps);
  same = same_caller (g.H.Hook.test c.args.hook.now) (g.C.EventCore.sight c.args.core.now) _ c.requires.waits _ _ c.recover_step-stepped.ensures.on c.keep.ensures;
  moves = moves_by (g.H.Hook.test c.args.hook.now) _ c.args.attempt.now c.requires.waits c.requires.right _ _ c.recover_step-stepped.result c.recover_step-stepped.ensures.on c.recover_step-stepped.ensures.steps;
}
