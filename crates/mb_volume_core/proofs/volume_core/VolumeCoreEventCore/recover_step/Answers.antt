use Rattle.std.proofs.Common.{◌∙◌, sym, subst}
use Rattle.mb_run.specs.CoreSight.{sight_of}
use Rattle.mb_run.specs.Recovering.{RunsForFlight, Steps}
use Rattle.mb_run.specs.declared.answers.StepAnswer.{StepAnswer}
use Rattle.mb_core_events.specs.Callings.{phase_now}
use Rattle.mb_run.proofs.InTime.{if_some_at, steps_time}
use Rattle.mb_volume_core.proofs.Orderly.{orderly}
use Rattle.mb_volume_core.proofs.Recovering.{comes, goes_on, has_for, rose_at, stands_at, unasked_at}
use Rattle.mb_volume_core.proofs.Rising.{rises}
use Rattle.mb_volume_core.proofs.volume_core.VolumeCoreEventCore.recover_step.Goals as goal

pub recover_step-stepped-requires : goal.recover_step-stepped-requires
recover_step-stepped-requires g c = has_for c.args.self.now.core c.args.by.now c.requires.by

pub returns-clause-on : goal.returns-clause-on
returns-clause-on g c = goes_on _ c.args.by.now c.recover_step-stepped.new.by c.counts_fit.ensures c.recover_step-stepped.ensures.counted

pub returns-clause-unasked : goal.returns-clause-unasked
returns-clause-unasked g c = unasked_at c.args.by.now c.args.hook.now c.recover_step-stepped.new.hook (phase_now c.args.self.now.core) c.recover_step-stepped.ensures.asked

pub returns-clause-steps : goal.returns-clause-steps
returns-clause-steps g c =
    subst (λ (answer : StepAnswer). Steps (g.H.Hook.test c.args.hook.now) c.args.by.now c.recover_step-stepped.new.by (sight_of c.args.self.now.core) (sight_of c.recover_step-stepped.new.core) answer) (sym c.stepped_as.ensures)
    (comes g.D.Disk.told g.D.Disk.faults c.args.self.now.core c.in_order.ensures c.recover_step-stepped.new.core (g.H.Hook.test c.args.hook.now) c.args.by.now c.recover_step-stepped.new.by c.recover_step-stepped.ensures.counted (has_for c.args.self.now.core c.args.by.now c.requires.by)
    (g.H.Hook.struck c.recover_step-stepped.new.hook) c.counts_fit.ensures (g.H.Hook.strokes c.recover_step-stepped.new.hook) c.recover_step-stepped.result c.recover_step-stepped.ensures.heard c.recover_step-stepped.ensures.recovers).0

pub returns-clause-origin : goal.returns-clause-origin
returns-clause-origin g c =
    (comes g.D.Disk.told g.D.Disk.faults c.args.self.now.core c.in_order.ensures c.recover_step-stepped.new.core (g.H.Hook.test c.args.hook.now) c.args.by.now c.recover_step-stepped.new.by c.recover_step-stepped.ensures.counted (has_for c.args.self.now.core c.args.by.now c.requires.by)
    (g.H.Hook.struck c.recover_step-stepped.new.hook) c.counts_fit.ensures (g.H.Hook.strokes c.recover_step-stepped.new.hook) c.recover_step-stepped.result c.recover_step-stepped.ensures.heard c.recover_step-stepped.ensures.recovers).1

pub returns-clause-device : goal.returns-clause-device
returns-clause-device g c = λ is. rose_at g.D.Disk.told g.D.Disk.faults c.args.self.now.core c.recover_step-stepped.new.core c.args.by.now (g.H.Hook.test c.args.hook.now) (g.H.Hook.strokes c.recover_step-stepped.new.hook) c.recover_step-stepped.result
    c.recover_step-stepped.ensures.recovers (sym c.stepped_as.ensures ∙ is)

pub returns-clause-stands : goal.returns-clause-stands
returns-clause-stands g c = λ is. stands_at g.D.Disk.faults c.args.self.now.core c.recover_step-stepped.new.core g.D.Disk.told c.args.by.now (g.H.Hook.test c.args.hook.now) (g.H.Hook.strokes c.recover_step-stepped.new.hook) c.recover_step-stepped.result
    (has_for c.args.self.now.core c.args.by.now c.requires.by) c.recover_step-stepped.ensures.recovers (sym c.stepped_as.ensures ∙ is)

pub returns-clause-rises : goal.returns-clause-rises
returns-clause-rises g c =
    let steps = subst (λ (answer : StepAnswer). Steps (g.H.Hook.test c.args.hook.now) c.args.by.now c.recover_step-stepped.new.by (sight_of c.args.self.now.core) (sight_of c.recover_step-stepped.new.core) answer) c.stepped_as.ensures (returns-clause-steps g c) in
    rises g.D.Disk.told g.D.Disk.faults c.args.self.now.core c.recover_step-stepped.new.core c.args.by.now c.recover_step-stepped.new.by (g.H.Hook.test c.args.hook.now) (g.H.Hook.strokes c.recover_step-stepped.new.hook) _ _ c.recover_step-stepped.result
    c.requires.by c.recover_step-stepped.ensures.recovers steps c.recover_step-stepped.ensures.cause

pub returns-clause-right : goal.returns-clause-right
returns-clause-right g c =
    orderly g.D.Disk.told g.D.Disk.faults c.recover_step-stepped.new.core c.in_order-2.ensures
    (steps_time (g.H.Hook.test c.args.hook.now) c.args.by.now c.recover_step-stepped.new.by _ _ _ (if_some_at (RunsForFlight (sight_of c.args.self.now.core)) c.args.by.now c.requires.by) (returns-clause-steps g c) c.requires.right.seals)
