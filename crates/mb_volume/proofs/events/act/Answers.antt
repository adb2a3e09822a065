use Rattle.std.proofs.Common.{sym, subst}
use Rattle.mb_volume.proofs.Rising.{after_none, after_roll}
use Rattle.mb_volume.specs.Underway.{GrowsAfter}
use Rattle.mb_volume.specs.Rising.{RisesAfter, word_for}
use Rattle.mb_volume.specs.declared.events.Event.{Event}
use Rattle.mb_volume.specs.Coming.{ComesOfEvent}
use Rattle.mb_volume.proofs.events.act.Goals as goal

pub returns-in-Enter-clause-rises : goal.returns-in-Enter-clause-rises
returns-in-Enter-clause-rises g c = after_none (word_for c.args.event) _ _ _ c.enter.ensures.comes.still

pub returns-in-Gather-clause-rises : goal.returns-in-Gather-clause-rises
returns-in-Gather-clause-rises g c = after_none (word_for c.args.event) _ _ _ c.gather.ensures.comes.still

pub returns-in-Finish-clause-rises : goal.returns-in-Finish-clause-rises
returns-in-Finish-clause-rises g c = after_none (word_for c.args.event) _ _ _ c.finish.ensures.comes.still

pub returns-in-Leave-clause-rises : goal.returns-in-Leave-clause-rises
returns-in-Leave-clause-rises g c = after_none (word_for c.args.event) _ _ _ c.leave.ensures.comes.still

pub returns-in-Fault-clause-rises : goal.returns-in-Fault-clause-rises
returns-in-Fault-clause-rises g c =
    subst (λ (e : Event). RisesAfter (word_for e) (g.H.Hook.faults c.args.hook.now) (g.H.Hook.faults c.args.hook.now) (g.C.EventCore.sight c.args.core.now).records (g.C.EventCore.sight c.fault.new.core).records) (sym c.in-Fault.is) c.fault.ensures.rises

pub returns-in-Recover-clause-rises : goal.returns-in-Recover-clause-rises
returns-in-Recover-clause-rises g c = after_roll (word_for c.args.event) _ _ _ _ c.recover.ensures.rises

pub returns-in-Gather-clause-grown : goal.returns-in-Gather-clause-grown
returns-in-Gather-clause-grown g c = subst (λ (e : Event). GrowsAfter e c.args.attempt.now.pages c.gather.new.attempt.pages) (sym c.in-Gather.is) c.gather.ensures.grown

pub returns-in-Enter-clause-comes : goal.returns-in-Enter-clause-comes
returns-in-Enter-clause-comes g c =
    subst (λ (e : Event). ComesOfEvent c.args.call.now (g.H.Hook.test c.args.hook.now) e (g.C.EventCore.sight c.args.core.now) (g.C.EventCore.sight c.enter.new.core) c.args.attempt.now c.enter.new.attempt c.enter.result) (sym c.in-Enter.is) (c.enter.ensures.comes.comes (g.H.Hook.test c.args.hook.now))

pub returns-in-Gather-clause-comes : goal.returns-in-Gather-clause-comes
returns-in-Gather-clause-comes g c =
    subst (λ (e : Event). ComesOfEvent c.args.call.now (g.H.Hook.test c.args.hook.now) e (g.C.EventCore.sight c.args.core.now) (g.C.EventCore.sight c.gather.new.core) c.args.attempt.now c.gather.new.attempt c.gather.result) (sym c.in-Gather.is) (c.gather.ensures.comes.comes (g.H.Hook.test c.args.hook.now))

pub returns-in-Finish-clause-comes : goal.returns-in-Finish-clause-comes
returns-in-Finish-clause-comes g c =
    subst (λ (e : Event). ComesOfEvent c.args.call.now (g.H.Hook.test c.args.hook.now) e (g.C.EventCore.sight c.args.core.now) (g.C.EventCore.sight c.finish.new.core) c.args.attempt.now c.finish.new.attempt c.finish.result) (sym c.in-Finish.is) (c.finish.ensures.comes.comes (g.H.Hook.test c.args.hook.now))

pub returns-in-Leave-clause-comes : goal.returns-in-Leave-clause-comes
returns-in-Leave-clause-comes g c =
    subst (λ (e : Event). ComesOfEvent c.args.call.now (g.H.Hook.test c.args.hook.now) e (g.C.EventCore.sight c.args.core.now) (g.C.EventCore.sight c.leave.new.core) c.args.attempt.now c.leave.new.attempt c.leave.result) (sym c.in-Leave.is) (c.leave.ensures.comes.comes (g.H.Hook.test c.args.hook.now))

pub returns-in-Fault-clause-comes : goal.returns-in-Fault-clause-comes
returns-in-Fault-clause-comes g c =
    subst (λ (e : Event). ComesOfEvent c.args.call.now (g.H.Hook.test c.args.hook.now) e (g.C.EventCore.sight c.args.core.now) (g.C.EventCore.sight c.fault.new.core) c.args.attempt.now c.fault.new.attempt c.fault.result) (sym c.in-Fault.is) c.fault.ensures.comes

pub returns-in-Recover-clause-comes : goal.returns-in-Recover-clause-comes
returns-in-Recover-clause-comes g c =
    subst (λ (e : Event). ComesOfEvent c.args.call.now (g.H.Hook.test c.args.hook.now) e (g.C.EventCore.sight c.args.core.now) (g.C.EventCore.sight c.recover.new.core) c.args.attempt.now c.recover.new.attempt c.recover.result) (sym c.in-Recover.is) c.recover.ensures.comes
