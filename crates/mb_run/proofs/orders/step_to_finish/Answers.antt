use Rattle.std.proofs.Common.{◌∙◌, refl}
use Rattle.mb_run.proofs.Going.{turning_begin, turning_less, turning_on}
use Rattle.mb_run.proofs.Moving.{may_look, stopped_move, turned_move}
use Rattle.mb_run.proofs.GivingUp.{may_give_up, turning_gives_up}
use Rattle.mb_run.specs.declared.progress.Went.TheVariants as went
use Rattle.std.proofs.Common.{inl, inr}
use Rattle.mb_run.proofs.Calmly.{late_calm, next_calm, so_far_calm}
use Rattle.mb_run.proofs.Starting.{back_goes, begun_late, busy_goes, ended_goes, on_goes, outside_or_begun, shut_goes, turned_begun}
use Rattle.mb_run.proofs.orders.step_to_finish.Goals as goal

pub steps-init : goal.steps-init
steps-init g c = record { turning = turning_begin _ _ _ _ _ c.requires; begun = outside_or_begun _ _ _ _ _ c.requires; calm = λ nowhere plain. inl (refl, refl); origin = refl; test = refl }

pub look-requires : goal.look-requires
look-requires g c = may_look _ _ _ _ _ c.steps.invariant.turning.may

pub step_early-requires-clause-may : goal.step_early-requires-clause-may
step_early-requires-clause-may g c = rw c.steps.invariant.test c.steps.invariant.turning.may

pub returns-in-Late-clause-moved : goal.returns-in-Late-clause-moved
returns-in-Late-clause-moved g c = stopped_move _ _ _ _ _ _ _ c.steps.invariant.turning

pub give_up-requires : goal.give_up-requires
give_up-requires g c = turning_gives_up _ _ _ _ _ _ _ c.steps.invariant.turning c.in-NoMemory.ensures

pub steps-preserved : goal.steps-preserved
steps-preserved g c = record { turning = turning_on _ _ _ _ _ _ _ _ _ c.steps.invariant.turning (rw c.steps.invariant.test at c.in-On.ensures.did.nears) c.in-On.ensures.did.goes.0 c.step_early.ensures.right; begun = inr (turned_begun _ _ _ _ (g.C.EventCore.sight c.step_early.new.core) _ _ _ c.steps.invariant.turning (c.in-On.ensures.begins on_goes)); calm = so_far_calm _ _ _ _ _ (next_calm _ _ _ _ _ _ _ c.steps.invariant.calm c.in-On.ensures.did.nears.acts (rw c.steps.invariant.test at c.in-On.ensures.calm on_goes)); origin = c.step_early.ensures.origin ∙ c.steps.invariant.origin; test = c.step_early.ensures.test ∙ c.steps.invariant.test }

pub steps-smaller : goal.steps-smaller
steps-smaller g c = turning_less _ _ _ _ _ _ c.in-On.ensures.did.nears c.in-On.ensures.did.goes.1

pub returns-in-Ended-clause-moved : goal.returns-in-Ended-clause-moved
returns-in-Ended-clause-moved g c = turned_move _ _ _ _ _ _ _ _ _ went.Ended c.steps.invariant.turning (rw c.steps.invariant.test at c.in-Ended.ensures.did)

pub returns-in-Back-clause-moved : goal.returns-in-Back-clause-moved
returns-in-Back-clause-moved g c = turned_move _ _ _ _ _ _ _ _ _ went.Back c.steps.invariant.turning (rw c.steps.invariant.test at c.in-Back.ensures.did)

pub returns-in-Shut-clause-moved : goal.returns-in-Shut-clause-moved
returns-in-Shut-clause-moved g c = turned_move _ _ _ _ _ _ _ _ _ went.Shut c.steps.invariant.turning (rw c.steps.invariant.test at c.in-Shut.ensures.did)

pub returns-in-Busy-clause-moved : goal.returns-in-Busy-clause-moved
returns-in-Busy-clause-moved g c = turned_move _ _ _ _ _ _ _ _ _ (went.Busy c.in-Busy.field-0) c.steps.invariant.turning (rw c.steps.invariant.test at c.in-Busy.ensures.did)

pub give_up-requires-in-NoMemory-step_early : goal.give_up-requires-in-NoMemory-step_early
give_up-requires-in-NoMemory-step_early g c = may_give_up _ _ _ _ _ _ _ _ c.steps.invariant.turning.may c.in-NoMemory-step_early.ensures.did.nears c.in-NoMemory-step_early.ensures.did.goes.1 c.step_early.ensures.right

pub returns-in-Ended-clause-begins : goal.returns-in-Ended-clause-begins
returns-in-Ended-clause-begins g c = λ so. turned_begun _ _ _ _ (g.C.EventCore.sight c.step_early.new.core) _ _ _ c.steps.invariant.turning (c.in-Ended.ensures.begins ended_goes)

pub returns-in-Back-clause-begins : goal.returns-in-Back-clause-begins
returns-in-Back-clause-begins g c = λ so. turned_begun _ _ _ _ (g.C.EventCore.sight c.step_early.new.core) _ _ _ c.steps.invariant.turning (c.in-Back.ensures.begins back_goes)

pub returns-in-Shut-clause-begins : goal.returns-in-Shut-clause-begins
returns-in-Shut-clause-begins g c = λ so. turned_begun _ _ _ _ (g.C.EventCore.sight c.step_early.new.core) _ _ _ c.steps.invariant.turning (c.in-Shut.ensures.begins shut_goes)

pub returns-in-Busy-clause-begins : goal.returns-in-Busy-clause-begins
returns-in-Busy-clause-begins g c = λ so. turned_begun _ _ _ _ (g.C.EventCore.sight c.step_early.new.core) _ _ _ c.steps.invariant.turning (c.in-Busy.ensures.begins (busy_goes c.in-Busy.field-0))

pub returns-in-Late-clause-begins : goal.returns-in-Late-clause-begins
returns-in-Late-clause-begins g c = λ so. begun_late (g.C.EventCore.sight c.steps.core) c.steps.runner c.args.runner.now.crossings.caller c.in-Late.ensures c.steps.invariant.begun

pub returns-in-Ended-clause-calm : goal.returns-in-Ended-clause-calm
returns-in-Ended-clause-calm g c = λ so. next_calm _ _ _ _ _ _ _ c.steps.invariant.calm c.in-Ended.ensures.did.nears.acts (rw c.steps.invariant.test at c.in-Ended.ensures.calm ended_goes)

pub returns-in-Back-clause-calm : goal.returns-in-Back-clause-calm
returns-in-Back-clause-calm g c = λ so. next_calm _ _ _ _ _ _ _ c.steps.invariant.calm c.in-Back.ensures.did.nears.acts (rw c.steps.invariant.test at c.in-Back.ensures.calm back_goes)

pub returns-in-Shut-clause-calm : goal.returns-in-Shut-clause-calm
returns-in-Shut-clause-calm g c = λ so. next_calm _ _ _ _ _ _ _ c.steps.invariant.calm c.in-Shut.ensures.did.nears.acts (rw c.steps.invariant.test at c.in-Shut.ensures.calm shut_goes)

pub returns-in-Busy-clause-calm : goal.returns-in-Busy-clause-calm
returns-in-Busy-clause-calm g c = λ so. next_calm _ _ _ _ _ _ _ c.steps.invariant.calm c.in-Busy.ensures.did.nears.acts (rw c.steps.invariant.test at c.in-Busy.ensures.calm (busy_goes c.in-Busy.field-0))

pub returns-in-Late-clause-calm : goal.returns-in-Late-clause-calm
returns-in-Late-clause-calm g c = λ so. late_calm _ _ _ _ _ c.steps.invariant.calm c.in-Late.ensures
