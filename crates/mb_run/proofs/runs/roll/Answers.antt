use Rattle.mb_run.specs.declared.answers.StepAnswer.TheVariants as stepped
use Rattle.std.proofs.Common.{inl, inr, refl}
use Rattle.mb_run.proofs.Inside.{room}
use Rattle.mb_run.proofs.Lengthening.{no_step, one_step, stands_still}
use Rattle.mb_run.proofs.Rolling.{kept_roll, device_rolls, rolled_nothing, runs_for}
use Rattle.mb_run.proofs.TallyRolls.{tallied_device, tallied_roll}
use Rattle.mb_run.proofs.runs.roll.Goals as goal

pub advance-requires-clause-done : goal.advance-requires-clause-done
advance-requires-clause-done g c = room _ _ _ _ _ c.requires.may

pub recover_step-requires-clause-by : goal.recover_step-requires-clause-by
recover_step-requires-clause-by g c = runs_for _ _ _ _ _ c.requires.may c.requires.rests c.requires.waits

pub returns-in-Device-clause-rolled : goal.returns-in-Device-clause-rolled
returns-in-Device-clause-rolled g c = rw c.advance.ensures (device_rolls _ _ _ _ _ c.requires.may c.requires.rests c.requires.waits _ _ c.in-Device.ensures.on c.in-Device.ensures.steps)

pub returns-in-NoMemory-clause-rolled : goal.returns-in-NoMemory-clause-rolled
returns-in-NoMemory-clause-rolled g c = rolled_nothing _ _ _ _ _ c.requires.may c.requires.rests c.requires.waits _ c.in-NoMemory.ensures.steps

pub returns-in-Failed-clause-rolled : goal.returns-in-Failed-clause-rolled
returns-in-Failed-clause-rolled g c = kept_roll _ _ _ _ _ c.requires.may c.requires.rests c.requires.waits _ _ _ (stepped.Failed c.in-Failed.faults) c.in-Failed.ensures.on c.recover_step.ensures.right c.in-Failed.ensures.steps (λ ends. ends) c.keep.ensures

pub returns-in-Resumed-clause-rolled : goal.returns-in-Resumed-clause-rolled
returns-in-Resumed-clause-rolled g c = kept_roll _ _ _ _ _ c.requires.may c.requires.rests c.requires.waits _ _ _ stepped.Resumed c.in-Resumed.ensures.on c.recover_step.ensures.right c.in-Resumed.ensures.steps (λ ends. ends) c.keep-in-Resumed.ensures

pub returns-in-Unwound-clause-rolled : goal.returns-in-Unwound-clause-rolled
returns-in-Unwound-clause-rolled g c = kept_roll _ _ _ _ _ c.requires.may c.requires.rests c.requires.waits _ _ _ (stepped.Unwound c.in-Unwound.field-0) c.in-Unwound.ensures.on c.recover_step.ensures.right c.in-Unwound.ensures.steps (λ ends. ends) c.keep-in-Unwound.ensures

pub returns-in-Dropped-clause-rolled : goal.returns-in-Dropped-clause-rolled
returns-in-Dropped-clause-rolled g c = kept_roll _ _ _ _ _ c.requires.may c.requires.rests c.requires.waits _ _ _ stepped.Dropped c.in-Dropped.ensures.on c.recover_step.ensures.right c.in-Dropped.ensures.steps (λ ends. ends) c.keep-in-Dropped.ensures

pub returns-in-Remounted-clause-rolled : goal.returns-in-Remounted-clause-rolled
returns-in-Remounted-clause-rolled g c = kept_roll _ _ _ _ _ c.requires.may c.requires.rests c.requires.waits _ _ _ stepped.Remounted c.in-Remounted.ensures.on c.recover_step.ensures.right c.in-Remounted.ensures.steps (λ ends. ends) c.keep-in-Remounted.ensures

pub returns-in-Reopened-clause-rolled : goal.returns-in-Reopened-clause-rolled
returns-in-Reopened-clause-rolled g c = kept_roll _ _ _ _ _ c.requires.may c.requires.rests c.requires.waits _ _ _ stepped.Reopened c.in-Reopened.ensures.on c.recover_step.ensures.right c.in-Reopened.ensures.steps (λ ends. ends) c.keep-in-Reopened.ensures

pub returns-in-Replayed-clause-rolled : goal.returns-in-Replayed-clause-rolled
returns-in-Replayed-clause-rolled g c = kept_roll _ _ _ _ _ c.requires.may c.requires.rests c.requires.waits _ _ _ (stepped.Replayed c.in-Replayed.field-0) c.in-Replayed.ensures.on c.recover_step.ensures.right c.in-Replayed.ensures.steps (λ ends. ends) c.keep-in-Replayed.ensures

pub returns-in-Again-clause-rolled : goal.returns-in-Again-clause-rolled
returns-in-Again-clause-rolled g c = kept_roll _ _ _ _ _ c.requires.may c.requires.rests c.requires.waits _ _ _ (stepped.Again c.in-Again.faults) c.in-Again.ensures.on c.recover_step.ensures.right c.in-Again.ensures.steps (λ ends. ends) c.keep-in-Again.ensures

pub returns-in-Failed-clause-tallied : goal.returns-in-Failed-clause-tallied
returns-in-Failed-clause-tallied g c = tallied_roll _ _ _ _ _ c.requires.may c.requires.rests c.requires.waits _ _ _ (stepped.Failed c.in-Failed.faults) c.in-Failed.ensures.on c.in-Failed.ensures.steps (λ ends. ends) c.keep.ensures

pub returns-in-Resumed-clause-tallied : goal.returns-in-Resumed-clause-tallied
returns-in-Resumed-clause-tallied g c = tallied_roll _ _ _ _ _ c.requires.may c.requires.rests c.requires.waits _ _ _ stepped.Resumed c.in-Resumed.ensures.on c.in-Resumed.ensures.steps (λ ends. ends) c.keep-in-Resumed.ensures

pub returns-in-Unwound-clause-tallied : goal.returns-in-Unwound-clause-tallied
returns-in-Unwound-clause-tallied g c = tallied_roll _ _ _ _ _ c.requires.may c.requires.rests c.requires.waits _ _ _ (stepped.Unwound c.in-Unwound.field-0) c.in-Unwound.ensures.on c.in-Unwound.ensures.steps (λ ends. ends) c.keep-in-Unwound.ensures

pub returns-in-Dropped-clause-tallied : goal.returns-in-Dropped-clause-tallied
returns-in-Dropped-clause-tallied g c = tallied_roll _ _ _ _ _ c.requires.may c.requires.rests c.requires.waits _ _ _ stepped.Dropped c.in-Dropped.ensures.on c.in-Dropped.ensures.steps (λ ends. ends) c.keep-in-Dropped.ensures

pub returns-in-Remounted-clause-tallied : goal.returns-in-Remounted-clause-tallied
returns-in-Remounted-clause-tallied g c = tallied_roll _ _ _ _ _ c.requires.may c.requires.rests c.requires.waits _ _ _ stepped.Remounted c.in-Remounted.ensures.on c.in-Remounted.ensures.steps (λ ends. ends) c.keep-in-Remounted.ensures

pub returns-in-Reopened-clause-tallied : goal.returns-in-Reopened-clause-tallied
returns-in-Reopened-clause-tallied g c = tallied_roll _ _ _ _ _ c.requires.may c.requires.rests c.requires.waits _ _ _ stepped.Reopened c.in-Reopened.ensures.on c.in-Reopened.ensures.steps (λ ends. ends) c.keep-in-Reopened.ensures

pub returns-in-Replayed-clause-tallied : goal.returns-in-Replayed-clause-tallied
returns-in-Replayed-clause-tallied g c = tallied_roll _ _ _ _ _ c.requires.may c.requires.rests c.requires.waits _ _ _ (stepped.Replayed c.in-Replayed.field-0) c.in-Replayed.ensures.on c.in-Replayed.ensures.steps (λ ends. ends) c.keep-in-Replayed.ensures

pub returns-in-Again-clause-tallied : goal.returns-in-Again-clause-tallied
returns-in-Again-clause-tallied g c = tallied_roll _ _ _ _ _ c.requires.may c.requires.rests c.requires.waits _ _ _ (stepped.Again c.in-Again.faults) c.in-Again.ensures.on c.in-Again.ensures.steps (λ ends. ends) c.keep-in-Again.ensures

pub returns-in-Device-clause-tallied : goal.returns-in-Device-clause-tallied
returns-in-Device-clause-tallied g c = rw c.advance.ensures (tallied_device _ _ _ _ _ c.requires.may c.requires.rests c.requires.waits _ _ c.in-Device.ensures.on c.in-Device.ensures.steps)

pub returns-in-NoMemory-clause-tallied : goal.returns-in-NoMemory-clause-tallied
returns-in-NoMemory-clause-tallied g c = λ tally. tt

pub returns-in-Unwound-clause-forward : goal.returns-in-Unwound-clause-forward
returns-in-Unwound-clause-forward g c = inl (one_step _ _ c.in-Unwound.ensures.steps.1)

pub returns-in-Dropped-clause-forward : goal.returns-in-Dropped-clause-forward
returns-in-Dropped-clause-forward g c = inl (one_step _ _ c.in-Dropped.ensures.steps.1)

pub returns-in-Remounted-clause-forward : goal.returns-in-Remounted-clause-forward
returns-in-Remounted-clause-forward g c = inl (one_step _ _ c.in-Remounted.ensures.steps.2)

pub returns-in-Reopened-clause-forward : goal.returns-in-Reopened-clause-forward
returns-in-Reopened-clause-forward g c = inl (one_step _ _ c.in-Reopened.ensures.steps.1)

pub returns-in-Replayed-clause-forward : goal.returns-in-Replayed-clause-forward
returns-in-Replayed-clause-forward g c = inl (one_step _ _ c.in-Replayed.ensures.steps.1)

pub returns-in-Again-clause-forward : goal.returns-in-Again-clause-forward
returns-in-Again-clause-forward g c = inr c.in-Again.ensures.steps.0

pub returns-in-Resumed-clause-forward : goal.returns-in-Resumed-clause-forward
returns-in-Resumed-clause-forward g c = inr (one_step _ _ c.in-Resumed.ensures.steps.2)

pub returns-in-Failed-clause-forward : goal.returns-in-Failed-clause-forward
returns-in-Failed-clause-forward g c = inl c.in-Failed.ensures.steps.0

pub returns-in-Device-clause-forward : goal.returns-in-Device-clause-forward
returns-in-Device-clause-forward g c = inr (no_step _ _ (c.in-Device.ensures.stands refl))

pub returns-in-NoMemory-clause-forward : goal.returns-in-NoMemory-clause-forward
returns-in-NoMemory-clause-forward g c = inr (no_step _ _ (stands_still _ _ c.in-NoMemory.ensures.steps))
