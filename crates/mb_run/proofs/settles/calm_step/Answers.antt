use Rattle.std.proofs.Common.{Some, inl, inr, refl}
use Rattle.mb_edge.specs.Hooks.{nowhere}
use Rattle.mb_run.specs.declared.answers.StepAnswer.TheVariants as stepped
use Rattle.mb_run.proofs.Ending.{alone_keeps}
use Rattle.mb_run.proofs.Lengthening.{no_step, one_step, stands_still}
use Rattle.mb_run.proofs.Timely.{alone_undue}
use Rattle.mb_run.proofs.settles.calm_step.Goals as goal

pub returns-in-Idle-clause-keeps : goal.returns-in-Idle-clause-keeps
returns-in-Idle-clause-keeps g c = alone_keeps (Some nowhere) _ _ _ stepped.Idle c.recover_step.ensures.on c.in-Idle.ensures.steps

pub returns-in-Failed-clause-keeps : goal.returns-in-Failed-clause-keeps
returns-in-Failed-clause-keeps g c = alone_keeps (Some nowhere) _ _ _ (stepped.Failed c.in-Failed.faults) c.recover_step.ensures.on c.in-Failed.ensures.steps

pub returns-in-Resumed-clause-keeps : goal.returns-in-Resumed-clause-keeps
returns-in-Resumed-clause-keeps g c = alone_keeps (Some nowhere) _ _ _ stepped.Resumed c.recover_step.ensures.on c.in-Resumed.ensures.steps

pub returns-in-Device-clause-keeps : goal.returns-in-Device-clause-keeps
returns-in-Device-clause-keeps g c = alone_keeps (Some nowhere) _ _ _ stepped.Device c.recover_step.ensures.on c.in-Device.ensures.steps

pub returns-in-NoMemory-clause-keeps : goal.returns-in-NoMemory-clause-keeps
returns-in-NoMemory-clause-keeps g c = alone_keeps (Some nowhere) _ _ _ stepped.NoMemory c.recover_step.ensures.on c.in-NoMemory.ensures.steps

pub returns-in-Unwound-clause-keeps : goal.returns-in-Unwound-clause-keeps
returns-in-Unwound-clause-keeps g c = alone_keeps (Some nowhere) _ _ _ (stepped.Unwound c.in-Unwound.field-0) c.recover_step.ensures.on c.in-Unwound.ensures.steps

pub returns-in-Dropped-clause-keeps : goal.returns-in-Dropped-clause-keeps
returns-in-Dropped-clause-keeps g c = alone_keeps (Some nowhere) _ _ _ stepped.Dropped c.recover_step.ensures.on c.in-Dropped.ensures.steps

pub returns-in-Remounted-clause-keeps : goal.returns-in-Remounted-clause-keeps
returns-in-Remounted-clause-keeps g c = alone_keeps (Some nowhere) _ _ _ stepped.Remounted c.recover_step.ensures.on c.in-Remounted.ensures.steps

pub returns-in-Reopened-clause-keeps : goal.returns-in-Reopened-clause-keeps
returns-in-Reopened-clause-keeps g c = alone_keeps (Some nowhere) _ _ _ stepped.Reopened c.recover_step.ensures.on c.in-Reopened.ensures.steps

pub returns-in-Replayed-clause-keeps : goal.returns-in-Replayed-clause-keeps
returns-in-Replayed-clause-keeps g c = alone_keeps (Some nowhere) _ _ _ (stepped.Replayed c.in-Replayed.field-0) c.recover_step.ensures.on c.in-Replayed.ensures.steps

pub returns-in-Unwound-clause-forward : goal.returns-in-Unwound-clause-forward
returns-in-Unwound-clause-forward g c = one_step _ _ c.in-Unwound.ensures.steps.1

pub returns-in-Dropped-clause-forward : goal.returns-in-Dropped-clause-forward
returns-in-Dropped-clause-forward g c = one_step _ _ c.in-Dropped.ensures.steps.1

pub returns-in-Remounted-clause-forward : goal.returns-in-Remounted-clause-forward
returns-in-Remounted-clause-forward g c = one_step _ _ c.in-Remounted.ensures.steps.2

pub returns-in-Reopened-clause-forward : goal.returns-in-Reopened-clause-forward
returns-in-Reopened-clause-forward g c = one_step _ _ c.in-Reopened.ensures.steps.1

pub returns-in-Replayed-clause-forward : goal.returns-in-Replayed-clause-forward
returns-in-Replayed-clause-forward g c = one_step _ _ c.in-Replayed.ensures.steps.1

pub returns-in-Idle-clause-forward : goal.returns-in-Idle-clause-forward
returns-in-Idle-clause-forward g c = inr (no_step _ _ (stands_still _ _ c.in-Idle.ensures.steps.1))

pub returns-in-Failed-clause-forward : goal.returns-in-Failed-clause-forward
returns-in-Failed-clause-forward g c = inl c.in-Failed.ensures.steps.0

pub returns-in-Resumed-clause-forward : goal.returns-in-Resumed-clause-forward
returns-in-Resumed-clause-forward g c = inr (one_step _ _ c.in-Resumed.ensures.steps.2)

pub returns-in-Device-clause-forward : goal.returns-in-Device-clause-forward
returns-in-Device-clause-forward g c = inr (no_step _ _ (c.in-Device.ensures.stands refl))

pub returns-in-NoMemory-clause-forward : goal.returns-in-NoMemory-clause-forward
returns-in-NoMemory-clause-forward g c = inr (no_step _ _ (stands_still _ _ c.in-NoMemory.ensures.steps))

pub returns-in-Idle-clause-seals : goal.returns-in-Idle-clause-seals
returns-in-Idle-clause-seals g c = alone_undue (Some nowhere) _ _ c.recover_step.new.by stepped.Idle c.in-Idle.ensures.steps

pub returns-in-Failed-clause-seals : goal.returns-in-Failed-clause-seals
returns-in-Failed-clause-seals g c = alone_undue (Some nowhere) _ _ c.recover_step.new.by (stepped.Failed c.in-Failed.faults) c.in-Failed.ensures.steps

pub returns-in-Resumed-clause-seals : goal.returns-in-Resumed-clause-seals
returns-in-Resumed-clause-seals g c = alone_undue (Some nowhere) _ _ c.recover_step.new.by stepped.Resumed c.in-Resumed.ensures.steps

pub returns-in-Device-clause-seals : goal.returns-in-Device-clause-seals
returns-in-Device-clause-seals g c = alone_undue (Some nowhere) _ _ c.recover_step.new.by stepped.Device c.in-Device.ensures.steps

pub returns-in-NoMemory-clause-seals : goal.returns-in-NoMemory-clause-seals
returns-in-NoMemory-clause-seals g c = alone_undue (Some nowhere) _ _ c.recover_step.new.by stepped.NoMemory c.in-NoMemory.ensures.steps

pub returns-in-Unwound-clause-seals : goal.returns-in-Unwound-clause-seals
returns-in-Unwound-clause-seals g c = alone_undue (Some nowhere) _ _ c.recover_step.new.by (stepped.Unwound c.in-Unwound.field-0) c.in-Unwound.ensures.steps

pub returns-in-Dropped-clause-seals : goal.returns-in-Dropped-clause-seals
returns-in-Dropped-clause-seals g c = alone_undue (Some nowhere) _ _ c.recover_step.new.by stepped.Dropped c.in-Dropped.ensures.steps

pub returns-in-Remounted-clause-seals : goal.returns-in-Remounted-clause-seals
returns-in-Remounted-clause-seals g c = alone_undue (Some nowhere) _ _ c.recover_step.new.by stepped.Remounted c.in-Remounted.ensures.steps

pub returns-in-Reopened-clause-seals : goal.returns-in-Reopened-clause-seals
returns-in-Reopened-clause-seals g c = alone_undue (Some nowhere) _ _ c.recover_step.new.by stepped.Reopened c.in-Reopened.ensures.steps

pub returns-in-Replayed-clause-seals : goal.returns-in-Replayed-clause-seals
returns-in-Replayed-clause-seals g c = alone_undue (Some nowhere) _ _ c.recover_step.new.by (stepped.Replayed c.in-Replayed.field-0) c.in-Replayed.ensures.steps
