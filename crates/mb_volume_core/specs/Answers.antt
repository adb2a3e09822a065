-- The core's answers as the driver has them, and what a call came to as the core takes it.
use Rattle.mb_calls.specs.declared.performing.ReadyCall.{ReadyCall as PerformedReady}
use Rattle.mb_core_spec.specs.declared.ready.Ready.{Ready}
use Rattle.mb_core_state.specs.declared.answers.Enter.{Enter as Entered}
use Rattle.mb_core_state.specs.declared.answers.Enter.TheVariants as entered
use Rattle.mb_recover.specs.declared.steps.Stepped.{Stepped as Recovered}
use Rattle.mb_recover.specs.declared.steps.Stepped.TheVariants as recovered
use Rattle.mb_run.specs.declared.answers.EnterAnswer.{EnterAnswer}
use Rattle.mb_run.specs.declared.answers.EnterAnswer.TheVariants as enter
use Rattle.mb_run.specs.declared.answers.StepAnswer.{StepAnswer}
use Rattle.mb_run.specs.declared.answers.StepAnswer.TheVariants as stepped

abbrev pub entered_as : Entered → EnterAnswer
entered_as (entered.Done answer) = enter.Done answer
entered_as entered.Shut = enter.Shut
entered_as (entered.Inside ticket) = enter.Inside ticket
entered_as entered.NoMemory = enter.NoMemory

abbrev pub stepped_as : Recovered → StepAnswer
stepped_as recovered.Idle = stepped.Idle
stepped_as (recovered.Unwound ticket) = stepped.Unwound ticket
stepped_as (recovered.Failed faults) = stepped.Failed faults
stepped_as recovered.Dropped = stepped.Dropped
stepped_as recovered.Remounted = stepped.Remounted
stepped_as recovered.Reopened = stepped.Reopened
stepped_as (recovered.Replayed number) = stepped.Replayed number
stepped_as recovered.Resumed = stepped.Resumed
stepped_as (recovered.Again faults) = stepped.Again faults
stepped_as recovered.Device = stepped.Device
stepped_as recovered.NoMemory = stepped.NoMemory

abbrev pub as_performed : PerformedReady → Ready
as_performed ready = record { reply = ready.reply; op = ready.op; pick = ready.pick; changes = ready.changes; session = ready.session; shared = ready.shared }
