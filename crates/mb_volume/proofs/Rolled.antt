-- A step of a recovery, run by a call that waits for it.
use Rattle.std.proofs.Common.{◌≡◌, [], ◌∷◌, ◌+◌, Bool, inl, inr, refl, ap, sym, subst, ◌∙◌, Option, None, Some}
use Rattle.std.proofs.lemmas.List.{append-nil}
use Rattle.mb_edge.specs.declared.crossings.Crossing.{Crossing}
use Rattle.mb_edge.specs.declared.crossings.Crossings.{Crossings}
use Rattle.mb_kinds.specs.Own.{own}
use Rattle.mb_kinds.specs.declared.calls.Call.{Call}
use Rattle.mb_kinds.specs.declared.replies.Reply.TheVariants as reply
use Rattle.mb_run.specs.Events.{Answers, entry_of}
use Rattle.mb_run.specs.Recovering.{GoOn, CrossingsGoOn, RunsForFlight, Steps, StrikesStep, Waits}
use Rattle.mb_run.specs.Sights.{IsOrderlyInSight, IsWaiting, Sight}
use Rattle.mb_run.specs.declared.answers.StepAnswer.{StepAnswer}
use Rattle.mb_run.specs.declared.answers.StepAnswer.TheVariants as stepped
use Rattle.mb_volume.specs.Attempts.{KeepsCrossings}
use Rattle.mb_volume.specs.Called.{is_own}
use Rattle.mb_volume.specs.Parts.{MovesPart, Part, part_of}
use Rattle.mb_volume.specs.Underway.{AddsEntryIf, Comes, FlightIsCall, IsCallUnderway, FlightLacksEntry, rolled}
use Rattle.mb_volume.specs.declared.attempt.Attempt.{Attempt}
use Rattle.mb_volume.specs.declared.events.Came.TheVariants as came
use Rattle.mb_run.proofs.Amiss.{entry_amiss, waits_amiss}
use Rattle.mb_run.proofs.Late.{recovers_not_failed}
use Rattle.mb_volume.proofs.Changing.{moves_entry, moves_records}
use Rattle.mb_volume.proofs.Entered.{answered_by, moves_nothing}
use Rattle.mb_volume.proofs.Faulted.{underway_on, underway_struck}
use Rattle.mb_volume.proofs.Inside.{part_still}
use Rattle.mb_volume.proofs.Once.{once_struck}
use Rattle.mb_volume.proofs.Standing.{IsFlight, flying}

module _ (call : Call) (test : Option (Crossing → Bool)) (from : Part) (old : Sight) (attempt : Attempt) (u : IsCallUnderway call test from (part_of old attempt.crossings.caller) attempt) (waiting : IsWaiting (old.seats attempt.crossings.caller)) where
  flies : FlightIsCall attempt.crossings.caller call from (part_of old attempt.crossings.caller) waiting.0
  flies = flying call test from old attempt u waiting.0 waiting.1

  pub runs_for : RunsForFlight old attempt.crossings
  runs_for = (waiting.0, waiting.1, waiting.2, u.ordinal ∙ sym flies.ordinal)

  is_flight : IsFlight call from (part_of old attempt.crossings.caller) waiting.0
  is_flight = record {
    call_is = flies.call_is;
    ordinal = flies.ordinal;
    lacks = λ lacks. subst (λ b. AddsEntryIf b attempt.crossings.caller (from.seat.begun + 1) call from.entries (own old.history attempt.crossings.caller)) lacks flies.entered;
  }

  waits_still : (new : Sight) → Waits old new → IsWaiting (new.seats attempt.crossings.caller)
  waits_still new waits = subst IsWaiting (sym (waits.seats attempt.crossings.caller)) waiting

  module _ (crossings : Crossings) (on : CrossingsGoOn attempt.crossings crossings) where
    -- nobody was struck
    underway_waits : (new : Sight) → Waits old new → new.records ≡ old.records → IsCallUnderway call test from (part_of new attempt.crossings.caller) (record attempt { crossings = crossings })
    underway_waits new waits records =
        subst (λ (p : Part). IsCallUnderway call test from p (record attempt { crossings = crossings })) (sym (part_still attempt.crossings.caller old new waits.config waits.counts.history (waits.seats attempt.crossings.caller) records))
        (underway_on call test from (part_of old attempt.crossings.caller) attempt u crossings on)

    underway_strikes : (new : Sight) → StrikesStep test attempt.crossings crossings old new → IsCallUnderway call test from (part_of new attempt.crossings.caller) (record attempt { crossings = crossings })
    underway_strikes new strikes =
        underway_struck call test from old attempt u new crossings strikes.fault waiting.0 waiting.1 on strikes.taken strikes.waits.config strikes.waits.counts.history (strikes.waits.seats attempt.crossings.caller) strikes.records
        (λ more. once_struck attempt.crossings.ordinal (part_of old attempt.crossings.caller) (part_of new attempt.crossings.caller) strikes.fault attempt.at (elim strikes.next.point [ inl remount ↦ ap is_own remount.1 | inr replay ↦ ap is_own replay.1 ])
        (strikes.waits.seats attempt.crossings.caller) more u.once)

    comes_rolled : (new : Sight) (answer : StepAnswer) → Steps test (Some attempt.crossings) (Some crossings) old new answer
        → Comes call test attempt.crossings.caller from (part_of new attempt.crossings.caller) (record attempt { crossings = crossings }) (rolled answer)
    comes_rolled new stepped.Idle steps = subst (λ (s : Sight). IsCallUnderway call test from (part_of s attempt.crossings.caller) (record attempt { crossings = crossings })) (sym steps.1) (underway_on call test from (part_of old attempt.crossings.caller) attempt u crossings on)
    comes_rolled new (stepped.Unwound ticket) steps = (underway_waits new steps.1.waits steps.1.records, waits_still new steps.1.waits)
    comes_rolled new (stepped.Failed faults) steps = elim steps.1 [ inl plain ↦ underway_waits new plain.1 plain.0 | inr strikes ↦ underway_strikes new strikes ]
    comes_rolled new stepped.Dropped steps = (underway_waits new steps.1.waits steps.1.records, waits_still new steps.1.waits)
    comes_rolled new stepped.Remounted steps = (underway_waits new steps.2.waits steps.2.records, waits_still new steps.2.waits)
    comes_rolled new stepped.Reopened steps = (underway_waits new steps.1.waits steps.1.records, waits_still new steps.1.waits)
    comes_rolled new (stepped.Replayed number) steps = (underway_waits new steps.1.waits steps.1.records, waits_still new steps.1.waits)
    comes_rolled new stepped.Resumed steps = underway_waits new steps.2.waits steps.2.records
    comes_rolled new (stepped.Again faults) steps = (underway_strikes new steps.1, waits_still new steps.1.waits)
    comes_rolled new stepped.Device steps = answered_by call test from old attempt u new waiting.0 reply.Device tt is_flight waiting.2 (steps.1 waiting.0 waiting.1)
    comes_rolled new stepped.NoMemory steps =
        subst (λ (s : Sight). Comes call test attempt.crossings.caller from (part_of s attempt.crossings.caller) (record attempt { crossings = crossings }) came.NoMemory) (sym steps)
        (underway_on call test from (part_of old attempt.crossings.caller) attempt u crossings on, subst FlightLacksEntry (sym waiting.1) waiting.2)

  -- ---- with the crossings that are kept

  pub comes_by : (new : Sight) (by : Option Crossings) (now : Attempt) (answer : StepAnswer) → GoOn (Some attempt.crossings) by → KeepsCrossings attempt by now → Steps test (Some attempt.crossings) by old new answer
      → Comes call test attempt.crossings.caller from (part_of new attempt.crossings.caller) now (rolled answer)
  comes_by new None now answer on keeps steps = absurd on
  comes_by new (Some crossings) now answer on keeps steps =
      subst (λ (a : Attempt). Comes call test attempt.crossings.caller from (part_of new attempt.crossings.caller) a (rolled answer)) (sym keeps) (comes_rolled crossings on new answer steps)

-- ---- what it leaves to the others

module _ (test : Option (Crossing → Bool)) (old : Sight) (attempt : Attempt) (waiting : IsWaiting (old.seats attempt.crossings.caller)) where
  module _ (right : IsOrderlyInSight old) (crossings : Crossings) (on : CrossingsGoOn attempt.crossings crossings) where
    moves_strikes : (new : Sight) → StrikesStep test attempt.crossings crossings old new → MovesPart attempt.crossings.caller old new
    moves_strikes new strikes = moves_records attempt.crossings.caller old new (strikes.fault ∷ []) strikes.waits.config strikes.waits.seats strikes.waits.counts.history strikes.records (strikes.taken.caller, tt) (waits_amiss old new strikes.waits)

    moves_waits : (new : Sight) → Waits old new → new.records ≡ old.records → MovesPart attempt.crossings.caller old new
    moves_waits new waits records = moves_records attempt.crossings.caller old new [] waits.config waits.seats waits.counts.history (records ∙ sym (append-nil old.records)) tt (waits_amiss old new waits)

    moves_rolled : (new : Sight) (answer : StepAnswer) → Steps test (Some attempt.crossings) (Some crossings) old new answer → MovesPart attempt.crossings.caller old new
    moves_rolled new stepped.Idle steps = moves_nothing old new attempt.crossings.caller steps.1
    moves_rolled new (stepped.Unwound ticket) steps = moves_waits new steps.1.waits steps.1.records
    moves_rolled new (stepped.Failed faults) steps = elim steps.1 [ inl plain ↦ moves_waits new plain.1 plain.0 | inr strikes ↦ moves_strikes new strikes ]
    moves_rolled new stepped.Dropped steps = moves_waits new steps.1.waits steps.1.records
    moves_rolled new stepped.Remounted steps = moves_waits new steps.2.waits steps.2.records
    moves_rolled new stepped.Reopened steps = moves_waits new steps.1.waits steps.1.records
    moves_rolled new (stepped.Replayed number) steps = moves_waits new steps.1.waits steps.1.records
    moves_rolled new stepped.Resumed steps = moves_waits new steps.2.waits steps.2.records
    moves_rolled new (stepped.Again faults) steps = moves_strikes new steps.1
    moves_rolled new stepped.Device steps =
        let made : Answers attempt.crossings.caller waiting.0 reply.Device old new = steps.1 waiting.0 waiting.1 in
        moves_entry attempt.crossings.caller old new (entry_of attempt.crossings.caller waiting.0 None reply.Device) made.stays refl made.history
        (entry_amiss old new made.stays.config made.log (entry_of attempt.crossings.caller waiting.0 None reply.Device) right (inr (recovers_not_failed old.stage steps.0)) made.history)
    moves_rolled new stepped.NoMemory steps = moves_nothing old new attempt.crossings.caller steps

  pub same_caller : (by : Option Crossings) (now : Attempt) → GoOn (Some attempt.crossings) by → KeepsCrossings attempt by now → now.crossings.caller ≡ attempt.crossings.caller
  same_caller None now on keeps = absurd on
  same_caller (Some crossings) now on keeps = ap (λ (a : Attempt). a.crossings.caller) keeps ∙ on.caller

  pub moves_by : IsOrderlyInSight old → (new : Sight) (by : Option Crossings) (answer : StepAnswer) → GoOn (Some attempt.crossings) by → Steps test (Some attempt.crossings) by old new answer → MovesPart attempt.crossings.caller old new
  moves_by right new None answer on steps = absurd on
  moves_by right new (Some crossings) answer on steps = moves_rolled right crossings on new answer steps
