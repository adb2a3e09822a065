-- The fault points that a call passes in one event.
use Rattle.std.proofs.Common.{◌≡◌, ◌≢◌, ℕ, ◌≤◌, Bool, true, false, inl, inr, refl, ap, sym, subst, ◌∙◌, arith, Option, None, Some}
use Rattle.mb_core_spec.specs.Copies.{PagesState}
use Rattle.mb_core_state.specs.declared.answers.Fault.{Fault}
use Rattle.mb_core_state.specs.declared.answers.Fault.TheVariants as fault
use Rattle.mb_edge.specs.Crossings.{place_of}
use Rattle.mb_edge.specs.declared.crossings.Crossing.{Crossing}
use Rattle.mb_edge.specs.declared.crossings.Crossings.{Crossings}
use Rattle.mb_kinds.specs.declared.calls.Call.{Call}
use Rattle.mb_kinds.specs.declared.entries.Flight.{Flight}
use Rattle.mb_kinds.specs.declared.faults.Kind.{Kind}
use Rattle.mb_kinds.specs.declared.faults.Kind.TheVariants.{Enter, Gather, Finish, Leave, Remount, Replay}
use Rattle.mb_kinds.specs.declared.faults.Ticket.{Ticket}
use Rattle.mb_kinds.specs.declared.replies.Reply.{Reply}
use Rattle.mb_kinds.specs.declared.replies.Reply.TheVariants as reply
use Rattle.mb_run.proofs.TallyRecords.{counted_stays, counted_there}
use Rattle.mb_run.specs.Events.{BeginsFlight, EntersInSight, FaultsWith, IsUnplain}
use Rattle.mb_run.specs.Pages.{has}
use Rattle.mb_run.specs.Recovering.{GoOn, Steps, StrikesStep}
use Rattle.mb_run.specs.Seals.{is_plain}
use Rattle.mb_run.specs.Served.{AreSixCounts, counted}
use Rattle.mb_run.specs.Sights.{SightSeat, Sight}
use Rattle.mb_run.specs.Tallies.{count_of, is_logged}
use Rattle.mb_run.specs.declared.answers.EnterAnswer.TheVariants as enter
use Rattle.mb_run.specs.declared.answers.StepAnswer.{StepAnswer}
use Rattle.mb_run.specs.declared.answers.StepAnswer.TheVariants as stepped
use Rattle.mb_run.specs.declared.runner.At.{At}
use Rattle.mb_run.specs.declared.runner.At.TheVariants as at
use Rattle.mb_volume.specs.Attempts.{KeepsCrossings, back_out, going_in}
use Rattle.mb_volume.specs.Called.{is_on_way}
use Rattle.mb_volume.specs.Passed.{HasFinished, HasPassed, HasPassedAt, IsCalm, IsPastEnter, IsPastLeave, KeepsOwn, MarksPoints, PassedBy}
use Rattle.mb_volume.specs.Underway.{FlightHasEntry, PlaceHoldsTicket, FlightLacksEntry, PlaceStands, rolled}
use Rattle.mb_volume.specs.declared.attempt.Attempt.{Attempt}
use Rattle.mb_volume.specs.declared.events.Came.TheVariants as came
use Rattle.mb_volume.specs.declared.events.Event.TheVariants as event

-- ---- kinds

on_low : (kind : Kind) → is_on_way kind ≡ true → place_of kind ≤ 3
on_low Enter on = omega arith
on_low Gather on = omega arith
on_low Finish on = omega arith
on_low Leave on = omega arith
on_low Remount on = absurd (let both : false ≡ true = on in cc)
on_low Replay on = absurd (let both : false ≡ true = on in cc)

-- ---- counts that do not become 0

abbrev pub Grown : Crossings → Crossings → Type 0
Grown one other = (kind : Kind) → is_on_way kind ≡ true → count_of one kind ≢ 0 → count_of other kind ≢ 0

pub grown_counted : (crossings : Crossings) (kind : Kind) → AreSixCounts crossings → Grown crossings (counted crossings kind)
grown_counted crossings kind are other on some = counted_stays crossings kind are other some

pub grown_kept : (before now : Crossings) → KeepsOwn before now → Grown before now
grown_kept before now keeps kind on some = λ none. some (sym (keeps.counts kind on) ∙ none)

finished_on : (one other : Crossings) → Grown one other → HasFinished one → HasFinished other
finished_on one other grown finished = record { enters = grown Enter refl finished.enters; gathers = grown Gather refl finished.gathers; finishes = grown Finish refl finished.finishes }

past_on : (one other : Crossings) → Grown one other → IsPastLeave one → IsPastLeave other
past_on one other grown past = record { finished = finished_on one other grown past.finished; leaves = grown Leave refl past.leaves }

passed_at : (flight : Option Flight) (before : Attempt) (crossings : Crossings) (a : At) → Grown before.crossings crossings → HasPassedAt flight before a → HasPassedAt flight (record before { crossings = crossings }) a
passed_at flight before crossings at.Outside grown passed = λ has. past_on before.crossings crossings grown (passed has)
passed_at flight before crossings (at.Inside ticket) grown passed = record {
  enters = grown Enter refl passed.enters;
  gathers = λ there. grown Gather refl (passed.gathers there);
  finishes = λ asked. grown Finish refl (passed.finishes asked);
}
passed_at flight before crossings (at.Logged ticket) grown passed = finished_on before.crossings crossings grown passed

-- the call passed more
pub passed_on : (flight : Option Flight) (before : Attempt) (crossings : Crossings) → Grown before.crossings crossings → HasPassed flight before → HasPassed flight (record before { crossings = crossings })
passed_on flight before crossings grown passed = passed_at flight before crossings before.at grown passed

-- ---- a recovery counts its own fault points alone

pub keeps_same : (before now : Crossings) → now ≡ before → KeepsOwn before now
keeps_same before now same = subst (KeepsOwn before) (sym same) (record { caller = refl; ordinal = refl; counts = λ kind on. refl })

keeps_counted : (before now : Crossings) (kind : Kind) → AreSixCounts before → 4 ≤ place_of kind → now ≡ counted before kind → KeepsOwn before now
keeps_counted before now kind are late same = subst (KeepsOwn before) (sym same) (record {
  caller = refl;
  ordinal = refl;
  counts = λ other on. counted_there before kind are other (λ place. let low = on_low other on in omega (arith, low, late, place));
})

-- ---- whether the call has its entry

pub lacks_entry : (flight : Option Flight) → FlightLacksEntry flight → FlightHasEntry flight → ⊥
lacks_entry None lacks has = has
lacks_entry (Some flight) lacks has = let both : true ≡ false = sym has ∙ lacks in cc

pub unplain_not : (answer : Reply) → IsUnplain answer → is_plain answer ≡ true → ⊥
unplain_not (reply.Num number) is plain = is
unplain_not (reply.Got bytes) is plain = is
unplain_not (reply.Info stat) is plain = is
unplain_not (reply.Refused error) is plain = is
unplain_not (reply.Restart first second) is plain = let both : false ≡ true = plain in cc
unplain_not reply.Device is plain = let both : false ≡ true = plain in cc
unplain_not (reply.Failed faults) is plain = let both : false ≡ true = plain in cc

-- ---- events, by their answers

module _ (old new : Sight) (attempt : Attempt) where
  -- the call enters
  pub passed_done : (call : Call) (answer : Reply) → attempt.at ≡ at.Outside → EntersInSight old new attempt.crossings.caller call (enter.Done answer) → HasPassed (old.seats attempt.crossings.caller).flight attempt
      → is_plain answer ≡ true → IsPastLeave attempt.crossings
  passed_done call answer outside enters passed plain = elim enters [
    | inl left ↦ (subst (HasPassedAt (old.seats attempt.crossings.caller).flight attempt) outside passed) (subst FlightHasEntry (sym left.1.was) left.1.answered)
    | inr made ↦ absurd (unplain_not answer made.1 plain)
  ]

  pub passed_shut : (flight : Flight) → attempt.at ≡ at.Outside → flight.answered ≡ false → BeginsFlight attempt.crossings.caller flight old new → HasPassed (new.seats attempt.crossings.caller).flight attempt
  passed_shut flight outside lacks begins =
      subst (HasPassedAt (new.seats attempt.crossings.caller).flight attempt) (sym outside) (λ has. absurd (lacks_entry (Some flight) lacks (subst FlightHasEntry (ap (λ (s : SightSeat). s.flight) begins.mine) has)))

  -- a call without its entry has to enter again
  pub passed_back : new ≡ old → FlightLacksEntry (old.seats attempt.crossings.caller).flight → HasPassed (new.seats attempt.crossings.caller).flight (back_out attempt)
  passed_back same lacks = λ has. absurd (lacks_entry (old.seats attempt.crossings.caller).flight lacks (subst (λ (s : Sight). FlightHasEntry (s.seats attempt.crossings.caller).flight) same has))

  module _ (ticket : Ticket) (inside : attempt.at ≡ at.Inside ticket) (passed : HasPassed (old.seats attempt.crossings.caller).flight attempt) where
    entered : IsPastEnter attempt
    entered = subst (HasPassedAt (old.seats attempt.crossings.caller).flight attempt) inside passed

    pub passed_gained : (pages : PagesState) → count_of attempt.crossings Gather ≢ 0 → HasPassed (new.seats attempt.crossings.caller).flight (record attempt { pages = pages })
    passed_gained pages asked =
        subst (HasPassedAt (new.seats attempt.crossings.caller).flight (record attempt { pages = pages })) (sym inside) (record { enters = entered.enters; gathers = λ there. asked; finishes = entered.finishes })

    pub passed_busy : count_of attempt.crossings Finish ≢ 0 → HasPassed (new.seats attempt.crossings.caller).flight (record attempt { asked = true })
    passed_busy asked =
        subst (HasPassedAt (new.seats attempt.crossings.caller).flight (record attempt { asked = true })) (sym inside) (record { enters = entered.enters; gathers = entered.gathers; finishes = λ is. asked })

    pub passed_stale : HasPassed (new.seats attempt.crossings.caller).flight (going_in attempt ticket)
    passed_stale = record { enters = entered.enters; gathers = λ there. absurd (let both : false ≡ true = there in cc); finishes = λ asked. absurd (let both : false ≡ true = asked in cc) }

    pub passed_logged : has attempt.pages 0 ≡ true → count_of attempt.crossings Finish ≢ 0 → HasPassed (new.seats attempt.crossings.caller).flight (record attempt { at = at.Logged ticket })
    passed_logged there asked = record { enters = entered.enters; gathers = entered.gathers there; finishes = asked }

  -- the call leaves
  pub passed_left : (ticket : Ticket) → attempt.at ≡ at.Logged ticket → HasPassed (old.seats attempt.crossings.caller).flight attempt → count_of attempt.crossings Leave ≢ 0 → IsPastLeave attempt.crossings
  passed_left ticket logged passed asked = record { finished = subst (HasPassedAt (old.seats attempt.crossings.caller).flight attempt) logged passed; leaves = asked }

  -- the call is struck
  struck_at : (a : At) (ticket : Ticket) (passed : Crossings) → PlaceHoldsTicket a ticket → PlaceStands attempt.crossings.caller (old.seats attempt.crossings.caller) a → (is_logged a ≡ 1 → IsPastLeave passed)
      → FlightHasEntry (old.seats attempt.crossings.caller).flight → IsPastLeave passed
  struck_at at.Outside ticket passed holds stands asked has = absurd holds
  struck_at (at.Inside mine) ticket passed holds stands asked has = absurd (lacks_entry (old.seats attempt.crossings.caller).flight (subst FlightLacksEntry (sym stands.0.here) stands.0.answered) has)
  struck_at (at.Logged mine) ticket passed holds stands asked has = asked refl

  struck_seat : (ticket : Ticket) (kind : Kind) (nth : ℕ) (answer : Fault) → FaultsWith old new ticket kind nth answer → new.seats attempt.crossings.caller ≡ old.seats attempt.crossings.caller
  struck_seat ticket kind nth (fault.Skip mine was) faults = ap (λ (s : Sight). s.seats attempt.crossings.caller) faults.1
  struck_seat ticket kind nth (fault.Struck number) faults = faults.1.seats attempt.crossings.caller

  pub passed_struck : (ticket : Ticket) (kind : Kind) (nth : ℕ) (answer : Fault) (passed : Crossings) → PlaceHoldsTicket attempt.at ticket → PlaceStands attempt.crossings.caller (old.seats attempt.crossings.caller) attempt.at
      → FaultsWith old new ticket kind nth answer → (is_logged attempt.at ≡ 1 → IsPastLeave passed) → HasPassed (new.seats attempt.crossings.caller).flight (back_out (record attempt { crossings = passed }))
  passed_struck ticket kind nth answer passed holds stands faults asked = λ has. struck_at attempt.at ticket passed holds stands asked (subst (λ (s : SightSeat). FlightHasEntry s.flight) (struck_seat ticket kind nth answer faults) has)

-- ---- a step of a recovery that a call runs

module _ (test : Option (Crossing → Bool)) (old new : Sight) (attempt : Attempt) (are : AreSixCounts attempt.crossings) where
  struck_keeps : (crossings : Crossings) → StrikesStep test attempt.crossings crossings old new → KeepsOwn attempt.crossings crossings
  struck_keeps crossings strikes = keeps_counted attempt.crossings crossings strikes.fault.kind are (elim strikes.next.point [
    | inl remount ↦ (let is = ap place_of remount.1 in omega (arith, is))
    | inr replay ↦ (let is = ap place_of replay.1 in omega (arith, is))
  ]) strikes.next.counts

  step_keeps : (crossings : Crossings) (answer : StepAnswer) → answer ≢ stepped.Idle → Steps test (Some attempt.crossings) (Some crossings) old new answer → IsCalm (rolled answer) → KeepsOwn attempt.crossings crossings
  step_keeps crossings stepped.Idle busy steps calm = absurd (busy refl)
  step_keeps crossings (stepped.Unwound ticket) busy steps calm = keeps_same attempt.crossings crossings steps.3
  step_keeps crossings (stepped.Failed faults) busy steps calm = elim steps.1 [ inl plain ↦ keeps_same attempt.crossings crossings plain.3 | inr strikes ↦ struck_keeps crossings strikes ]
  step_keeps crossings stepped.Dropped busy steps calm = keeps_same attempt.crossings crossings steps.3
  step_keeps crossings stepped.Remounted busy steps calm = keeps_counted attempt.crossings crossings Remount are (omega arith) steps.3.counts
  step_keeps crossings stepped.Reopened busy steps calm = keeps_same attempt.crossings crossings steps.3
  step_keeps crossings (stepped.Replayed number) busy steps calm = keeps_counted attempt.crossings crossings Replay are (omega arith) steps.3.counts
  step_keeps crossings stepped.Resumed busy steps calm = keeps_same attempt.crossings crossings steps.4
  step_keeps crossings (stepped.Again faults) busy steps calm = struck_keeps crossings steps.1
  step_keeps crossings stepped.Device busy steps calm = absurd (let both : false ≡ true = calm in cc)
  step_keeps crossings stepped.NoMemory busy steps calm = absurd calm

  step_seat : (crossings : Crossings) (answer : StepAnswer) → answer ≢ stepped.Idle → Steps test (Some attempt.crossings) (Some crossings) old new answer → IsCalm (rolled answer) → new.seats attempt.crossings.caller ≡ old.seats attempt.crossings.caller
  step_seat crossings stepped.Idle busy steps calm = absurd (busy refl)
  step_seat crossings (stepped.Unwound ticket) busy steps calm = steps.1.waits.seats attempt.crossings.caller
  step_seat crossings (stepped.Failed faults) busy steps calm = elim steps.1 [ inl plain ↦ plain.1.seats attempt.crossings.caller | inr strikes ↦ strikes.waits.seats attempt.crossings.caller ]
  step_seat crossings stepped.Dropped busy steps calm = steps.1.waits.seats attempt.crossings.caller
  step_seat crossings stepped.Remounted busy steps calm = steps.2.waits.seats attempt.crossings.caller
  step_seat crossings stepped.Reopened busy steps calm = steps.1.waits.seats attempt.crossings.caller
  step_seat crossings (stepped.Replayed number) busy steps calm = steps.1.waits.seats attempt.crossings.caller
  step_seat crossings stepped.Resumed busy steps calm = steps.2.waits.seats attempt.crossings.caller
  step_seat crossings (stepped.Again faults) busy steps calm = steps.1.waits.seats attempt.crossings.caller
  step_seat crossings stepped.Device busy steps calm = absurd (let both : false ≡ true = calm in cc)
  step_seat crossings stepped.NoMemory busy steps calm = absurd calm

  step_passes : (crossings : Crossings) (answer : StepAnswer) → answer ≢ stepped.Idle → Steps test (Some attempt.crossings) (Some crossings) old new answer → HasPassed (old.seats attempt.crossings.caller).flight attempt
      → IsCalm (rolled answer) → HasPassed (new.seats attempt.crossings.caller).flight (record attempt { crossings = crossings })
  step_passes crossings answer busy steps passed calm =
      subst (λ (s : SightSeat). HasPassed s.flight (record attempt { crossings = crossings })) (sym (step_seat crossings answer busy steps calm))
      (passed_on (old.seats attempt.crossings.caller).flight attempt crossings (grown_kept attempt.crossings crossings (step_keeps crossings answer busy steps calm)) passed)

-- what it comes to
pub by_rolled : (seat : SightSeat) (attempt : Attempt) (answer : StepAnswer) → (IsCalm (rolled answer) → HasPassed seat.flight attempt) → PassedBy seat attempt (rolled answer)
by_rolled seat attempt stepped.Idle goes = goes tt
by_rolled seat attempt (stepped.Unwound ticket) goes = goes tt
by_rolled seat attempt (stepped.Failed faults) goes = goes tt
by_rolled seat attempt stepped.Dropped goes = goes tt
by_rolled seat attempt stepped.Remounted goes = goes tt
by_rolled seat attempt stepped.Reopened goes = goes tt
by_rolled seat attempt (stepped.Replayed number) goes = goes tt
by_rolled seat attempt stepped.Resumed goes = goes tt
by_rolled seat attempt (stepped.Again faults) goes = goes tt
by_rolled seat attempt stepped.Device goes = λ plain. absurd (let both : false ≡ true = plain in cc)
by_rolled seat attempt stepped.NoMemory goes = tt

module _ (test : Option (Crossing → Bool)) (old new : Sight) (attempt : Attempt) (are : AreSixCounts attempt.crossings) where
  -- with the crossings that are kept
  pub marks_rolled : (by : Option Crossings) (now : Attempt) (answer : StepAnswer) → answer ≢ stepped.Idle → GoOn (Some attempt.crossings) by → KeepsCrossings attempt by now → Steps test (Some attempt.crossings) by old new answer
      → MarksPoints event.Recover (old.seats attempt.crossings.caller) (new.seats attempt.crossings.caller) attempt now (rolled answer)
  marks_rolled None now answer busy on keeps steps = absurd on
  marks_rolled (Some crossings) now answer busy on keeps steps =
      subst (λ (a : Attempt). MarksPoints event.Recover (old.seats attempt.crossings.caller) (new.seats attempt.crossings.caller) attempt a (rolled answer)) (sym keeps) (record {
        passes = λ asked passed. by_rolled (new.seats attempt.crossings.caller) (record attempt { crossings = crossings }) answer (λ calm. step_passes test old new attempt are crossings answer busy steps passed calm);
        crosses = λ calm. step_keeps test old new attempt are crossings answer busy steps calm;
      })

  -- no recovery was in progress
  pub marks_idle : new ≡ old → MarksPoints event.Recover (old.seats attempt.crossings.caller) (new.seats attempt.crossings.caller) attempt attempt came.On
  marks_idle same = record {
    passes = λ asked passed. subst (λ (s : Sight). HasPassed (s.seats attempt.crossings.caller).flight attempt) (sym same) passed;
    crosses = λ calm. keeps_same attempt.crossings attempt.crossings refl;
  }
