-- A call enters, or is answered as it enters.
use Rattle.std.proofs.Common.{◌≡◌, List, [], ◌∷◌, ◌++◌, ℕ, ◌+◌, Bool, false, inl, inr, refl, ap, sym, subst, ◌∙◌, Option, None, Some}
use Rattle.mb_edge.specs.declared.crossings.Crossing.{Crossing}
use Rattle.std.proofs.lemmas.List.Elements.{Contains-push}
use Rattle.std.specs.List.{Contains}
use Rattle.mb_kinds.specs.Own.{own}
use Rattle.mb_kinds.specs.declared.calls.Call.{Call}
use Rattle.mb_kinds.specs.declared.entries.Flight.{Flight}
use Rattle.mb_kinds.specs.declared.faults.FaultRecord.{FaultRecord}
use Rattle.mb_kinds.specs.declared.faults.Ticket.{Ticket}
use Rattle.mb_kinds.specs.declared.replies.Reply.{Reply}
use Rattle.mb_core_spec.specs.State.{records_of}
use Rattle.mb_run.proofs.Lists.{own_mine}
use Rattle.mb_run.proofs.Amiss.{enters_amiss, still_amiss}
use Rattle.mb_run.specs.Events.{Answers, BeginsFlight, EntersInSight, EndsFlight, IsUnplain, entry_of}
use Rattle.mb_run.specs.Pages.{HasTablesFor}
use Rattle.mb_run.specs.Sights.{IsOrderlyInSight, Limits, SightSeat, Sight, flight_of}
use Rattle.mb_run.specs.declared.answers.EnterAnswer.TheVariants as enter
use Rattle.mb_run.specs.declared.runner.At.TheVariants as at
use Rattle.mb_volume.specs.Attempts.{going_in}
use Rattle.mb_volume.specs.Called.{MetOnce, Suffers}
use Rattle.mb_volume.specs.Parts.{MovesPart, Part, part_of}
use Rattle.mb_volume.specs.Underway.{AddsEntry, AddsEntryIf, Comes, HasItsAnswer, IsBegunIf, FlightIsCall, IsReplyIn, StruckSoFar, IsCallUnderway, FlightHasEntry, FlightLacksEntry, HasMetOnce, PlaceStands}
use Rattle.mb_volume.specs.declared.attempt.Attempt.{Attempt}
use Rattle.mb_volume.specs.declared.events.Came.TheVariants as came
use Rattle.mb_volume.proofs.Changing.{moves_entry, moves_same, moves_stays}
use Rattle.mb_volume.proofs.Marking.{lacks_entry, unplain_not}
use Rattle.mb_volume.proofs.Once.{once_inside, once_with}
use Rattle.mb_volume.proofs.Replies.{own_reply}
use Rattle.mb_volume.proofs.Standing.{IsFlight, flight_now, flying, lacks_if}
use Rattle.mb_volume.proofs.Struck.{suffers_of}

-- no event but a fault changes the caller's fault records
pub struck_still : (caller : ℕ) (old new : Sight) → new.records ≡ old.records → (part_of new caller).struck ≡ (part_of old caller).struck
struck_still caller old new same = ap (λ (rs : List FaultRecord). records_of rs caller) same

module _ (call : Call) (test : Option (Crossing → Bool)) (from : Part) (old : Sight) (attempt : Attempt) (u : IsCallUnderway call test from (part_of old attempt.crossings.caller) attempt) where
  suffers_now : (new : Sight) → new.records ≡ old.records → Suffers test attempt.crossings.caller from (part_of new attempt.crossings.caller)
  suffers_now new same =
      let struck : StruckSoFar test attempt.crossings from.struck (part_of new attempt.crossings.caller).struck = subst (StruckSoFar test attempt.crossings from.struck) (sym (struck_still attempt.crossings.caller old new same)) u.struck in
      suffers_of test attempt.crossings from (part_of new attempt.crossings.caller) u.ordinal struck

  -- the flight, which has its entry, ends
  pub answered_leaves : (new : Sight) (flight : Flight) (answer : Reply) → EndsFlight attempt.crossings.caller flight old new → IsReplyIn (own old.history attempt.crossings.caller) flight.ordinal answer → HasItsAnswer call test attempt.crossings.caller from (part_of new attempt.crossings.caller) answer
  answered_leaves new flight answer leaves handed =
      let flies = flying call test from old attempt u flight leaves.was in
      let entries : own new.history attempt.crossings.caller ≡ own old.history attempt.crossings.caller = ap (λ h. own h attempt.crossings.caller) leaves.counts.history in
      let added : AddsEntry attempt.crossings.caller (from.seat.begun + 1) call from.entries (own old.history attempt.crossings.caller) =
      subst (λ b. AddsEntryIf b attempt.crossings.caller (from.seat.begun + 1) call from.entries (own old.history attempt.crossings.caller)) leaves.answered flies.entered in
      record {
        config = leaves.stays.config ∙ u.config;
        seat = leaves.mine ∙ ap (λ n. record { begun = n; flight = None }) flies.begun;
        entry = subst (AddsEntry attempt.crossings.caller (from.seat.begun + 1) call from.entries) (sym entries) added;
        reply = subst (λ es. IsReplyIn es (from.seat.begun + 1) answer) (sym entries) (subst (λ n. IsReplyIn (own old.history attempt.crossings.caller) n answer) flies.ordinal handed);
        suffers = suffers_now new leaves.stays.records;
        once = λ plain. subst (λ n. MetOnce n (part_of new attempt.crossings.caller).struck) u.ordinal (subst (MetOnce attempt.crossings.ordinal) (sym (struck_still attempt.crossings.caller old new leaves.stays.records))
            (once_with attempt.crossings.ordinal (part_of old attempt.crossings.caller) attempt.at (subst FlightHasEntry (sym leaves.was) leaves.answered) u.once));
      }

  -- a flight without an entry gets one and ends
  pub answered_by : (new : Sight) (flight : Flight) (answer : Reply) → IsUnplain answer → IsFlight call from (part_of old attempt.crossings.caller) flight → flight.answered ≡ false → Answers attempt.crossings.caller flight answer old new
      → HasItsAnswer call test attempt.crossings.caller from (part_of new attempt.crossings.caller) answer
  answered_by new flight answer unplain is lacks answers = record {
    config = answers.stays.config ∙ u.config;
    seat = answers.mine ∙ ap (λ n. record { begun = n; flight = None }) is.ordinal;
    entry = record {
      entry = entry_of attempt.crossings.caller flight None answer;
      whole = ap (λ h. own h attempt.crossings.caller) answers.history ∙ own_mine old.history (entry_of attempt.crossings.caller flight None answer) attempt.crossings.caller refl
          ∙ ap (λ es. es ++ entry_of attempt.crossings.caller flight None answer ∷ []) (is.lacks lacks);
      caller_is = refl;
      ordinal_is = is.ordinal;
      call_is = is.call_is;
    };
    reply = record {
      entry = entry_of attempt.crossings.caller flight None answer;
      there = subst (λ es. Contains es (entry_of attempt.crossings.caller flight None answer)) (sym (ap (λ h. own h attempt.crossings.caller) answers.history ∙ own_mine old.history (entry_of attempt.crossings.caller flight None answer) attempt.crossings.caller refl))
          (Contains-push (own old.history attempt.crossings.caller) (entry_of attempt.crossings.caller flight None answer));
      ordinal_is = is.ordinal;
      reply_is = refl;
    };
    suffers = suffers_now new answers.stays.records;
    once = λ plain. absurd (unplain_not answer unplain plain);
  }

  -- the flight of a call that begins, or goes on
  begun_now : (new : Sight) (flight : Flight) → IsFlight call from (part_of old attempt.crossings.caller) flight → flight.answered ≡ false → BeginsFlight attempt.crossings.caller flight old new
      → FlightIsCall attempt.crossings.caller call from (part_of new attempt.crossings.caller) flight
  begun_now new flight is lacks begins = record {
    call_is = is.call_is;
    ordinal = is.ordinal;
    begun = ap (λ (s : SightSeat). s.begun) begins.mine ∙ is.ordinal;
    entered = subst (λ b. AddsEntryIf b attempt.crossings.caller (from.seat.begun + 1) call from.entries (own new.history attempt.crossings.caller)) (sym lacks)
        (ap (λ h. own h attempt.crossings.caller) begins.history ∙ is.lacks lacks);
  }

  underway_begins : (new : Sight) (flight : Flight) (now : Attempt) → now.crossings ≡ attempt.crossings → IsFlight call from (part_of old attempt.crossings.caller) flight → flight.answered ≡ false → BeginsFlight attempt.crossings.caller flight old new
      → PlaceStands attempt.crossings.caller (new.seats attempt.crossings.caller) now.at → HasTablesFor new.config.callers now.pages
      → HasMetOnce attempt.crossings.ordinal (part_of new attempt.crossings.caller) now.at → IsCallUnderway call test from (part_of new attempt.crossings.caller) (record now { crossings = attempt.crossings })
  underway_begins new flight now same is lacks begins stands tables once = record {
    config = begins.stays.config ∙ u.config;
    within = u.within;
    most = u.most;
    ordinal = u.ordinal;
    counts = u.counts;
    begun = subst (IsBegunIf attempt.crossings.caller call from (part_of new attempt.crossings.caller)) (sym (ap (λ (s : SightSeat). s.flight) begins.mine)) (begun_now new flight is lacks begins);
    stands = stands;
    tables = tables;
    struck = subst (StruckSoFar test attempt.crossings from.struck) (sym (struck_still attempt.crossings.caller old new begins.stays.records)) u.struck;
    once = once;
  }

  -- ---- by the answers

  pub comes_done : (new : Sight) (now : Attempt) (answer : Reply) → EntersInSight old new attempt.crossings.caller call (enter.Done answer) → Comes call test attempt.crossings.caller from (part_of new attempt.crossings.caller) now (came.Answered answer)
  comes_done new now answer enters = elim enters [
    | inl left ↦ answered_leaves new left.0 answer left.1 (own_reply old.history attempt.crossings.caller left.0.ordinal answer left.2)
    | inr made ↦ answered_by new (flight_of old attempt.crossings.caller call (old.seats attempt.crossings.caller).flight) answer made.1 (flight_now call test from old attempt u) made.0 made.2
  ]

  pub comes_shut : (new : Sight) → attempt.at ≡ at.Outside → EntersInSight old new attempt.crossings.caller call enter.Shut → Comes call test attempt.crossings.caller from (part_of new attempt.crossings.caller) attempt came.Shut
  comes_shut new outside enters =
      let flight = flight_of old attempt.crossings.caller call (old.seats attempt.crossings.caller).flight in (
        underway_begins new flight attempt refl (flight_now call test from old attempt u) enters.1 enters.2 (subst (PlaceStands attempt.crossings.caller (new.seats attempt.crossings.caller)) (sym outside) tt)
            (subst (λ (l : Limits). HasTablesFor l.callers attempt.pages) (sym enters.2.stays.config) u.tables)
            (subst (HasMetOnce attempt.crossings.ordinal (part_of new attempt.crossings.caller)) (sym outside) (λ has. absurd (lacks_entry (Some flight) enters.1 (subst FlightHasEntry (ap (λ (s : SightSeat). s.flight) enters.2.mine) has)))),
        (flight, ap (λ (s : SightSeat). s.flight) enters.2.mine, enters.1),
      )

  pub comes_inside : (new : Sight) (ticket : Ticket) → EntersInSight old new attempt.crossings.caller call (enter.Inside ticket)
      → Comes call test attempt.crossings.caller from (part_of new attempt.crossings.caller) (going_in attempt ticket) (came.Inside ticket)
  comes_inside new ticket enters =
      let was = flight_of old attempt.crossings.caller call (old.seats attempt.crossings.caller).flight in
      let flight : Flight = record was { ticket = Some ticket } in
      let is = flight_now call test from old attempt u in
      let made : IsFlight call from (part_of old attempt.crossings.caller) flight = record { call_is = is.call_is; ordinal = is.ordinal; lacks = is.lacks } in (
        underway_begins new flight (going_in attempt ticket) refl made enters.lacks enters.begins
            (record { flight = flight; here = ap (λ (s : SightSeat). s.flight) enters.begins.mine; mine = refl; ordinal = enters.ordinal; moment = enters.moment; answered = enters.lacks }, enters.own) tt
            (subst (MetOnce attempt.crossings.ordinal) (sym (struck_still attempt.crossings.caller old new enters.begins.stays.records))
            (subst (λ n. MetOnce n (part_of old attempt.crossings.caller).struck) (is.ordinal ∙ sym u.ordinal) (once_inside old.records attempt.crossings.caller was.ordinal enters.once))),
        refl,
      )

  -- nothing changed, for want of memory
  pub comes_nothing : (new : Sight) → new ≡ old → FlightLacksEntry (old.seats attempt.crossings.caller).flight → Comes call test attempt.crossings.caller from (part_of new attempt.crossings.caller) attempt came.NoMemory
  comes_nothing new same lacks = subst (λ (s : Sight). Comes call test attempt.crossings.caller from (part_of s attempt.crossings.caller) attempt came.NoMemory) (sym same) (u, lacks)

  pub comes_not_in : (new : Sight) → EntersInSight old new attempt.crossings.caller call enter.NoMemory → Comes call test attempt.crossings.caller from (part_of new attempt.crossings.caller) attempt came.NoMemory
  comes_not_in new enters = comes_nothing new enters.0 (lacks_if old attempt.crossings.caller call (old.seats attempt.crossings.caller).flight enters.1)

-- ---- what it leaves to the others

pub moves_done : (old new : Sight) (caller : ℕ) (call : Call) (answer : Reply) → IsOrderlyInSight old → EntersInSight old new caller call (enter.Done answer) → MovesPart caller old new
moves_done old new caller call answer right enters = elim enters [
  | inl left ↦ moves_stays caller old new left.1.stays left.1.counts.history (enters_amiss old new caller call (enter.Done answer) right (inl left))
  | inr made ↦ moves_entry caller old new (entry_of caller (flight_of old caller call (old.seats caller).flight) None answer) made.2.stays refl made.2.history (enters_amiss old new caller call (enter.Done answer) right (inr made))
]

pub moves_begins : (old new : Sight) (caller : ℕ) (flight : Flight) → BeginsFlight caller flight old new → MovesPart caller old new
moves_begins old new caller flight begins = moves_stays caller old new begins.stays begins.history (still_amiss old new begins.stays.config begins.log begins.history)

pub moves_nothing : (old new : Sight) (caller : ℕ) → new ≡ old → MovesPart caller old new
moves_nothing old new caller same = subst (MovesPart caller old) (sym same) (moves_same caller old)
