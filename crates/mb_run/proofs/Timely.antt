-- What each event of the driver leaves in time.
use Rattle.std.proofs.Common.{◌≡◌, ◌≢◌, ◌⊎◌, inl, inr, List, [], ◌∷◌, ◌++◌, ℕ, ◌+◌, ◌<◌, ◌≤◌, Bool, true, false, ◌||◌, Option, None, Some, refl, ap, sym, subst, ◌∙◌, arith, length}
use Rattle.std.specs.Prelude.{nat_le, IfSome}
use Rattle.std.proofs.lemmas.List.{append-nil}
use Rattle.std.proofs.lemmas.Option.{same_Some}
use Rattle.mb_cache.specs.declared.answers.Flushed.{Flushed}
use Rattle.mb_cache.specs.declared.answers.Flushed.TheVariants as flushed
use Rattle.mb_core_spec.specs.Copies.{PagesState}
use Rattle.mb_core_spec.specs.declared.steps.Step.{Step}
use Rattle.mb_core_spec.specs.declared.steps.Step.TheVariants as step
use Rattle.mb_core_spec.specs.declared.stages.Stage.{Stage}
use Rattle.mb_core_spec.specs.declared.stages.Stage.TheVariants as stage
use Rattle.mb_edge.specs.declared.crossings.Crossing.{Crossing}
use Rattle.mb_edge.specs.declared.crossings.Crossings.{Crossings}
use Rattle.mb_iface.specs.declared.replies.Need.{Need}
use Rattle.mb_kinds.specs.declared.calls.Call.{Call}
use Rattle.mb_kinds.specs.declared.entries.Entry.{Entry}
use Rattle.mb_kinds.specs.declared.entries.Flight.{Flight}
use Rattle.mb_kinds.specs.declared.faults.Kind.{Kind}
use Rattle.mb_kinds.specs.declared.faults.Ticket.{Ticket}
use Rattle.mb_kinds.specs.declared.replies.Reply.{Reply}
use Rattle.mb_run.specs.Events.{Answers, BeginsFlight, EndsFlight, EntersInside, FlushesWith, Gains, IsCallOf, IsStale, KeepsLog, LeavesOthersAlone, Logs, LogsInTime, SealsIf, StrikesCall, entry_of, sealed}
use Rattle.mb_run.specs.Recovering.{Steps, StrikesBy, Waits}
use Rattle.mb_run.specs.Seals.{is_due, is_sync, omitted}
use Rattle.mb_run.specs.Sights.{IsOld, IsOrderlyInSight, SightSeat, SeatHasTicket, Sight, flight_of, late_in, omitted_in, recovers, since_in, undue_in}
use Rattle.mb_run.specs.Stales.{stales_beyond, stales_since}
use Rattle.mb_run.specs.Timely.{CountsStales, IsTimely, IsToldNow, TellsFew}
use Rattle.mb_run.specs.declared.answers.StepAnswer.{StepAnswer}
use Rattle.mb_run.specs.declared.answers.StepAnswer.TheVariants as stepped
use Rattle.mb_run.proofs.Counting.{same_or_not}
use Rattle.mb_run.proofs.Late.{MayTell, entry_late, still_late}
use Rattle.mb_run.proofs.Omitted.{due_omitted, logged_omitted, marks_omitted, no_sync_last, sealed_omitted, stale_omitted}
use Rattle.mb_run.proofs.Stales.{entered_beyond, entered_since, marks_beyond, marks_since, put_beyond, put_since, told_beyond, told_other, told_other_beyond, told_since}
use Rattle.mb_run.proofs.Undue.{answers_undue, in_time_undue, seal_undue, stale_undue_in, still_undue}

no_flight : (flight : Flight) → None ≡ Some flight → ⊥
no_flight flight same = cc

no_both : true ≡ false → ⊥
no_both same = cc

-- ---- one after another

pub timely_then : (a b d : Sight) (m n : ℕ) → IsTimely m a b → IsTimely n b d → IsTimely (m + n) a d
timely_then a b d m n one two = record {
  undue = (let low = one.undue in let more = two.undue in omega (arith, low, more));
  prompt = (let low = one.prompt in let more = two.prompt in omega (arith, low, more));
  told = λ counts.
      (let first = one.told counts in
      let second = two.told first.counts in
      record { counts = second.counts; few = λ caller. (let low = first.few caller in let more = second.few caller in omega (arith, low, more)) });
  late = (let low = one.late in let more = two.late in omega (arith, low, more));
}

pub timely_more : (a b : Sight) (m n : ℕ) → m ≤ n → IsTimely m a b → IsTimely n a b
timely_more a b m n less timely = record { undue = (let low = timely.undue in omega (arith, low, less)); prompt = timely.prompt; told = timely.told; late = timely.late }

pub timely_refl : (s : Sight) → IsTimely 0 s s
timely_refl s = record { undue = omega arith; prompt = omega arith; told = λ counts. record { counts = counts; few = λ caller. omega arith }; late = omega arith }

pub timely_same : (old new : Sight) → new ≡ old → IsTimely 0 old new
timely_same old new same = subst (IsTimely 0 old) (sym same) (timely_refl old)

-- ---- sync(2)

module _ (old new : Sight) where
  omitted_is : (history : List Entry) (trail : List Step) → new.history ≡ history → new.trail ≡ trail → omitted_in new ≡ omitted history trail
  omitted_is history trail grown goes = ap (λ (h : List Entry). omitted h new.trail) grown ∙ ap (λ (t : List Step). omitted history t) goes

  pub more_omitted : (more : List Entry) → KeepsLog old new → new.history ≡ old.history ++ more → omitted_in new ≤ omitted_in old
  more_omitted more log grown =
      let is = omitted_is (old.history ++ more) (old.trail ++ log.trail.steps) grown log.trail.whole in
      let low = marks_omitted old.history more old.trail log.trail.steps log.trail.others in
      omega (arith, is, low)

  pub still_omitted : KeepsLog old new → new.history ≡ old.history → omitted_in new ≤ omitted_in old
  still_omitted log same = more_omitted [] log (same ∙ sym (append-nil old.history))

pub stale_prompt : (caller : ℕ) (old new : Sight) (pages : PagesState) → IsStale caller old new pages → omitted_in new ≤ omitted_in old
stale_prompt caller old new pages stale =
    let is = omitted_is old new (old.history ++ []) (old.trail ++ step.Stale stale.ticket stale.block ∷ []) (stale.counts.history ∙ sym (append-nil old.history)) stale.trail in
    let low = stale_omitted old.history [] old.trail stale.ticket stale.block in
    omega (arith, is, low)

-- ---- what one caller does leaves the others as they are

module _ (caller : ℕ) (old new : Sight) (stays : LeavesOthersAlone caller old new) (goes : (other : ℕ) → other ≢ caller → stales_since other new.trail ≤ stales_since other old.trail) where
  other_told : CountsStales old → (other : ℕ) (flight : Flight) (ticket : Ticket) → other ≢ caller → (new.seats other).flight ≡ Some flight → flight.ticket ≡ Some ticket → flight.answered ≡ false
      → (ticket.incarnation < new.incarnation) ⊎ IsToldNow new other ticket
  other_told counts other flight ticket apart here mine lacks = elim (counts other flight ticket (ap (λ (s : SightSeat). s.flight) (sym (stays.seats other apart)) ∙ here) mine lacks) [
    | inl past ↦ inl (omega (arith, past, stays.incarnation))
    | inr now ↦ inr (record {
      present = now.present ∙ sym stays.incarnation;
      runs = stays.stage ∙ now.runs;
      few = (let less = goes other apart in let few = now.few in let same = stays.stales other apart in omega (arith, less, few, same));
    })
  ]

  counts_by : ((flight : Flight) (ticket : Ticket) → (new.seats caller).flight ≡ Some flight → flight.ticket ≡ Some ticket → flight.answered ≡ false → (ticket.incarnation < new.incarnation) ⊎ IsToldNow new caller ticket)
      → CountsStales old → CountsStales new
  counts_by own counts = λ one flight ticket here mine lacks. elim (same_or_not one caller) [
    | inl same ↦ subst (λ n. (ticket.incarnation < new.incarnation) ⊎ IsToldNow new n ticket) (sym same) (own flight ticket (ap (λ n. (new.seats n).flight) (sym same) ∙ here) mine lacks)
    | inr apart ↦ other_told counts one flight ticket apart here mine lacks
  ]

-- ---- a call ends

module _ (caller : ℕ) (old new : Sight) (stays : LeavesOthersAlone caller old new) (log : KeepsLog old new) where
  pub timely_ends : (more : List Entry) → new.history ≡ old.history ++ more → (new.seats caller).flight ≡ None → undue_in new ≤ undue_in old → late_in new ≤ late_in old → IsTimely 0 old new
  timely_ends more grown gone undue late = record {
    late = late;
    undue = omega (arith, undue);
    prompt = more_omitted old new more log grown;
    told = λ counts. record {
      counts = counts_by caller old new stays (λ other apart. marks_since other old.trail new.trail log.trail) (λ flight ticket here mine lacks. absurd (no_flight flight (sym gone ∙ here))) counts;
      few = λ one. (let same = marks_beyond one old.trail new.trail log.trail in omega (arith, same));
    };
  }

pub timely_answers : (caller : ℕ) (flight : Flight) (answer : Reply) (old new : Sight) → Answers caller flight answer old new → IsOrderlyInSight old → MayTell old.stage answer → IsTimely 0 old new
timely_answers caller flight answer old new answers right tells =
    timely_ends caller old new answers.stays answers.log (entry_of caller flight None answer ∷ []) answers.history (ap (λ (s : SightSeat). s.flight) answers.mine) (answers_undue caller flight answer old new answers)
    (entry_late old new (entry_of caller flight None answer) right tells answers.history)

pub timely_leaves : (caller : ℕ) (flight : Flight) (old new : Sight) → EndsFlight caller flight old new → IsTimely 0 old new
timely_leaves caller flight old new leaves =
    timely_ends caller old new leaves.stays leaves.log [] (leaves.counts.history ∙ sym (append-nil old.history)) (ap (λ (s : SightSeat). s.flight) leaves.mine)
    (still_undue old new leaves.stays.config leaves.log leaves.counts.history) (still_late old new leaves.counts.history)

-- ---- a call waits, or goes inside

old_ticket : (incarnation : ℕ) (flight : Flight) (ticket : Ticket) → IsOld incarnation (Some flight) → flight.ticket ≡ Some ticket → ticket.incarnation < incarnation
old_ticket incarnation flight ticket old mine = subst (λ (o : Option Ticket). IfSome o (λ (t : Ticket). t.incarnation < incarnation)) mine old

pub timely_waits_outside : (caller : ℕ) (flight : Flight) (old new : Sight) → BeginsFlight caller flight old new → IsOld old.incarnation (Some flight) → IsTimely 0 old new
timely_waits_outside caller flight old new begins past = record {
  late = still_late old new begins.history;
  undue = (let low = still_undue old new begins.stays.config begins.log begins.history in omega (arith, low));
  prompt = still_omitted old new begins.log begins.history;
  told = λ counts. record {
    counts = counts_by caller old new begins.stays (λ other apart. marks_since other old.trail new.trail begins.log.trail)
        (λ found ticket here mine lacks.
        (let same : found ≡ flight = same_Some found flight (sym here ∙ ap (λ (s : SightSeat). s.flight) begins.mine) in
        let low = old_ticket old.incarnation flight ticket past (ap (λ (f : Flight). f.ticket) (sym same) ∙ mine) in
        inl (omega (arith, low, begins.stays.incarnation))))
        counts;
    few = λ one. (let same = marks_beyond one old.trail new.trail begins.log.trail in omega (arith, same));
  };
}

module _ (caller : ℕ) (call : Call) (old new : Sight) (ticket : Ticket) (enters : EntersInside old new caller call ticket) (past : IsOld old.incarnation (old.seats caller).flight) where
  abbrev given : Flight
  given = record (flight_of old caller call (old.seats caller).flight) { ticket = Some ticket }

  abbrev begins : BeginsFlight caller given old new
  begins = enters.begins

  goes : new.trail ≡ old.trail ++ step.Entered ticket ∷ []
  goes = enters.trail past

  now_inside : IsToldNow new caller ticket
  now_inside = record {
    present = enters.present ∙ sym begins.stays.incarnation;
    runs = begins.stays.stage ∙ enters.runs;
    few = (let is = ap (stales_since caller) goes in let none = entered_since caller old.trail ticket enters.own in omega (arith, is, none));
  }

  pub timely_inside : IsTimely 0 old new
  timely_inside = record {
    late = still_late old new begins.history;
    undue = (let low = still_undue old new begins.stays.config begins.log begins.history in omega (arith, low));
    prompt = still_omitted old new begins.log begins.history;
    told = λ counts. record {
      counts = counts_by caller old new begins.stays (λ other apart. marks_since other old.trail new.trail begins.log.trail)
          (λ found mine here held lacks.
          (let same : found ≡ given = same_Some found given (sym here ∙ ap (λ (s : SightSeat). s.flight) begins.mine) in
          let own : ticket ≡ mine = same_Some ticket mine (ap (λ (f : Flight). f.ticket) (sym same) ∙ held) in
          subst (λ (t : Ticket). (t.incarnation < new.incarnation) ⊎ IsToldNow new caller t) own (inr now_inside)))
          counts;
      few = λ one. (let is = ap (stales_beyond one) goes in let same = entered_beyond one old.trail ticket in omega (arith, is, same));
    };
  }

-- ---- a call gathers

pub timely_gains : (caller : ℕ) (old new : Sight) (need : Need) (before now : PagesState) → Gains caller old new need before now → IsTimely 0 old new
timely_gains caller old new need before now gains = record {
  late = still_late old new gains.counts.history;
  undue = (let low = still_undue old new gains.stays.config gains.log gains.counts.history in omega (arith, low));
  prompt = still_omitted old new gains.log gains.counts.history;
  told = λ counts. record {
    counts = counts_by caller old new gains.stays (λ other apart. (let same = ap (stales_since other) gains.trail in omega (arith, same)))
        (λ flight ticket here mine lacks. elim (counts caller flight ticket (ap (λ (s : SightSeat). s.flight) (sym gains.mine) ∙ here) mine lacks) [
          | inl past ↦ inl (omega (arith, past, gains.stays.incarnation))
          | inr told ↦ inr (record {
            present = told.present ∙ sym gains.stays.incarnation;
            runs = gains.stays.stage ∙ told.runs;
            few = (let few = told.few in let is = ap (stales_since caller) gains.trail in let same = gains.stales in omega (arith, few, is, same));
          })
        ])
        counts;
    few = λ one. (let same = ap (stales_beyond one) gains.trail in omega (arith, same));
  };
}

-- ---- a call is told that a copy is stale

module _ (caller : ℕ) (old new : Sight) (pages : PagesState) (ticket : Ticket) (stale : IsStale caller old new pages) (has : SeatHasTicket false (old.seats caller) ticket) (present : ticket.incarnation ≡ old.incarnation) (few : old.stales caller < 4) where
  abbrev told : Ticket
  told = stale.ticket

  stale_goes : (other : ℕ) → other ≢ caller → stales_since other new.trail ≡ stales_since other old.trail
  stale_goes other apart = ap (stales_since other) stale.trail ∙ told_other other old.trail told stale.block (λ same. apart (sym same ∙ stale.own))

  module _ (counts : CountsStales old) where
    was : IsToldNow old caller ticket
    was = elim (counts caller has.flight ticket has.here has.mine has.answered) [
      | inl past ↦ absurd (omega (arith, past, present))
      | inr now ↦ now
    ]

    is_now : IsToldNow new caller ticket
    is_now = record {
      present = present ∙ sym stale.stays.incarnation;
      runs = stale.stays.stage ∙ was.runs;
      few = (let is = ap (stales_since caller) stale.trail ∙ told_since caller old.trail told stale.block stale.own in
          let low = was.few in
          let min_is = stale.stales in
          omega (arith, is, low, min_is, few));
    }

    tells : TellsFew old new
    tells = record {
      counts = counts_by caller old new stale.stays (λ other apart. (let same = stale_goes other apart in omega (arith, same)))
          (λ flight mine here held lacks.
          (let same : flight ≡ has.flight = same_Some flight has.flight (sym here ∙ ap (λ (s : SightSeat). s.flight) stale.mine ∙ has.here) in
          let own : ticket ≡ mine = same_Some ticket mine (sym has.mine ∙ ap (λ (f : Flight). f.ticket) (sym same) ∙ held) in
          subst (λ (t : Ticket). (t.incarnation < new.incarnation) ⊎ IsToldNow new caller t) own (inr is_now)))
          counts;
      few = λ one. (let is = ap (stales_beyond one) stale.trail in let low = beyond_by one in omega (arith, is, low));
    } where
      low_since : stales_since caller old.trail < 4
      low_since = let low = was.few in omega (arith, low, few)

      beyond_by : (one : ℕ) → stales_beyond one (old.trail ++ step.Stale told stale.block ∷ []) ≡ stales_beyond one old.trail
      beyond_by one = elim (same_or_not one caller) [
        | inl same ↦ subst (λ n. stales_beyond n (old.trail ++ step.Stale told stale.block ∷ []) ≡ stales_beyond n old.trail) (sym same) (told_beyond caller old.trail told stale.block stale.own low_since)
        | inr apart ↦ told_other_beyond one old.trail told stale.block (λ same. apart (sym same ∙ stale.own))
      ]

  pub timely_stale : IsTimely 0 old new
  timely_stale = record {
    late = still_late old new stale.counts.history;
    undue = (let low = stale_undue_in caller old new pages stale in omega (arith, low));
    prompt = stale_prompt caller old new pages stale;
    told = tells;
  }

-- ---- a call is logged

module _ (caller : ℕ) (old : Sight) (flight : Flight) where
  told_logged : (new : Sight) (trail : List Step) → LeavesOthersAlone caller old new → (new.seats caller).flight ≡ Some (record flight { answered = true }) → new.trail ≡ trail
      → ((one : ℕ) → stales_since one trail ≡ stales_since one old.trail) → ((one : ℕ) → stales_beyond one trail ≡ stales_beyond one old.trail) → CountsStales old → TellsFew old new
  told_logged new trail stays mine goes since beyond counts = record {
    counts = counts_by caller old new stays (λ other apart. (let is = ap (stales_since other) goes in let same = since other in omega (arith, is, same)))
        (λ found ticket here held lacks.
        absurd (no_both (ap (λ (f : Flight). f.answered) (same_Some (record flight { answered = true }) found (sym mine ∙ here)) ∙ lacks)))
        counts;
    few = λ one. (let is = ap (stales_beyond one) goes in let same = beyond one in omega (arith, is, same));
  }

module _ (old new : Sight) (ticket : Ticket) (call : Call) (has : SeatHasTicket false (old.seats ticket.caller) ticket) (of : IsCallOf (old.seats ticket.caller) call) (covers : old.ops ≤ since_in old) (in_time : LogsInTime ticket.caller old new ticket call) where
  abbrev logged : Sight
  logged = in_time.logged

  abbrev logs : Logs ticket.caller old logged ticket
  logs = in_time.logs

  abbrev entry : Entry
  entry = entry_of ticket.caller logs.flight logs.pick logs.answer

  abbrev one_more : List Step
  one_more = old.trail ++ step.Logged ticket ∷ []

  abbrev two_more : List Step
  two_more = one_more ++ step.Sealed (length logged.history) ∷ []

  is_last : logs.flight ≡ has.flight
  is_last = same_Some logs.flight has.flight (sym logs.was ∙ has.here)

  not_sync : is_due logged.config.threshold logged.ops call ≡ false → is_sync logs.flight.call ≡ false
  not_sync none = ap is_sync (of logs.flight logs.was) ∙ or_false (nat_le logged.config.threshold logged.ops) (is_sync call) none where
    or_false : (a b : Bool) → (a || b) ≡ false → b ≡ false
    or_false true b is = absurd (no_both is)
    or_false false b is = is

  prompt_if : (due : Bool) → is_due logged.config.threshold logged.ops call ≡ due → SealsIf due logged new → omitted_in new ≤ omitted_in old
  prompt_if true due seals =
      let is = omitted_is old new (old.history ++ entry ∷ []) two_more (ap (λ (s : Sight). s.history) seals ∙ logs.history) (ap (λ (s : Sight). s.trail) seals ∙ ap (λ (t : List Step). t ++ step.Sealed (length logged.history) ∷ []) logs.trail) in
      let low = due_omitted old.history (entry ∷ []) old.trail ticket (length logged.history) in
      omega (arith, is, low)
  prompt_if false due seals =
      let is = omitted_is old new (old.history ++ entry ∷ []) one_more (ap (λ (s : Sight). s.history) seals ∙ logs.history) (ap (λ (s : Sight). s.trail) seals ∙ logs.trail) in
      let none = no_sync_last old.history entry ticket refl (ap (λ (f : Flight). f.ordinal) is_last ∙ sym has.ordinal) (not_sync due) in
      let low = logged_omitted old.history (entry ∷ []) old.trail ticket none in
      omega (arith, is, low)

  told_one : CountsStales old → TellsFew old logged
  told_one = told_logged ticket.caller old logs.flight logged one_more logs.stays (ap (λ (s : SightSeat). s.flight) logs.mine) logs.trail
      (λ one. put_since one old.trail (step.Logged ticket) refl) (λ one. put_beyond one old.trail (step.Logged ticket) refl)

  told_two : CountsStales old → TellsFew old (sealed logged new)
  told_two = told_logged ticket.caller old logs.flight (sealed logged new) two_more
      (record { config = logs.stays.config; records = logs.stays.records; stage = logs.stays.stage; incarnation = logs.stays.incarnation; seats = logs.stays.seats; copies = logs.stays.copies; stales = logs.stays.stales })
      (ap (λ (s : SightSeat). s.flight) logs.mine) (ap (λ (t : List Step). t ++ step.Sealed (length logged.history) ∷ []) logs.trail)
      (λ one. put_since one one_more (step.Sealed (length logged.history)) refl ∙ put_since one old.trail (step.Logged ticket) refl)
      (λ one. put_beyond one one_more (step.Sealed (length logged.history)) refl ∙ put_beyond one old.trail (step.Logged ticket) refl)

  told_if : (due : Bool) → SealsIf due logged new → CountsStales old → TellsFew old new
  told_if true seals counts = subst (TellsFew old) (sym seals) (told_two counts)
  told_if false seals counts = subst (TellsFew old) (sym seals) (told_one counts)

  pub logs_prompt : omitted_in new ≤ omitted_in old
  logs_prompt = prompt_if (is_due logged.config.threshold logged.ops call) refl in_time.seals

  pub timely_logs : late_in new ≤ late_in old → IsTimely 0 old new
  timely_logs late = record {
    late = late;
    undue = (let low = in_time_undue old new ticket call has of covers in_time in omega (arith, low));
    prompt = logs_prompt;
    told = told_if (is_due logged.config.threshold logged.ops call) in_time.seals;
  }

-- ---- no caller's event

-- the calls in flight stay, and the trace goes on
module _ (old new : Sight) (seats : (caller : ℕ) → new.seats caller ≡ old.seats caller) (log : KeepsLog old new) (history : new.history ≡ old.history) (config : new.config ≡ old.config) where
  timely_by : ((caller : ℕ) (ticket : Ticket) → (ticket.incarnation < old.incarnation) ⊎ IsToldNow old caller ticket → (ticket.incarnation < new.incarnation) ⊎ IsToldNow new caller ticket) → IsTimely 0 old new
  timely_by each = record {
    late = still_late old new history;
    undue = (let low = still_undue old new config log history in omega (arith, low));
    prompt = still_omitted old new log history;
    told = λ counts. record {
      counts = λ caller flight ticket here mine lacks. each caller ticket (counts caller flight ticket (ap (λ (s : SightSeat). s.flight) (sym (seats caller)) ∙ here) mine lacks);
      few = λ one. (let same = marks_beyond one old.trail new.trail log.trail in omega (arith, same));
    };
  }

-- a call is struck
pub timely_strikes : (old new : Sight) (ticket : Ticket) (kind : Kind) (nth : ℕ) → StrikesCall old new ticket kind nth → IsTimely 0 old new
timely_strikes old new ticket kind nth strikes = timely_by old new strikes.seats strikes.log strikes.counts.history strikes.config (λ caller mine was. elim was [
  | inl past ↦ inl (omega (arith, past, strikes.incarnation))
  | inr now ↦ inl (let here = now.present in omega (arith, here, strikes.incarnation))
])

not_running : (now : Stage) → now ≡ stage.Running → recovers now ≡ true → ⊥
not_running now runs recovered = let wrong : false ≡ true = ap recovers (sym runs) ∙ recovered in cc

-- a step of a recovery
pub timely_waits : (old new : Sight) → Waits old new → recovers old.stage ≡ true → IsTimely 0 old new
timely_waits old new waits recovered = timely_by old new waits.seats waits.log waits.counts.history waits.config (λ caller mine was. elim was [
  | inl past ↦ inl (omega (arith, past, waits.incarnation))
  | inr now ↦ absurd (not_running old.stage now.runs recovered)
])

strikes_timely : (test : Option (Crossing → Bool)) (before now : Option Crossings) (old new : Sight) → StrikesBy test before now old new → IsTimely 0 old new
strikes_timely test (Some before) (Some now) old new strikes = timely_waits old new strikes.waits strikes.recovered
strikes_timely test (Some before) None old new strikes = absurd strikes
strikes_timely test None now old new strikes = absurd strikes

-- one that nobody's call runs
pub timely_alone : (test : Option (Crossing → Bool)) (old new : Sight) (by : Option Crossings) (answer : StepAnswer) → Steps test None by old new answer → IsTimely 0 old new
timely_alone test old new by stepped.Idle steps = timely_same old new steps.1
timely_alone test old new by (stepped.Failed faults) steps = elim steps.1 [ inl waited ↦ timely_waits old new waited.1 waited.2 | inr strikes ↦ strikes_timely test None by old new strikes ]
timely_alone test old new by stepped.Resumed steps = timely_waits old new steps.2.waits steps.2.recovered
timely_alone test old new by (stepped.Again faults) steps = strikes_timely test None by old new steps.1
timely_alone test old new by stepped.Device steps = timely_same old new steps.1
timely_alone test old new by stepped.NoMemory steps = timely_same old new steps
timely_alone test old new by stepped.Remounted steps = timely_waits old new steps.2.waits steps.2.recovered
timely_alone test old new by (stepped.Replayed number) steps = timely_waits old new steps.1.waits steps.1.recovered
timely_alone test old new by (stepped.Unwound ticket) steps = timely_waits old new steps.1.waits steps.1.recovered
timely_alone test old new by stepped.Dropped steps = timely_waits old new steps.1.waits steps.1.recovered
timely_alone test old new by stepped.Reopened steps = timely_waits old new steps.1.waits steps.1.recovered

pub alone_undue : (test : Option (Crossing → Bool)) (old new : Sight) (by : Option Crossings) (answer : StepAnswer) → Steps test None by old new answer → undue_in new ≤ undue_in old
alone_undue test old new by answer steps = let low = (timely_alone test old new by answer steps).undue in omega (arith, low)

-- and nobody is told that a copy is stale
waits_told : (old new : Sight) → Waits old new → (caller : ℕ) → stales_beyond caller new.trail ≤ stales_beyond caller old.trail
waits_told old new waits caller = let same = marks_beyond caller old.trail new.trail waits.log.trail in omega (arith, same)

same_told : (old new : Sight) → new ≡ old → (caller : ℕ) → stales_beyond caller new.trail ≤ stales_beyond caller old.trail
same_told old new same caller = let is = ap (λ (s : Sight). stales_beyond caller s.trail) same in omega (arith, is)

strikes_told : (test : Option (Crossing → Bool)) (before now : Option Crossings) (old new : Sight) → StrikesBy test before now old new → (caller : ℕ) → stales_beyond caller new.trail ≤ stales_beyond caller old.trail
strikes_told test (Some before) (Some now) old new strikes = waits_told old new strikes.waits
strikes_told test (Some before) None old new strikes = absurd strikes
strikes_told test None now old new strikes = absurd strikes

pub alone_told : (test : Option (Crossing → Bool)) (old new : Sight) (by : Option Crossings) (answer : StepAnswer) → Steps test None by old new answer → (caller : ℕ) → stales_beyond caller new.trail ≤ stales_beyond caller old.trail
alone_told test old new by stepped.Idle steps = same_told old new steps.1
alone_told test old new by (stepped.Failed faults) steps = elim steps.1 [ inl waited ↦ waits_told old new waited.1 | inr strikes ↦ strikes_told test None by old new strikes ]
alone_told test old new by stepped.Resumed steps = waits_told old new steps.2.waits
alone_told test old new by (stepped.Again faults) steps = strikes_told test None by old new steps.1
alone_told test old new by stepped.Device steps = same_told old new steps.1
alone_told test old new by stepped.NoMemory steps = same_told old new steps
alone_told test old new by stepped.Remounted steps = waits_told old new steps.2.waits
alone_told test old new by (stepped.Replayed number) steps = waits_told old new steps.1.waits
alone_told test old new by (stepped.Unwound ticket) steps = waits_told old new steps.1.waits
alone_told test old new by stepped.Dropped steps = waits_told old new steps.1.waits
alone_told test old new by stepped.Reopened steps = waits_told old new steps.1.waits

-- a page is written back
pub timely_flush : (old new : Sight) (answer : Flushed) → FlushesWith old new answer → IsTimely 0 old new
timely_flush old new flushed.One flushes = subst (IsTimely 0 old) (sym flushes.1) (record {
  late = omega arith;
  undue = omega arith;
  prompt = omega arith;
  told = λ counts. record { counts = λ caller flight ticket here mine lacks. still (counts caller flight ticket here mine lacks); few = λ caller. omega arith };
}) where
  still : {caller : ℕ} {ticket : Ticket} → (ticket.incarnation < old.incarnation) ⊎ IsToldNow old caller ticket → (ticket.incarnation < old.incarnation) ⊎ IsToldNow (record old { sealed = new.sealed }) caller ticket
  still (inl past) = inl past
  still (inr now) = inr (record { present = now.present; runs = now.runs; few = now.few })
timely_flush old new flushed.Clean flushes = timely_same old new flushes.1
timely_flush old new flushed.Device flushes = timely_same old new flushes.1

-- a checkpoint is taken that was asked for
pub timely_seal : (old new : Sight) → new ≡ sealed old new → IsTimely 1 old new
timely_seal old new is = record {
  late = still_late old new (ap (λ (s : Sight). s.history) is);
  undue = seal_undue old new is;
  prompt = (let same = omitted_is old new (old.history ++ []) (old.trail ++ step.Sealed (length old.history) ∷ []) (ap (λ (s : Sight). s.history) is ∙ sym (append-nil old.history)) (ap (λ (s : Sight). s.trail) is) in
      let low = sealed_omitted old.history [] old.trail (length old.history) in
      omega (arith, same, low));
  told = λ counts. subst (TellsFew old) (sym is) (record {
    counts = λ caller flight ticket here mine lacks. still caller ticket (counts caller flight ticket here mine lacks);
    few = λ caller. (let same = put_beyond caller old.trail (step.Sealed (length old.history)) refl in omega (arith, same));
  });
} where
  still : (caller : ℕ) (ticket : Ticket) → (ticket.incarnation < old.incarnation) ⊎ IsToldNow old caller ticket → (ticket.incarnation < old.incarnation) ⊎ IsToldNow (sealed old new) caller ticket
  still caller ticket (inl past) = inl past
  still caller ticket (inr now) = inr (record { present = now.present; runs = now.runs; few = (let few = now.few in let same = put_since caller old.trail (step.Sealed (length old.history)) refl in omega (arith, few, same)) })
