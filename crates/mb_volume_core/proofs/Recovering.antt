-- A step of a recovery.
use Rattle.std.proofs.Common.{◌≡◌, ◌⊎◌, ◌∙◌, ◌+◌, ◌<◌, ◌≤◌, inl, inr, [], ◌∷◌, ◌++◌, List, ℕ, Bool, true, false, Option, None, Some, IfSome, length, slice_get, slice_set, refl, ap, sym, subst, arith}
use Rattle.std.proofs.lemmas.Option.{same_Some}
use Rattle.std.specs.Prelude.{if◌then◌else◌, nat_lt}
use Rattle.mb_kinds.specs.Image.{Image}
use Rattle.mb_kinds.specs.declared.entries.Flight.{Flight}
use Rattle.mb_kinds.specs.declared.faults.FaultRecord.{FaultRecord}
use Rattle.mb_kinds.specs.declared.faults.Kind.{Kind}
use Rattle.mb_kinds.specs.declared.faults.Ticket.{Ticket}
use Rattle.mb_kinds.specs.declared.faults.Kind.TheVariants.{Remount, Replay}
use Rattle.mb_kinds.specs.declared.replies.Reply.TheVariants as reply
use Rattle.mb_edge.specs.Causes.{Rose}
use Rattle.mb_edge.specs.declared.crossings.Crossing.{Crossing}
use Rattle.mb_edge.specs.declared.crossings.Crossings.{Crossings}
use Rattle.mb_edge.specs.declared.strokes.Stroke.{Stroke}
use Rattle.mb_cache.specs.declared.answers.ReadFault.TheVariants as read
use Rattle.mb_core_spec.specs.Callers.{insiders, one_if}
use Rattle.mb_core_spec.specs.Events.{taken_back, with_room}
use Rattle.mb_core_spec.specs.Flights.{MayBeInside}
use Rattle.mb_core_spec.specs.Bounds.{replayed}
use Rattle.mb_core_spec.specs.Recovery.{dropping, failing, remounting, reopening, resuming}
use Rattle.mb_core_spec.specs.Right.{Right}
use Rattle.mb_core_spec.specs.State.{CallerState, CoreState}
use Rattle.mb_core_spec.specs.declared.stages.Stage.{Stage}
use Rattle.mb_core_spec.specs.declared.stages.Stage.TheVariants as stage
use Rattle.mb_core_spec.specs.declared.steps.Step.TheVariants as step
use Rattle.mb_tree.proofs.FiniteMaps.{one_or_not}
use Rattle.mb_core_order.proofs.Beginning.{set_there}
use Rattle.mb_core_order.proofs.Keepings.{insiders_set, no_floor}
use Rattle.mb_core_order.proofs.Logs.{folds_short}
use Rattle.mb_core_state.specs.Answers.{phase_of, with_disk}
use Rattle.mb_core_state.specs.Redoing.{EndsIf, FailsStep, redoing}
use Rattle.mb_core_state.specs.declared.answers.Phase.{Phase}
use Rattle.mb_core_state.specs.declared.answers.Phase.TheVariants as phase
use Rattle.mb_core_events.specs.Callings.{Unwinds, phase_now}
use Rattle.mb_core_events.proofs.Phases.{drops_at, remounts_at, reopens_at, replays_at, resumes_at, unwinds_at}
use Rattle.mb_recover.specs.Steps.{AsksAt, CountsAt, Drops, IsMet, IsPointOf, IsUnfired, IsUnheard, Plainly, Recovers, Remounts, Replays, RunsFor as HasFor, caller_of, counted_if, next_if, next_of, striking_at}
use Rattle.mb_recover.specs.declared.steps.Stepped.{Stepped as Recovered}
use Rattle.mb_recover.specs.declared.steps.Stepped.TheVariants as recovered
use Rattle.mb_run.specs.CoreSight.{seat_of, sight_of}
use Rattle.mb_run.specs.Events.{Answers}
use Rattle.mb_run.specs.Lengths.{ComesNoFurther}
use Rattle.mb_run.specs.Recovering.{StepEndsByDevice, GoOn, IsAtNone, PassesPoint, FaultIsTaken, Rolls, RunsForFlight, Steps, StrikesBy, Waits, awaits_remount}
use Rattle.mb_run.specs.Served.{AreSixCounts, counted}
use Rattle.mb_run.specs.Seals.{MarksTrail}
use Rattle.mb_run.specs.Sights.{recovers, steps_left}
use Rattle.mb_run.specs.declared.answers.StepAnswer.TheVariants as stepped
use Rattle.mb_run.proofs.Counting.{counted_goes, counted_taken}
use Rattle.mb_run.proofs.Lengthening.{stands_still}
use Rattle.mb_volume_core.specs.Answers.{stepped_as}
use Rattle.mb_volume_core.proofs.Answering.{answered, open_is}
use Rattle.mb_volume_core.proofs.Gathering.{last_begun}
use Rattle.mb_volume_core.proofs.Origins.{origin_of}
use Rattle.mb_volume_core.proofs.Standing.{ended_stands}
use Rattle.mb_volume_core.proofs.Staying.{begun_now, floor_without, keeps_log, marks_one, marks_two, open_now, own_now, seated, some_at}

-- ---- the crossings of the call that runs the step

pub has_for : {F D : Type 0} (core : CoreState F D) (by : Option Crossings) → IfSome by (RunsForFlight (sight_of core)) → IfSome by (HasFor core)
has_for core None runs = tt
has_for core (Some by) runs =
    let here = seated (slice_get core.callers by.caller) runs.0 runs.1 in
    record { of = (record { mine = here.0; here = here.1; flight = runs.0; flies = here.2 }, runs.2); ordinal = runs.3 }

goes_nowhere : (by : Option Crossings) → IfSome by AreSixCounts → GoOn by by
goes_nowhere None are = tt
goes_nowhere (Some by) are = record { caller = refl; ordinal = refl; counts = λ kind. omega arith; six = refl; fits = are.fits }

goes_counted : (kind : Kind) (by : Option Crossings) → IfSome by AreSixCounts → GoOn by (counted_if kind by)
goes_counted kind None are = tt
goes_counted kind (Some by) are = counted_goes by kind are

pub goes_on : (now : Phase) (by after : Option Crossings) → IfSome by AreSixCounts → CountsAt now by after → GoOn by after
goes_on phase.Remount by after are is = subst (GoOn by) (sym is) (goes_counted Remount by are)
goes_on (phase.Replay number) by after are is = subst (GoOn by) (sym is) (goes_counted Replay by are)
goes_on phase.Idle by after are is = subst (GoOn by) (sym is) (goes_nowhere by are)
goes_on phase.Unwind by after are is = subst (GoOn by) (sym is) (goes_nowhere by are)
goes_on phase.Drop by after are is = subst (GoOn by) (sym is) (goes_nowhere by are)
goes_on phase.Reopen by after are is = subst (GoOn by) (sym is) (goes_nowhere by are)
goes_on phase.Resume by after are is = subst (GoOn by) (sym is) (goes_nowhere by are)

-- the fault point of the step is what was counted
counted_point : (now : Phase) (on : Stage) (kind : Kind) (by after : Option Crossings) → (now ≡ phase.Remount → on ≡ stage.Dropped) → ((number : ℕ) → now ≡ phase.Replay number → awaits_remount on ≡ false) → IsPointOf now kind → CountsAt now by after
    → (after ≡ counted_if kind by) × (((on ≡ stage.Dropped) × (kind ≡ Remount)) ⊎ ((awaits_remount on ≡ false) × (kind ≡ Replay)))
counted_point phase.Remount on kind by after dropped restored point is = (is ∙ ap (λ k. counted_if k by) (sym point), inl (dropped refl, point))
counted_point (phase.Replay number) on kind by after dropped restored point is = (is ∙ ap (λ k. counted_if k by) (sym point), inr (restored number refl, point))
counted_point phase.Idle on kind by after dropped restored point is = absurd point
counted_point phase.Unwind on kind by after dropped restored point is = absurd point
counted_point phase.Drop on kind by after dropped restored point is = absurd point
counted_point phase.Reopen on kind by after dropped restored point is = absurd point
counted_point phase.Resume on kind by after dropped restored point is = absurd point

-- a step that is no fault point
at_none : (by after : Option Crossings) → after ≡ by → IsAtNone by after
at_none None after is = tt
at_none (Some by) None is = tt
at_none (Some by) (Some now) is = same_Some now by is

-- a fault point where no fault came
passed_at : (test : Option (Crossing → Bool)) (kind : Kind) (by after : Option Crossings) → after ≡ counted_if kind by → IfSome by (IsUnfired test kind) → PassesPoint test kind by after
passed_at test kind None after is unfired = tt
passed_at test kind (Some by) None is unfired = tt
passed_at test kind (Some by) (Some now) is unfired = record { counts = same_Some now (counted by kind) is; unfired = unfired }

unfired_remount : (test : Option (Crossing → Bool)) (struck : Option Crossing) (by : Option Crossings) → IsUnheard test struck by recovered.Remounted → IfSome by (IsUnfired test Remount)
unfired_remount test struck None heard = tt
unfired_remount test struck (Some by) heard = heard.1

unfired_replay : (test : Option (Crossing → Bool)) (struck : Option Crossing) (by : Option Crossings) (number : ℕ) → IsUnheard test struck by (recovered.Replayed number) → IfSome by (IsUnfired test Replay)
unfired_replay test struck None number heard = tt
unfired_replay test struck (Some by) number heard = heard.1

-- ---- by where the volume stands

idle_at : (now : Stage) (inside : Bool) (logged : ℕ) → phase_of now inside logged ≡ phase.Idle → recovers now ≡ false
idle_at stage.Running inside logged is = refl
idle_at stage.Struck true logged is = cc
idle_at stage.Struck false logged is = cc
idle_at stage.Again inside logged is = cc
idle_at stage.Dropped inside logged is = cc
idle_at stage.Remounted inside logged is = cc
idle_at (stage.Restored done) inside logged is = elim (nat_lt done logged) as (λ b. (if b then phase.Replay (done + 1) else phase.Resume) ≡ phase.Idle → true ≡ false) [ true ↦ λ wrong. cc | false ↦ λ wrong. cc ] is
idle_at stage.Failed inside logged is = refl

-- a fault point comes in a recovery
point_recovers : (now : Stage) (inside : Bool) (logged : ℕ) (kind : Kind) → IsPointOf (phase_of now inside logged) kind → recovers now ≡ true
point_recovers stage.Running inside logged kind point = absurd point
point_recovers stage.Struck inside logged kind point = refl
point_recovers stage.Again inside logged kind point = refl
point_recovers stage.Dropped inside logged kind point = refl
point_recovers stage.Remounted inside logged kind point = refl
point_recovers (stage.Restored done) inside logged kind point = refl
point_recovers stage.Failed inside logged kind point = absurd point

abbrev fault_at : Crossing → FaultRecord
fault_at at = record { caller = at.caller; ordinal = at.ordinal; kind = at.kind; nth = at.nth }

module _ {F D : Type 0} (told : D → Option Image) (faults : D → ℕ) (core : CoreState F D) (r : Right told faults core) (new : CoreState F D) where
  abbrev inside : ℕ
  inside = insiders core.callers

  abbrev ops : ℕ
  ops = length core.journal.oplog

  fewer_at : (now : Stage) (left : ℕ) → core.stage ≡ now → left < steps_left inside ops now → left < steps_left inside ops core.stage
  fewer_at now left is low = subst (λ (s : Stage). left < steps_left inside ops s) (sym is) low

  recovers_at : (now : Stage) → core.stage ≡ now → recovers now ≡ true → recovers core.stage ≡ true
  recovers_at now is recovered = ap recovers is ∙ recovered

  -- ---- an event that touches no call

  module _ (event : CoreState F D) (is : new ≡ with_room event new) (config : event.config ≡ core.config) (incarnation : event.incarnation ≡ core.incarnation) (callers : event.callers ≡ core.callers) (floor : event.floor ≡ core.floor)
      (history : event.journal.history ≡ core.journal.history) (trail : MarksTrail core.journal.trail event.journal.trail) where
    callers_are : new.callers ≡ core.callers
    callers_are = ap (λ (c : CoreState F D). c.callers) is ∙ callers

    waits : event.journal.sealed_at ≡ core.journal.sealed_at → length event.journal.oplog ≤ ops → Waits (sight_of core) (sight_of new)
    waits sealed_at shorter = record {
      config = ap (λ (c : CoreState F D). (sight_of c).config) (is) ∙ ap (λ config. (sight_of (record core { config = config })).config) config;
      incarnation = ap (λ (c : CoreState F D). c.incarnation) is ∙ incarnation;
      seats = λ other. ap (λ (all : List CallerState). seat_of (slice_get all other)) callers_are;
      counts = record {
        history = ap (λ (c : CoreState F D). c.journal.history) is ∙ history;
        begun = ap (λ (all : List CallerState). (sight_of (record core { callers = all })).begun) callers_are;
        open_calls = ap (λ (all : List CallerState). (sight_of (record core { callers = all })).open_calls) callers_are;
      };
      log = record { sealed_at = ap (λ (c : CoreState F D). c.journal.sealed_at) is ∙ sealed_at; ops = subst (λ (c : CoreState F D). (sight_of c).ops ≤ ops) (sym is) shorter; trail = subst (λ (c : CoreState F D). MarksTrail core.journal.trail c.journal.trail) (sym is) trail };
      floor = inr (ap (λ (c : CoreState F D). c.floor) is ∙ floor);
    }

    rolls_shorter : event.journal.records ≡ core.journal.records → recovers core.stage ≡ true → event.journal.sealed_at ≡ core.journal.sealed_at → length event.journal.oplog ≤ ops
        → steps_left (insiders event.callers) (length event.journal.oplog) event.stage + ops < steps_left inside ops core.stage + length event.journal.oplog → Rolls (sight_of core) (sight_of new)
    rolls_shorter records recovered sealed_at shorter fewer = record {
      waits = waits sealed_at shorter;
      records = ap (λ (c : CoreState F D). c.journal.records) is ∙ records;
      recovered = recovered;
      fewer = subst (λ (c : CoreState F D). (sight_of c).left + ops < steps_left inside ops core.stage + (sight_of c).ops) (sym is) fewer;
    }

    -- the log stays as long as it was
    rolls : event.journal.records ≡ core.journal.records → recovers core.stage ≡ true → event.journal.sealed_at ≡ core.journal.sealed_at → length event.journal.oplog ≡ ops
        → steps_left (insiders event.callers) (length event.journal.oplog) event.stage < steps_left inside ops core.stage → Rolls (sight_of core) (sight_of new)
    rolls records recovered sealed_at same fewer = rolls_shorter records recovered sealed_at (omega (arith, same)) (omega (arith, same, fewer))

  -- ---- a call is unwound

  unwinds : (ticket : Ticket) → Unwinds core new ticket → core.stage ≡ stage.Struck → (recovers new.stage ≡ true) × Rolls (sight_of core) (sight_of new)
  unwinds ticket by struck =
      let event = by.event in
      let mine = by.mine in
      let here = by.within.here in
      let now : CallerState = taken_back (record mine { inside = false }) in
      let stored = ap (λ (c : CoreState F D). c.callers) event in
      let begun_is = begun_now core new ticket.caller now stored mine here in
      let opened = open_now core new ticket.caller now stored mine here in
      let one : one_if mine.inside ≡ 1 = ap one_if by.within.inside in
      let less : insiders (slice_set core.callers ticket.caller now) + one_if mine.inside ≡ insiders core.callers + 0 = insiders_set core.callers ticket.caller mine now here in (
        ap (λ (c : CoreState F D). recovers c.stage) event ∙ ap recovers struck,
        record {
          waits = record {
            config = ap (λ (c : CoreState F D). (sight_of c).config) event;
            incarnation = ap (λ (c : CoreState F D). c.incarnation) event;
            seats = seats_kept ticket.caller mine now here stored refl;
            counts = record { history = ap (λ (c : CoreState F D). c.journal.history) event; begun = omega (arith, begun_is); open_calls = omega (arith, opened) };
            log = keeps_log core new (ap (λ (c : CoreState F D). c.journal.sealed_at) event) (ap (λ (c : CoreState F D). c.journal.oplog) event)
                (marks_one core.journal.trail new.journal.trail (step.Unwound ticket) refl (ap (λ (c : CoreState F D). c.journal.trail) event));
            floor = elim (floor_without ticket.caller core.floor) [ inl none ↦ inl (ap (λ (c : CoreState F D). c.floor) event ∙ none) | inr same ↦ inr (ap (λ (c : CoreState F D). c.floor) event ∙ same) ];
          };
          records = ap (λ (c : CoreState F D). c.journal.records) event;
          recovered = ap recovers struck;
          fewer = subst (λ (c : CoreState F D). (sight_of c).left + ops < steps_left inside ops core.stage + (sight_of c).ops) (sym event)
              (subst (λ (s : Stage). steps_left (insiders (slice_set core.callers ticket.caller now)) ops s + ops < steps_left inside ops s + ops) (sym struck) (omega (arith, one, less)));
        },
      )
    where
      -- the seat of each caller stays
      seats_kept : (caller : ℕ) (mine now : CallerState) → slice_get core.callers caller ≡ Some mine → new.callers ≡ slice_set core.callers caller now → seat_of (Some now) ≡ seat_of (Some mine) → (other : ℕ) → (sight_of new).seats other ≡ (sight_of core).seats other
      seats_kept caller mine now here stored same other = elim (one_or_not other caller) [
        | inl is ↦ ap (sight_of new).seats is ∙ ap seat_of (own_now core new caller now stored mine here) ∙ same ∙ sym (ap (sight_of core).seats is ∙ ap seat_of here)
        | inr apart ↦ ap seat_of (ap (λ (all : List CallerState). slice_get all other) stored ∙ set_there core.callers caller other now apart)
      ]

  -- ---- nobody has the right to commit alone once the log is done again

  floor_free : (done : ℕ) → core.stage ≡ stage.Restored done → core.floor ≡ None
  floor_free done is = no_floor core.callers core.floor r.orderly.floor (λ caller mine here. subst (λ (s : Stage). MayBeInside s mine.inside) is (r.orderly.unwound caller mine here))

  -- ---- the steps, by their answers

  module _ (test : Option (Crossing → Bool)) (by after : Option Crossings) (counts : CountsAt (phase_now core) by after) where
    none_at : (now : Phase) → phase_now core ≡ now → (CountsAt now by after → after ≡ by) → IsAtNone by after
    none_at now is still = at_none by after (still (subst (λ (p : Phase). CountsAt p by after) is counts))

    abbrev Comes : Recovered → Type 0
    Comes answer = Steps test by after (sight_of core) (sight_of new) (stepped_as answer) × (origin_of new ≡ origin_of core)

    plain_comes : (answer : Recovered) → Plainly core new answer → Comes answer
    plain_comes recovered.Idle is = ((idle_at core.stage _ _ is.0, ap sight_of is.1), ap origin_of is.1)
    plain_comes (recovered.Unwound ticket) is =
        let now = unwinds ticket is.1 (unwinds_at core.stage _ _ is.0).0 in
        ((now.0, now.1, ap (λ (c : CoreState F D). awaits_remount c.stage) is.1.event, none_at phase.Unwind is.0 (λ still. still)), ap origin_of is.1.event)
    plain_comes recovered.Reopened is =
        let now = reopens_at core.stage _ _ is.0 in (
          (
            ap (λ (c : CoreState F D). recovers c.stage) is.1,
            rolls (reopening core new.tables.opens) is.1 refl refl refl refl refl (marks_one _ _ step.Reopened refl refl) refl (recovers_at stage.Remounted now refl) refl refl (fewer_at stage.Remounted _ now (omega arith)),
            ap (λ (c : CoreState F D). awaits_remount c.stage) is.1 ∙ sym (ap awaits_remount now),
            none_at phase.Reopen is.0 (λ still. still),
          ),
          ap origin_of is.1,
        )
    plain_comes recovered.Resumed is =
        let now = resumes_at core.stage _ _ is.0 in
        let most : now.0 ≤ ops = subst (λ (s : Stage). replayed s ≤ ops) now.1 r.orderly.within in (
          (
            ap (λ (c : CoreState F D). c.stage) is.1,
            ap (λ (c : CoreState F D). c.floor) is.1 ∙ floor_free now.0 now.1,
            rolls (resuming core) is.1 refl refl refl refl refl (marks_one _ _ step.Resumed refl refl) refl (recovers_at (stage.Restored now.0) now.1 refl) refl refl (fewer_at (stage.Restored now.0) _ now.1 (omega (arith, most))),
            ap awaits_remount now.1,
            none_at phase.Resume is.0 (λ still. still),
          ),
          ap origin_of is.1,
        )
    plain_comes recovered.NoMemory is = (ap sight_of is.1, ap origin_of is.1)
    plain_comes (recovered.Failed count) is = absurd is
    plain_comes recovered.Dropped is = absurd is
    plain_comes recovered.Remounted is = absurd is
    plain_comes (recovered.Replayed number) is = absurd is
    plain_comes (recovered.Again count) is = absurd is
    plain_comes recovered.Device is = absurd is

    drops_by : (left : ℕ) → left < ops + 4 → phase_now core ≡ phase.Drop → (recovers core.stage ≡ true) × (left < steps_left inside ops core.stage)
    drops_by left low is = elim (drops_at core.stage _ _ is) [
      | inl struck ↦ (recovers_at stage.Struck struck.0 refl, fewer_at stage.Struck left struck.0 (omega (arith, low)))
      | inr again ↦ (recovers_at stage.Again again refl, fewer_at stage.Again left again low)
    ]

    drops_awaits : phase_now core ≡ phase.Drop → awaits_remount core.stage ≡ true
    drops_awaits is = elim (drops_at core.stage _ _ is) [ inl struck ↦ ap awaits_remount struck.0 | inr again ↦ ap awaits_remount again ]

    drop_comes : (answer : Recovered) → Drops core new answer → Comes answer
    drop_comes recovered.Dropped is =
        let now = drops_by (ops + 3) (omega arith) is.0 in
        ((ap (λ (c : CoreState F D). recovers c.stage) is.2, rolls (dropping core) is.2 refl refl refl refl refl (marks_one _ _ step.Dropped refl refl) refl now.0 refl refl now.1, ap (λ (c : CoreState F D). awaits_remount c.stage) is.2 ∙ sym (drops_awaits is.0), none_at phase.Drop is.0 (λ still. still)), ap origin_of is.2)
    drop_comes (recovered.Failed count) is =
        let now = drops_by 0 (omega arith) is.0 in
        ((ap (λ (c : CoreState F D). c.stage) is.3, inl (ap (λ (c : CoreState F D). c.journal.records) is.3, waits (failing core) is.3 refl refl refl refl refl (marks_one _ _ (step.Failed (length core.journal.records)) refl refl) refl (omega arith), now.0, none_at phase.Drop is.0 (λ still. still))), ap origin_of is.3)
    drop_comes recovered.Idle is = absurd is
    drop_comes (recovered.Unwound ticket) is = absurd is
    drop_comes recovered.Remounted is = absurd is
    drop_comes recovered.Reopened is = absurd is
    drop_comes (recovered.Replayed number) is = absurd is
    drop_comes recovered.Resumed is = absurd is
    drop_comes (recovered.Again count) is = absurd is
    drop_comes recovered.Device is = absurd is
    drop_comes recovered.NoMemory is = absurd is

    -- the disk failed
    device_comes : (asks : Option Crossings) → IfSome asks (HasFor core) → FailsStep faults core new (caller_of asks) read.Device → StepEndsByDevice asks (sight_of core) (sight_of new) × (origin_of new ≡ origin_of core)
    device_comes None runs fails = (ap sight_of fails.1.0, ap origin_of fails.1.0)
    device_comes (Some asks) runs fails =
        let call = runs.of.0 in
        let flown_open = open_is call.mine.flight call.flight call.flies runs.of.1 in
        let ends = subst (EndsIf (with_disk core new.cache.disk) new asks.caller call.mine) flown_open (fails.1 call.mine call.here) in (
          λ flight flown.
              (let at = seated (slice_get core.callers asks.caller) flight flown in
              let mine_is : at.0 ≡ call.mine = same_Some at.0 call.mine (sym at.1 ∙ call.here) in
              let flight_is : flight ≡ call.flight = same_Some flight call.flight (sym at.2 ∙ ap (λ (d : CallerState). d.flight) mine_is ∙ call.flies) in
              subst (λ (f : Flight). Answers asks.caller f reply.Device (sight_of core) (sight_of new)) (sym flight_is)
              (answered (with_disk core new.cache.disk) new asks.caller call.mine call.here call.flight call.flies runs.of.1 (last_begun told faults core r asks.caller call.mine call.flight call.here call.flies runs.of.1) reply.Device new.cache.pins ends.0)),
          ap origin_of ends.0,
        )

    module _ (runs : IfSome by (HasFor core)) (struck : Option Crossing) where
      fails_comes : recovers core.stage ≡ true → FailsStep faults core new (caller_of by) read.Device → Comes recovered.Device
      fails_comes recovered fails = let ends = device_comes by runs fails in ((recovered, ends.0), ends.1)

      remount_comes : (answer : Recovered) → IsUnheard test struck by answer → Remounts faults core new (caller_of by) answer → Comes answer
      remount_comes recovered.Remounted heard is =
          let now = remounts_at core.stage _ _ is.0 in
          let low = fewer_at stage.Dropped (ops + 2) now (omega arith) in (
            (
              now,
              ap (λ (c : CoreState F D). c.stage) is.1.event,
              rolls_shorter (remounting core new.cache.disk new.journal.oplog) is.1.event refl refl refl refl refl (marks_one _ _ step.Remounted refl refl) refl (recovers_at stage.Dropped now refl) refl (folds_short core.journal.oplog new.journal.oplog is.1.folds) (omega (arith, low)),
              passed_at test Remount by after (subst (λ (p : Phase). CountsAt p by after) is.0 counts) (unfired_remount test struck by heard),
            ),
            ap origin_of is.1.event,
          )
      remount_comes recovered.Device heard is = fails_comes (recovers_at stage.Dropped (remounts_at core.stage _ _ is.0) refl) is.1
      remount_comes recovered.NoMemory heard is = (ap sight_of is.1.0, ap origin_of is.1.0)
      remount_comes recovered.Idle heard is = absurd is
      remount_comes (recovered.Unwound ticket) heard is = absurd is
      remount_comes (recovered.Failed count) heard is = absurd is
      remount_comes recovered.Dropped heard is = absurd is
      remount_comes recovered.Reopened heard is = absurd is
      remount_comes (recovered.Replayed number) heard is = absurd is
      remount_comes recovered.Resumed heard is = absurd is
      remount_comes (recovered.Again count) heard is = absurd is

      replay_comes : (answer : Recovered) → IsUnheard test struck by answer → Replays told faults core new (caller_of by) answer → Comes answer
      replay_comes (recovered.Replayed number) heard is =
          let now = replays_at core.stage _ _ number is.0 in
          let logged = some_at core.journal.oplog now.0 now.3 in
          let again = is.1 now.0 logged.0 now.1 logged.1 in
          let low = now.3 in (
            (
              ap (λ (c : CoreState F D). recovers c.stage) again.event,
              rolls (redoing (with_disk core new.cache.disk) logged.0 again.changes now.0) again.event refl refl refl refl refl (marks_one _ _ (step.Replayed (now.0 + 1)) refl refl) refl (recovers_at (stage.Restored now.0) now.1 refl) refl refl (fewer_at (stage.Restored now.0) _ now.1 (omega (arith, low))),
              ap (λ (c : CoreState F D). awaits_remount c.stage) again.event ∙ sym (ap awaits_remount now.1),
              passed_at test Replay by after (subst (λ (p : Phase). CountsAt p by after) is.0 counts) (unfired_replay test struck by number heard),
            ),
            ap origin_of again.event,
          )
      replay_comes recovered.Device heard is = let now = replays_at core.stage _ _ is.0.0 is.0.1 in fails_comes (recovers_at (stage.Restored now.0) now.1 refl) is.1
      replay_comes recovered.NoMemory heard is = (ap sight_of is.1.0, ap origin_of is.1.0)
      replay_comes recovered.Idle heard is = absurd is
      replay_comes (recovered.Unwound ticket) heard is = absurd is
      replay_comes (recovered.Failed count) heard is = absurd is
      replay_comes recovered.Dropped heard is = absurd is
      replay_comes recovered.Remounted heard is = absurd is
      replay_comes recovered.Reopened heard is = absurd is
      replay_comes recovered.Resumed heard is = absurd is
      replay_comes (recovered.Again count) heard is = absurd is

      -- the hook faulted
      module _ (are : IfSome by AreSixCounts) (strokes : List Stroke) where
        taken : (crossings : Crossings) (at : Crossing) → AreSixCounts crossings → next_of at.kind crossings ≡ at → IfSome test (λ fires. fires at ≡ true) → FaultIsTaken test crossings (counted crossings at.kind) (fault_at at)
        taken crossings at six same tested =
            subst (λ (c : Crossing). FaultIsTaken test crossings (counted crossings at.kind) (fault_at c)) same
            (counted_taken test crossings at.kind six (subst (λ (c : Crossing). IfSome test (λ fires. fires c ≡ true)) (sym same) tested))

        strikes : (event : CoreState F D) (is : new ≡ with_room event new) → Waits (sight_of core) (sight_of new) → (at : Crossing) → new.journal.records ≡ core.journal.records ++ fault_at at ∷ [] → IsPointOf (phase_now core) at.kind
            → (asks : Option Crossings) → IfSome asks AreSixCounts → next_if at.kind asks ≡ Some at → IfSome test (λ fires. fires at ≡ true) → CountsAt (phase_now core) asks after → StrikesBy test asks after (sight_of core) (sight_of new)
        strikes event is waited at records point None six next tested counting = absurd (let wrong : None ≡ Some at = next in cc)
        strikes event is waited at records point (Some crossings) six next tested counting =
            let same : next_of at.kind crossings ≡ at = same_Some (next_of at.kind crossings) at next in
            let was = counted_point (phase_now core) core.stage at.kind (Some crossings) after (λ is. remounts_at core.stage _ _ is) (λ number is. ap awaits_remount (replays_at core.stage _ _ number is).1) point counting in
            subst (λ (o : Option Crossings). StrikesBy test (Some crossings) o (sight_of core) (sight_of new)) (sym was.0) (record {
              waits = waited;
              recovered = point_recovers core.stage _ _ at.kind point;
              fault = fault_at at;
              records = records;
              taken = taken crossings at six same tested;
              next = record { counts = refl; nth = ap (λ (c : Crossing). c.nth) (sym same); point = was.1 };
            })

        met_comes : (answer : Recovered) → IsMet core new by test strokes answer → Comes answer
        met_comes (recovered.Again count) met =
            let at = met.at in
            let event = met.struck.2 in (
              (
                ap (λ (c : CoreState F D). c.stage) event,
                strikes (striking_at core at strokes) event (waits (striking_at core at strokes) event refl refl refl refl refl (marks_one _ _ (step.Struck (length core.journal.records + 1)) refl refl) refl (omega arith)) at (ap (λ (c : CoreState F D). c.journal.records) event) met.point by are met.next met.tested counts,
              ),
              ap origin_of event,
            )
        met_comes (recovered.Failed count) met =
            let at = met.at in
            let event = met.struck.2 in (
              (
                ap (λ (c : CoreState F D). c.stage) event,
                inr (strikes (failing (striking_at core at strokes)) event (waits (failing (striking_at core at strokes)) event refl refl refl refl refl
                    (marks_two _ _ (step.Struck (length core.journal.records + 1)) (step.Failed (length (striking_at core at strokes).journal.records)) refl refl refl) refl (omega arith)) at (ap (λ (c : CoreState F D). c.journal.records) event) met.point by are met.next met.tested counts),
              ),
              ap origin_of event,
            )
        met_comes recovered.NoMemory met = (ap sight_of met.struck, ap origin_of met.struck)
        met_comes recovered.Idle met = absurd met.struck
        met_comes (recovered.Unwound ticket) met = absurd met.struck
        met_comes recovered.Dropped met = absurd met.struck
        met_comes recovered.Remounted met = absurd met.struck
        met_comes recovered.Reopened met = absurd met.struck
        met_comes (recovered.Replayed number) met = absurd met.struck
        met_comes recovered.Resumed met = absurd met.struck
        met_comes recovered.Device met = absurd met.struck

        pub comes : (answer : Recovered) → IsUnheard test struck by answer → Recovers told faults core new by test strokes answer → Comes answer
        comes answer heard is = elim is [
          | inl plainly ↦ plain_comes answer plainly
          | inr others ↦ elim others [
            | inl drops ↦ drop_comes answer drops
            | inr more ↦ elim more [
              | inl remounts ↦ remount_comes answer heard remounts
              | inr rest ↦ elim rest [ inl replays ↦ replay_comes answer heard replays | inr met ↦ met_comes answer met ]
            ]
          ]
        ]

-- ---- the disk's count of faults

device_only : {F D : Type 0} (told : D → Option Image) (faults : D → ℕ) (core new : CoreState F D) (by : Option Crossings) (test : Option (Crossing → Bool)) (strokes : List Stroke) → Recovers told faults core new by test strokes recovered.Device
    → Rose (faults core.cache.disk) (faults new.cache.disk)
device_only told faults core new by test strokes is = elim is [
  | inl plainly ↦ absurd plainly
  | inr others ↦ elim others [
    | inl drops ↦ absurd drops
    | inr more ↦ elim more [
      | inl remounts ↦ remounts.1.0
      | inr rest ↦ elim rest [ inl replays ↦ replays.1.0 | inr met ↦ absurd met.struck ]
    ]
  ]
]

-- the answer of a disk that failed comes from that answer alone
is_device : (answer : Recovered) → stepped_as answer ≡ stepped.Device → answer ≡ recovered.Device
is_device recovered.Device told_so = refl
is_device recovered.Idle told_so = absurd (let wrong : stepped.Idle ≡ stepped.Device = told_so in cc)
is_device (recovered.Unwound ticket) told_so = absurd (let wrong : stepped.Unwound ticket ≡ stepped.Device = told_so in cc)
is_device (recovered.Failed count) told_so = absurd (let wrong : stepped.Failed count ≡ stepped.Device = told_so in cc)
is_device recovered.Dropped told_so = absurd (let wrong : stepped.Dropped ≡ stepped.Device = told_so in cc)
is_device recovered.Remounted told_so = absurd (let wrong : stepped.Remounted ≡ stepped.Device = told_so in cc)
is_device recovered.Reopened told_so = absurd (let wrong : stepped.Reopened ≡ stepped.Device = told_so in cc)
is_device (recovered.Replayed number) told_so = absurd (let wrong : stepped.Replayed number ≡ stepped.Device = told_so in cc)
is_device recovered.Resumed told_so = absurd (let wrong : stepped.Resumed ≡ stepped.Device = told_so in cc)
is_device (recovered.Again count) told_so = absurd (let wrong : stepped.Again count ≡ stepped.Device = told_so in cc)
is_device recovered.NoMemory told_so = absurd (let wrong : stepped.NoMemory ≡ stepped.Device = told_so in cc)

pub rose_at : {F D : Type 0} (told : D → Option Image) (faults : D → ℕ) (core new : CoreState F D) (by : Option Crossings) (test : Option (Crossing → Bool)) (strokes : List Stroke) (answer : Recovered) → Recovers told faults core new by test strokes answer
    → stepped_as answer ≡ stepped.Device → Rose (faults core.cache.disk) (faults new.cache.disk)
rose_at told faults core new by test strokes answer is told_so = device_only told faults core new by test strokes (subst (Recovers told faults core new by test strokes) (is_device answer told_so) is)

-- ---- where the disk failed, the recovery stands where it stood

module _ {F D : Type 0} (faults : D → ℕ) (core new : CoreState F D) where
  ends_stands : (caller : ℕ) (mine : CallerState) (flight : Flight) → slice_get core.callers caller ≡ Some mine → EndsIf (with_disk core new.cache.disk) new caller mine (Some flight) → ComesNoFurther (sight_of core) (sight_of new)
  ends_stands caller mine flight here ends =
      ended_stands core caller mine here new (ap (λ (c : CoreState F D). c.journal.oplog) ends.0) (ap (λ (c : CoreState F D). c.stage) ends.0) (ap (λ (c : CoreState F D). c.callers) ends.0)

  fails_stands : (by : Option Crossings) → IfSome by (HasFor core) → FailsStep faults core new (caller_of by) read.Device → ComesNoFurther (sight_of core) (sight_of new)
  fails_stands None runs fails = stands_still (sight_of core) (sight_of new) (ap sight_of fails.1.0)
  fails_stands (Some asks) runs fails =
      let call = runs.of.0 in
      ends_stands asks.caller call.mine call.flight call.here (subst (EndsIf (with_disk core new.cache.disk) new asks.caller call.mine) (open_is call.mine.flight call.flight call.flies runs.of.1) (fails.1 call.mine call.here))

  device_stands : (told : D → Option Image) (by : Option Crossings) (test : Option (Crossing → Bool)) (strokes : List Stroke) → IfSome by (HasFor core) → Recovers told faults core new by test strokes recovered.Device → ComesNoFurther (sight_of core) (sight_of new)
  device_stands told by test strokes runs is = elim is [
    | inl plainly ↦ absurd plainly
    | inr others ↦ elim others [
      | inl drops ↦ absurd drops
      | inr more ↦ elim more [
        | inl remounts ↦ fails_stands by runs remounts.1
        | inr rest ↦ elim rest [ inl replays ↦ fails_stands by runs replays.1 | inr met ↦ absurd met.struck ]
      ]
    ]
  ]

  pub stands_at : (told : D → Option Image) (by : Option Crossings) (test : Option (Crossing → Bool)) (strokes : List Stroke) (answer : Recovered) → IfSome by (HasFor core) → Recovers told faults core new by test strokes answer → stepped_as answer ≡ stepped.Device
      → ComesNoFurther (sight_of core) (sight_of new)
  stands_at told by test strokes answer runs is told_so = device_stands told by test strokes runs (subst (Recovers told faults core new by test strokes) (is_device answer told_so) is)

-- for nobody no hook is asked
pub unasked_at : {H : Type 0} (by : Option Crossings) (old new : H) (now : Phase) → AsksAt now by old new → by ≡ None → new ≡ old
unasked_at by old new phase.Idle asks none = asks
unasked_at by old new phase.Unwind asks none = asks
unasked_at by old new phase.Drop asks none = asks
unasked_at by old new phase.Remount asks none = asks none
unasked_at by old new phase.Reopen asks none = asks
unasked_at by old new (phase.Replay number) asks none = asks none
unasked_at by old new phase.Resume asks none = asks
