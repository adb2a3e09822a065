-- A job under way: where the call of each caller stands, which calls have their entries, and which crossings were counted.
use Rattle.std.specs.Prelude.{ℕ, zero, suc, ◌+◌, ◌-◌, ◌*◌, ◌<◌, ◌≤◌, ◌≡◌, ◌≢◌, ◌⊎◌, List, [], ◌∷◌, ◌++◌, length, map, filter, take, nat_eq, slice_get, slice_index, Bool, true, false, cond, Option, Some, None, IfSome}
use Rattle.std.specs.List.{AllByRecursion, range_with_len}
use Rattle.mb_edge.specs.Crossings.{place_of, next_nth}
use Rattle.mb_edge.specs.declared.crossings.Crossing.{Crossing}
use Rattle.mb_edge.specs.declared.crossings.Crossings.{Crossings}
use Rattle.mb_kinds.specs.Own.{own}
use Rattle.mb_kinds.specs.declared.calls.Call.{Call}
use Rattle.mb_kinds.specs.declared.entries.Entry.{Entry}
use Rattle.mb_kinds.specs.declared.entries.Flight.{Flight}
use Rattle.mb_kinds.specs.declared.faults.FaultRecord.{FaultRecord}
use Rattle.mb_kinds.specs.declared.faults.Kind.{Kind}
use Rattle.mb_kinds.specs.declared.faults.Ticket.{Ticket}
use Rattle.mb_core_spec.specs.Copies.{PagesState, no_pages}
use Rattle.mb_run.specs.Pages.{HasTablesFor, has}
pub use Rattle.mb_run.specs.Recovering.{counted}
use Rattle.mb_run.specs.Recovering.{crossing_of, next_of}
use Rattle.mb_run.specs.Sights.{Sight, SightSeat, SeatHasTicket, IsOld, IsOrderlyInSight, IsWaiting, one_if, recovers}
use Rattle.mb_run.specs.Events.{StrikesCall}
use Rattle.mb_run.specs.Firsts.{KeepsFirsts}
use Rattle.mb_run.specs.Runs.{IsStruckOnceIfPlain, strikes_inside}
use Rattle.mb_run.specs.Seals.{TrailGoesOn}
use Rattle.mb_run.specs.Timely.{IsTimely}
use Rattle.mb_run.specs.Entering.{EntersIn}
use Rattle.mb_jobs.specs.declared.jobs.JobCall.{JobCall}
use Rattle.mb_run.specs.declared.runner.At.{At}
use Rattle.mb_run.specs.declared.runner.At.TheVariants as at
use Rattle.mb_core_spec.specs.declared.stages.Stage.TheVariants as stage
use Rattle.mb_run.specs.declared.progress.Went.{Went}
use Rattle.mb_run.specs.declared.progress.Went.TheVariants as went
use Rattle.mb_run.specs.declared.runner.Runner.{Runner}
use Rattle.mb_run.specs.declared.progress.StepEnd.{StepEnd}
use Rattle.mb_run.specs.declared.progress.StepEnd.TheVariants as turn

-- a call may begin, or is the one in flight
abbrev pub MayBeginOrGoOn : ℕ → SightSeat → Call → Option Flight → Type 0
MayBeginOrGoOn most seat call None = seat.begun < most
MayBeginOrGoOn most seat call (Some flight) = flight.call ≡ call

pub record MayEnterInSight (sight : Sight) (caller : ℕ) (call : Call) : Type 0 where
  pub within : caller < sight.config.callers
  pub may : MayBeginOrGoOn sight.config.most (sight.seats caller) call (sight.seats caller).flight

-- ---- one caller

abbrev pub calls_in : List Entry → ℕ → List Call
calls_in history caller = map (λ (entry : Entry). entry.call) (own history caller)

-- so many calls of a list were answered; the next one may be in flight, and have its entry
abbrev pub IsAtBy : List Call → List Call → ℕ → ℕ → Option Flight → Type 0
IsAtBy list made done begun None = (begun ≡ done) × (made ≡ take done list)
IsAtBy list made done begun (Some flight) =
    (begun ≡ done + 1) × (flight.ordinal ≡ done + 1) × (slice_get list done ≡ Some flight.call) × (made ≡ take (done + one_if flight.answered) list)

-- while a ticket is of the present incarnation the volume runs, and the pages are the copies that the flight keeps
pub record IsHeld (sight : Sight) (caller : ℕ) (pages : PagesState) (ticket : Ticket) : Type 0 where
  pub mine : ticket.caller ≡ caller
  pub past : ticket.incarnation ≤ sight.incarnation
  pub runs : ticket.incarnation ≡ sight.incarnation → sight.stage ≡ stage.Running
  pub same : ticket.incarnation ≡ sight.incarnation → sight.copies caller ≡ pages
  pub tables : HasTablesFor sight.config.callers pages

abbrev pub IsStanding : Sight → ℕ → PagesState → At → Type 0
IsStanding sight caller pages at.Outside = IsOld sight.incarnation (sight.seats caller).flight
IsStanding sight caller pages (at.Inside ticket) = SeatHasTicket false (sight.seats caller) ticket × IsHeld sight caller pages ticket
IsStanding sight caller pages (at.Logged ticket) = SeatHasTicket true (sight.seats caller) ticket × (ticket.caller ≡ caller) × (ticket.incarnation ≤ sight.incarnation)

-- the call in flight has its entry exactly where that is kept
abbrev pub IsMarked : Bool → Option Flight → Type 0
IsMarked answered None = answered ≡ false
IsMarked answered (Some flight) = flight.answered ≡ answered

-- a fault of this caller is of an earlier call, or at a crossing that was counted
abbrev pub IsCounted : Crossings → FaultRecord → Type 0
IsCounted crossings fault = fault.caller ≡ crossings.caller → (fault.ordinal < crossings.ordinal) ⊎ ((fault.ordinal ≡ crossings.ordinal) × (fault.nth ≤ slice_index crossings.counts (place_of fault.kind)))

-- an entry of this caller is of an earlier call, or of this one, which has it; and with a plain reply it is of a call that was
-- struck once at most before
abbrev pub IsPastOnce : List FaultRecord → Crossings → Bool → Entry → Type 0
IsPastOnce records crossings answered entry = entry.caller ≡ crossings.caller → (entry.ordinal < crossings.ordinal + one_if answered) × IsStruckOnceIfPlain records entry

-- a call that is inside was struck once at most
abbrev pub IsInsideOnce : List FaultRecord → Crossings → At → Type 0
IsInsideOnce records crossings (at.Inside ticket) = strikes_inside records crossings.caller crossings.ordinal ≤ 1
IsInsideOnce records crossings _ = Unit {0}

pub record IsServedSoFar (list : List Call) (sight : Sight) (caller : ℕ) (runner : Runner) : Type 0 where
  pub caller_is : runner.crossings.caller ≡ caller
  pub ordinal : runner.crossings.ordinal ≡ runner.done + 1
  pub calls : IsAtBy list (calls_in sight.history caller) runner.done (sight.seats caller).begun (sight.seats caller).flight
  pub stands : IsStanding sight caller runner.pages runner.at
  pub marked : IsMarked runner.answered (sight.seats caller).flight
  pub counted : AllByRecursion (IsCounted runner.crossings) sight.records
  pub past : AllByRecursion (IsPastOnce sight.records runner.crossings runner.answered) sight.history
  pub once : IsInsideOnce sight.records runner.crossings runner.at

-- ---- the records of all callers

abbrev pub IsApart : FaultRecord → FaultRecord → Type 0
IsApart one other = one ≡ other → one.nth ≡ 4294967295

abbrev pub AreApart : List FaultRecord → Type 0
AreApart [] = Unit {0}
AreApart (fault ∷ later) = AllByRecursion (IsApart fault) later × AreApart later

pub record AreSound (test : Option (Crossing → Bool)) (records : List FaultRecord) : Type 0 where
  pub holds : AllByRecursion (λ (fault : FaultRecord). IfSome test (λ fires. fires (crossing_of fault) ≡ true)) records
  pub apart : AreApart records

-- the same where each caller has a fault injector of its own
pub record AreSoundBy (tests : ℕ → Option (Crossing → Bool)) (records : List FaultRecord) : Type 0 where
  pub holds : AllByRecursion (λ (fault : FaultRecord). IfSome (tests fault.caller) (λ fires. fires (crossing_of fault) ≡ true)) records
  pub apart : AreApart records

-- ---- where one caller acts alone: the entries stand in the order of their moments, without a gap

abbrev pub moments_in : List Entry → List ℕ
moments_in history = map (λ (entry : Entry). entry.moment) history

abbrev pub IsLined : ℕ → List Entry → ℕ → Type 0
IsLined start history begun = (begun ≡ length history) × (moments_in history ≡ range_with_len (start + 1) (length history))

abbrev pub LineOf : ℕ → List Entry → ℕ → Flight → Bool → Type 0
LineOf start history begun flight true = IsLined start history begun
LineOf start history begun flight false = (begun ≡ length history + 1) × (flight.moment ≡ start + begun) × (moments_in history ≡ range_with_len (start + 1) (length history))

abbrev pub LineBy : ℕ → List Entry → ℕ → Option Flight → Type 0
LineBy start history begun None = IsLined start history begun
LineBy start history begun (Some flight) = LineOf start history begun flight flight.answered

abbrev pub InLine : ℕ → Sight → Type 0
InLine caller sight = LineBy sight.config.start sight.history sight.begun (sight.seats caller).flight

-- every call that was begun has its entry, or is in flight without one
abbrev pub IsBalanced : Sight → Type 0
IsBalanced sight = sight.begun ≡ length sight.history + sight.open_calls

-- ---- what the steps of one caller leave of the others

pub record ActsAlone (caller : ℕ) (old new : Sight) : Type 0 where
  pub config : new.config ≡ old.config
  pub seats : (other : ℕ) → other ≢ caller → new.seats other ≡ old.seats other
  pub own : (other : ℕ) → other ≢ caller → own new.history other ≡ own old.history other
  pub entries : List Entry
  pub grown : new.history ≡ old.history ++ entries
  pub theirs : AllByRecursion (λ (entry : Entry). entry.caller ≡ caller) entries
  pub more : List FaultRecord
  pub records : new.records ≡ old.records ++ more
  pub mine : AllByRecursion (λ (fault : FaultRecord). fault.caller ≡ caller) more
  pub later : old.incarnation ≤ new.incarnation
  pub runs : new.incarnation ≡ old.incarnation → old.stage ≡ stage.Running → new.stage ≡ stage.Running
  pub copies : new.incarnation ≡ old.incarnation → old.stage ≡ stage.Running → (other : ℕ) → other ≢ caller → new.copies other ≡ old.copies other
  pub stales : new.incarnation ≡ old.incarnation → old.stage ≡ stage.Running → (other : ℕ) → other ≢ caller → new.stales other ≡ old.stales other
  pub calm : length new.records ≡ length old.records → new.incarnation ≡ old.incarnation
  pub floor : (new.floor ≡ None) ⊎ (new.floor ≡ Some caller) ⊎ (new.floor ≡ old.floor)
  pub firsts : KeepsFirsts old new
  pub trail : TrailGoesOn old.trail new.trail

-- ---- how much is left of a call

-- how many blocks below a number were not gathered
unfoldable pub missing : (ℕ → Bool) → ℕ → ℕ
missing shown zero = 0
missing shown (suc n) = cond (shown n) 0 1 + missing shown n

abbrev pub rank : ℕ → ℕ → PagesState → At → ℕ
rank incarnation stales pages at.Outside = 4194304
rank incarnation stales pages (at.Inside ticket) = cond (nat_eq ticket.incarnation incarnation) (2 * ((4 - stales) * 262146 + missing (has pages) 262144 + 1)) 8388608
rank incarnation stales pages (at.Logged ticket) = cond (nat_eq ticket.incarnation incarnation) 0 8388608

abbrev pub busy : ℕ → Option ℕ → ℕ
busy caller None = 0
busy caller (Some holder) = cond (nat_eq holder caller) 0 1

abbrev pub work : Sight → ℕ → Runner → ℕ
work sight caller runner =
    (sight.config.limit + 1 - length sight.records) * 33554432 + one_if (recovers sight.stage) * 16777216 + rank sight.incarnation (sight.stales caller) runner.pages runner.at + busy caller sight.floor

-- what a step comes to
abbrev pub StepComesTo : ℕ → Sight → Sight → Runner → Runner → Went → Type 0
StepComesTo caller old new before now went.Ended = (now.done ≡ before.done + 1) × ((new.seats caller).flight ≡ None)
StepComesTo caller old new before now went.On = (now.done ≡ before.done) × (work new caller now < work old caller before)
StepComesTo caller old new before now went.Back = (now.done ≡ before.done) × (work new caller now < work old caller before)
StepComesTo caller old new before now went.Shut = (now.done ≡ before.done) × (work new caller now ≤ work old caller before) × (recovers new.stage ≡ true) × (now.at ≡ at.Outside) × IsWaiting (new.seats caller)
StepComesTo caller old new before now (went.Busy holder) =
    (now.done ≡ before.done) × (work new caller now ≤ work old caller before) × (new ≡ old) × (new.floor ≡ Some holder.caller) × (holder.caller ≢ caller) × (new.stage ≡ stage.Running)
StepComesTo caller old new before now went.NoMemory = (now.done ≡ before.done) × (now.answered ≡ false)

-- ---- a step of a caller

abbrev pub calls_of : List JobCall → ℕ → List Call
calls_of calls caller = map (λ (made : JobCall). made.call) (filter (λ (made : JobCall). nat_eq made.caller caller) calls)

abbrev pub backed : Runner → Runner
backed runner = record runner { at = at.Outside; asked = false; pages = no_pages }

abbrev pub advanced : Runner → Runner
advanced runner = record { crossings = record { caller = runner.crossings.caller; ordinal = runner.crossings.ordinal + 1; counts = 0 ∷ 0 ∷ 0 ∷ 0 ∷ 0 ∷ 0 ∷ [] }; done = runner.done + 1; at = at.Outside; answered = false; asked = false; pages = no_pages }

-- the six counts of a call, each of 32 bits
pub record AreSixCounts (crossings : Crossings) : Type 0 where
  pub six : length crossings.counts ≡ 6
  pub fits : (kind : Kind) → slice_index crossings.counts (place_of kind) ≤ 4294967295

-- a caller whose next call is that one, and what holds of the core and of all records
pub record MayStep (calls : List JobCall) (test : Option (Crossing → Bool)) (sight : Sight) (runner : Runner) (call : Call) : Type 0 where
  pub served : IsServedSoFar (calls_of calls runner.crossings.caller) sight runner.crossings.caller runner
  pub sound : AreSound test sight.records
  pub within : runner.crossings.caller < sight.config.callers
  pub most : length (calls_of calls runner.crossings.caller) ≤ sight.config.most
  pub small : length (calls_of calls runner.crossings.caller) < 4294967290
  pub next : slice_get (calls_of calls runner.crossings.caller) runner.done ≡ Some call
  pub counts : AreSixCounts runner.crossings
  pub right : IsOrderlyInSight sight

-- the core and the caller later on
pub record Nears (calls : List JobCall) (test : Option (Crossing → Bool)) (old new : Sight) (before now : Runner) : Type 0 where
  pub same : now.crossings.caller ≡ before.crossings.caller
  pub counts : AreSixCounts now.crossings
  pub acts : ActsAlone before.crossings.caller old new
  pub lined : InLine before.crossings.caller old → InLine before.crossings.caller new
  pub balanced : IsBalanced old → IsBalanced new
  pub served : IsServedSoFar (calls_of calls before.crossings.caller) new before.crossings.caller now
  pub sound : AreSound test new.records
  -- it took its faults where it entered
  pub entered : EntersIn test old before before.at → EntersIn test new now now.at
  -- no checkpoint was taken but where one was due, and none was left out behind a sync(2)
  pub seals : IsTimely 0 old new

pub record Did (calls : List JobCall) (test : Option (Crossing → Bool)) (old new : Sight) (before now : Runner) (went : Went) : Type 0 where
  pub nears : Nears calls test old new before now
  pub goes : StepComesTo before.crossings.caller old new before now went

-- the hook was asked at the next crossing of a kind, for a call with a ticket
abbrev pub Asks : Option (Crossing → Bool) → Sight → Sight → Runner → Runner → Ticket → Kind → Bool → Type 0
Asks test old new before now ticket kind false =
    (new ≡ old) × (now ≡ record before { crossings = counted before.crossings kind }) × IfSome test (λ fires. fires (next_of kind before.crossings) ≡ false)
Asks test old new before now ticket kind true =
    (now ≡ backed (record before { crossings = counted before.crossings kind }))
    × IfSome test (λ fires. fires (next_of kind before.crossings) ≡ true)
    × (((ticket.incarnation ≢ old.incarnation) × (new ≡ old)) ⊎ ((ticket.incarnation ≡ old.incarnation) × StrikesCall old new ticket kind (next_nth before.crossings.counts kind)))

-- the hook is asked right after a call entered
pub record AsksAtEntry (calls : List JobCall) (test : Option (Crossing → Bool)) (old new : Sight) (before now : Runner) (came : Went) : Type 0 where
  pub nears : Nears calls test old new before now
  pub done : now.done ≡ before.done
  pub goes : (came ≡ went.On) ⊎ (came ≡ went.Back)
  pub less : work new before.crossings.caller now ≤ work old before.crossings.caller before
  -- until it is asked it counts as one that is on its way in
  pub entered : EntersIn test old before at.Outside → EntersIn test new now now.at

-- ---- a recovery

-- the call is outside, or its ticket is of another incarnation
abbrev pub IsResting : ℕ → At → Type 0
IsResting incarnation at.Outside = Unit {0}
IsResting incarnation (at.Inside ticket) = ticket.incarnation ≢ incarnation
IsResting incarnation (at.Logged ticket) = ticket.incarnation ≢ incarnation

abbrev pub with_crossings : Runner → Crossings → Runner
with_crossings runner crossings = record runner { crossings = crossings }

-- how much is left of a recovery, with the faults that may still come
abbrev pub steps_to_go : Sight → ℕ
steps_to_go sight = (sight.config.limit + 1 - length sight.records) * 8589934592 + sight.left

abbrev pub RolledBy : ℕ → Sight → Sight → Runner → Runner → Went → Type 0
RolledBy caller old new before now went.On =
    (now.done ≡ before.done) × (now.at ≡ before.at) × IsWaiting (new.seats caller) × (recovers new.stage ≡ true) × (steps_to_go new < steps_to_go old) × (work new caller now ≤ work old caller before)
RolledBy caller old new before now went.Back = (now.done ≡ before.done) × (now.at ≡ before.at) × (work new caller now < work old caller before)
RolledBy caller old new before now went.Ended = (now.done ≡ before.done + 1) × ((new.seats caller).flight ≡ None)
RolledBy caller old new before now went.NoMemory = (now.done ≡ before.done) × (now.answered ≡ false)
RolledBy caller old new before now _ = ⊥

pub record Rolled (calls : List JobCall) (test : Option (Crossing → Bool)) (old new : Sight) (before now : Runner) (came : Went) : Type 0 where
  pub nears : Nears calls test old new before now
  pub goes : RolledBy before.crossings.caller old new before now came

-- the crossings of the call that ran a step are kept
abbrev pub CrossingsAreKept : Runner → Option Crossings → Runner → Type 0
CrossingsAreKept before None now = ⊥
CrossingsAreKept before (Some crossings) now = now ≡ with_crossings before crossings

-- ---- all callers

pub record AllUnderWay (calls : List JobCall) (test : Option (Crossing → Bool)) (sight : Sight) (runners : List Runner) : Type 0 where
  pub served : (caller : ℕ) (runner : Runner) → slice_get runners caller ≡ Some runner → IsServedSoFar (calls_of calls caller) sight caller runner
  pub counts : (caller : ℕ) (runner : Runner) → slice_get runners caller ≡ Some runner → AreSixCounts runner.crossings
  pub entered : (caller : ℕ) (runner : Runner) → slice_get runners caller ≡ Some runner → EntersIn test sight runner runner.at
  pub sound : AreSound test sight.records
  pub callers : length runners ≡ sight.config.callers
  pub most : (caller : ℕ) → length (calls_of calls caller) ≤ sight.config.most
  pub small : (caller : ℕ) → length (calls_of calls caller) < 4294967290
  pub right : IsOrderlyInSight sight

abbrev pub IsFloorOf : ℕ → Option ℕ → Type 0
IsFloorOf caller floor = (floor ≡ None) ⊎ (floor ≡ Some caller)

-- a call was run to its end
pub record HasRun (calls : List JobCall) (test : Option (Crossing → Bool)) (old new : Sight) (before now : Runner) : Type 0 where
  pub nears : Nears calls test old new before now
  pub done : now.done ≡ before.done + 1
  pub free : (new.seats before.crossings.caller).flight ≡ None

abbrev pub Ran : List JobCall → Option (Crossing → Bool) → Sight → Sight → Runner → Runner → Bool → Type 0
Ran calls test old new before now true = HasRun calls test old new before now
Ran calls test old new before now false = Unit {0}

-- a recovery was done, or ended with the call
abbrev pub RecoveredBy : ℕ → Sight → Sight → Runner → Runner → Went → Type 0
RecoveredBy caller old new before now went.Back = (now.done ≡ before.done) × (work new caller now < work old caller before)
RecoveredBy caller old new before now went.Ended = (now.done ≡ before.done + 1) × ((new.seats caller).flight ≡ None)
RecoveredBy caller old new before now went.NoMemory = (now.done ≡ before.done) × (now.answered ≡ false)
RecoveredBy caller old new before now _ = ⊥

pub record RunsRecovery (calls : List JobCall) (test : Option (Crossing → Bool)) (old new : Sight) (before now : Runner) (came : Went) : Type 0 where
  pub nears : Nears calls test old new before now
  pub goes : RecoveredBy before.crossings.caller old new before now came

abbrev pub TurnedBy : ℕ → Sight → Sight → Runner → Runner → StepEnd → Type 0
TurnedBy caller old new before now turn.Ended = (now.done ≡ before.done + 1) × ((new.seats caller).flight ≡ None)
TurnedBy caller old new before now turn.Again = (now.done ≡ before.done) × (work new caller now < work old caller before)
TurnedBy caller old new before now (turn.Busy holder) =
    (now.done ≡ before.done) × (work new caller now ≤ work old caller before) × (new ≡ old) × (new.floor ≡ Some holder) × (holder ≢ caller) × (new.stage ≡ stage.Running)
TurnedBy caller old new before now turn.NoMemory = (now.done ≡ before.done) × (now.answered ≡ false)

pub record Turns (calls : List JobCall) (test : Option (Crossing → Bool)) (old new : Sight) (before now : Runner) (came : StepEnd) : Type 0 where
  pub nears : Nears calls test old new before now
  pub goes : TurnedBy before.crossings.caller old new before now came

-- ---- list order: after so many calls of the job

-- the entries are these calls of these callers, in the same order
pub record EntriesAreCalls (history : List Entry) (calls : List JobCall) : Type 0 where
  pub callers : map (λ (entry : Entry). entry.caller) history ≡ map (λ (made : JobCall). made.caller) calls
  pub made : map (λ (entry : Entry). entry.call) history ≡ map (λ (made : JobCall). made.call) calls

pub record IsAfter (calls : List JobCall) (test : Option (Crossing → Bool)) (sight : Sight) (runners : List Runner) (index : ℕ) : Type 0 where
  pub underway : AllUnderWay calls test sight runners
  pub free : (caller : ℕ) → caller < sight.config.callers → (sight.seats caller).flight ≡ None
  pub listed : EntriesAreCalls sight.history (take index calls)
  pub lined : IsLined sight.config.start sight.history sight.begun
  pub done : (caller : ℕ) (runner : Runner) → slice_get runners caller ≡ Some runner → runner.done ≡ length (calls_of (take index calls) caller)

-- the entries of so many callers, with plain replies, are of calls that were struck once at most before
abbrev pub AreStruckOnce : ℕ → List Entry → List FaultRecord → Type 0
AreStruckOnce callers history records = AllByRecursion (λ (entry : Entry). entry.caller < callers → IsStruckOnceIfPlain records entry) history

-- a job that was run in list order; none of its calls is in flight
pub record IsRunInOrder (calls : List JobCall) (callers : ℕ) (test : Option (Crossing → Bool)) (sight : Sight) : Type 0 where
  pub free : (caller : ℕ) → caller < callers → (sight.seats caller).flight ≡ None
  pub own_calls : (caller : ℕ) → caller < callers → calls_in sight.history caller ≡ calls_of calls caller
  pub listed : EntriesAreCalls sight.history calls
  pub moments : moments_in sight.history ≡ range_with_len (sight.config.start + 1) (length sight.history)
  pub begun : sight.begun ≡ length sight.history
  pub sound : AreSound test sight.records
  pub once : AreStruckOnce callers sight.history sight.records

-- ---- a call that met want of memory

-- the call is in flight without an entry exactly where it was begun
pub record MayGiveUp (sight : Sight) (runner : Runner) : Type 0 where
  pub list : List Call
  pub served : IsServedSoFar list sight runner.crossings.caller runner
  pub within : runner.crossings.caller < sight.config.callers
  pub lacks : runner.answered ≡ false
  pub right : IsOrderlyInSight sight
