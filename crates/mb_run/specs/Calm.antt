-- What an order makes of the callers while no fault strikes and no call is given up: calls enter and gather, and nothing else.
use Rattle.std.specs.Prelude.{ℕ, ◌+◌, ◌<◌, ◌≤◌, ◌≡◌, ◌≢◌, ◌⊎◌, List, [], ◌∷◌, ◌++◌, map, slice_get, Bool, true, false, Option, Some, None}
use Rattle.std.specs.List.{AllByRecursion}
use Rattle.mb_core_spec.specs.declared.stages.Stage.TheVariants as stage
use Rattle.mb_core_spec.specs.declared.steps.Step.TheVariants as step
use Rattle.mb_edge.specs.declared.crossings.Crossing.{Crossing}
use Rattle.mb_jobs.specs.declared.jobs.Caller.{Caller}
use Rattle.mb_jobs.specs.declared.jobs.JobCall.{JobCall}
use Rattle.mb_kinds.specs.declared.calls.Call.{Call}
use Rattle.mb_kinds.specs.declared.entries.Entry.{Entry}
use Rattle.mb_kinds.specs.declared.faults.Ticket.{Ticket}
use Rattle.mb_run.specs.Letters.{AreLetters, letters_of}
use Rattle.mb_run.specs.Pages.{has}
use Rattle.mb_run.specs.Runs.{begun_from, has_call, has_capital, is_begun, is_calm_next, letter_of, used, without_seals}
use Rattle.mb_run.specs.Seals.{is_plain}
use Rattle.mb_run.specs.Served.{calls_of}
use Rattle.mb_run.specs.Sights.{SightSeat, Sight}
use Rattle.mb_run.specs.declared.runner.At.{At}
use Rattle.mb_run.specs.declared.runner.At.TheVariants as at
use Rattle.mb_run.specs.declared.runner.Runner.{Runner}

-- the fault injector's test is told, and holds at no crossing
abbrev pub HoldsNowhere : Option (Crossing → Bool) → Type 0
HoldsNowhere None = ⊥
HoldsNowhere (Some fires) = (crossing : Crossing) → fires crossing ≡ false

-- neither a fault nor the disk ended a call
abbrev pub AreAllPlain : List Entry → Type 0
AreAllPlain history = AllByRecursion (λ (entry : Entry). is_plain entry.reply ≡ true) history

-- ---- one caller

-- its next call entered; after a small letter it has not gathered the tables
pub record WentInside (capital : Bool) (old new : Sight) (caller : ℕ) (now : Runner) : Type 0 where
  pub ticket : Ticket
  pub stands : now.at ≡ at.Inside ticket
  pub own : ticket.caller ≡ caller
  pub ordinal : ticket.ordinal ≡ (old.seats caller).begun + 1
  pub present : ticket.incarnation ≡ old.incarnation
  pub incarnation : new.incarnation ≡ old.incarnation
  pub stage : new.stage ≡ old.stage
  pub trail : new.trail ≡ old.trail ++ step.Entered ticket ∷ []
  pub bare : capital ≡ false → has now.pages 0 ≡ false

-- its call stays inside, with the same ticket, and left no mark
pub record StaysInside (old new : Sight) (ticket : Ticket) (now : Runner) : Type 0 where
  pub stands : now.at ≡ at.Inside ticket
  pub incarnation : new.incarnation ≡ old.incarnation
  pub stage : new.stage ≡ old.stage
  pub trail : new.trail ≡ old.trail

-- a call that has not begun enters; one that is inside stays there, if the letter is a capital or the tables are not gathered
abbrev pub CalmlyFrom : Bool → Sight → Sight → Runner → Runner → At → Type 0
CalmlyFrom capital old new before now at.Outside =
    old.stage ≡ stage.Running → (old.seats before.crossings.caller).flight ≡ None → WentInside capital old new before.crossings.caller now
CalmlyFrom capital old new before now (at.Inside ticket) =
    ticket.incarnation ≡ old.incarnation → (capital ≡ false → has before.pages 0 ≡ false) → StaysInside old new ticket now
CalmlyFrom capital old new before now (at.Logged ticket) = Unit {0}

-- what steps of a small or a capital letter make of a caller, where no fault comes and no call is given up
abbrev pub StepsCalmly : Bool → Option (Crossing → Bool) → Sight → Sight → Runner → Runner → Type 0
StepsCalmly capital test old new before now = HoldsNowhere test → AreAllPlain new.history → CalmlyFrom capital old new before now before.at

-- a fault point was passed, and nothing else came of it
abbrev pub PassesBy : Sight → Sight → Runner → Runner → Type 0
PassesBy old new before now = (new ≡ old) × (now.at ≡ before.at) × (now.pages ≡ before.pages)

-- ---- one character

-- the call of the letter's caller was stepped, and the others stand as before
pub record IsTurn (calls : List JobCall) (test : Option (Crossing → Bool)) (capital : Bool) (caller : ℕ) (old new : Sight) (before now : List Runner) : Type 0 where
  pub runner : Runner
  pub stepped : Runner
  pub call : Call
  pub here : slice_get before caller ≡ Some runner
  pub own : runner.crossings.caller ≡ caller
  pub next : slice_get (calls_of calls caller) runner.done ≡ Some call
  pub there : slice_get now caller ≡ Some stepped
  pub steps : StepsCalmly capital test old new runner stepped
  pub runners : (other : ℕ) (found : Runner) → other ≢ caller → slice_get now other ≡ Some found → slice_get before other ≡ Some found
  pub seats : (other : ℕ) → other ≢ caller → new.seats other ≡ old.seats other

-- its caller's list is done, and nothing came of it
pub record IsDoneAndIdle (calls : List JobCall) (caller : ℕ) (old new : Sight) (before now : List Runner) : Type 0 where
  pub runner : Runner
  pub here : slice_get before caller ≡ Some runner
  pub none : slice_get (calls_of calls caller) runner.done ≡ None
  pub same : new ≡ old
  pub runners : now ≡ before

abbrev pub TurnsCalmly : List JobCall → Option (Crossing → Bool) → Bool → ℕ → Sight → Sight → List Runner → List Runner → Type 0
TurnsCalmly calls test capital caller old new before now = IsTurn calls test capital caller old new before now ⊎ IsDoneAndIdle calls caller old new before now

-- no call did anything, and of the trace at most checkpoints came
pub record IsStill (old new : Sight) : Type 0 where
  pub stage : new.stage ≡ old.stage
  pub incarnation : new.incarnation ≡ old.incarnation
  pub seats : (caller : ℕ) → new.seats caller ≡ old.seats caller
  pub trail : without_seals new.trail ≡ without_seals old.trail

-- ---- after the characters that were seen

-- a caller before its first call
pub record IsUnbegun (seat : SightSeat) (runner : Runner) : Type 0 where
  pub stands : runner.at ≡ at.Outside
  pub free : seat.flight ≡ None
  pub begun : seat.begun ≡ 0
  pub done : runner.done ≡ 0

-- a caller whose call is inside, with a ticket of the present incarnation
pub record IsWithin (sight : Sight) (runner : Runner) : Type 0 where
  pub ticket : Ticket
  pub stands : runner.at ≡ at.Inside ticket
  pub present : ticket.incarnation ≡ sight.incarnation

-- a caller with that letter is before its first call, or inside with it; after one small letter alone it has not gathered the tables
pub record IsInTurn (letters : List ℕ) (calls : List JobCall) (seen : List ℕ) (sight : Sight) (caller letter : ℕ) (runner : Runner) : Type 0 where
  pub outside : is_begun (begun_from calls letters [] seen) caller ≡ false → has_call calls caller ≡ true → IsUnbegun (sight.seats caller) runner
  pub inside : is_begun (begun_from calls letters [] seen) caller ≡ true → IsWithin sight runner
  pub stood : is_begun (begun_from calls letters [] seen) caller ≡ true → 1 ≤ used seen letter
  pub bare : is_begun (begun_from calls letters [] seen) caller ≡ true → used seen letter < 2 → has_capital seen letter ≡ false → has runner.pages 0 ≡ false

-- the volume runs, and the trace tells but for its checkpoints that the callers whose letters stood there entered, in that order,
-- each with its first call
pub record AreCalm (letters : List ℕ) (calls : List JobCall) (seen : List ℕ) (sight : Sight) (runners : List Runner) : Type 0 where
  pub runs : sight.stage ≡ stage.Running
  pub tickets : List Ticket
  pub trail : without_seals sight.trail ≡ map step.Entered tickets
  pub callers : map (λ (ticket : Ticket). ticket.caller) tickets ≡ begun_from calls letters [] seen
  pub firsts : AllByRecursion (λ (ticket : Ticket). ticket.ordinal ≡ 1) tickets
  pub each : (caller letter : ℕ) (runner : Runner) → letter_of letters caller ≡ Some letter → slice_get runners caller ≡ Some runner
      → IsInTurn letters calls seen sight caller letter runner

-- none was seen yet
abbrev pub StartsCalm : List Caller → List JobCall → Sight → List Runner → Type 0
StartsCalm callers calls sight runners = AreCalm (letters_of callers) calls [] sight runners

-- one character more, which may follow those that were seen
abbrev pub KeepsCalm : List ℕ → List JobCall → ℕ → Sight → Sight → List Runner → List Runner → Type 0
KeepsCalm letters calls character old new before now = (seen : List ℕ) → is_calm_next letters seen character ≡ true
    → AreCalm letters calls seen old before → AreAllPlain new.history → AreCalm letters calls (seen ++ character ∷ []) new now

-- the same for callers with letters of their own, where no fault comes
abbrev pub KeepsCalmly : List Caller → List JobCall → Option (Crossing → Bool) → ℕ → Sight → Sight → List Runner → List Runner → Type 0
KeepsCalmly callers calls test character old new before now =
    HoldsNowhere test → AreLetters (letters_of callers) → KeepsCalm (letters_of callers) calls character old new before now
