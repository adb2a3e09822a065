-- What each answer of a step of a recovery means: when it comes, and what it made of the core.
use Rattle.std.specs.Prelude.{List, ℕ, ◌+◌, ◌<◌, ◌≤◌, ◌≡◌, ◌⊎◌, Bool, true, false, Option, Some, None, IfSome, length, option_map, slice_get, slice_set}
use Rattle.mb_kinds.specs.Image.{Image}
use Rattle.mb_kinds.specs.declared.faults.Kind.{Kind}
use Rattle.mb_kinds.specs.declared.faults.Kind.TheVariants.{Remount, Replay}
use Rattle.mb_edge.specs.Causes.{Rose}
use Rattle.mb_edge.specs.Crossings.{next_nth, place_of}
use Rattle.mb_edge.specs.declared.crossings.Crossing.{Crossing}
use Rattle.mb_edge.specs.declared.crossings.Crossings.{Crossings}
use Rattle.mb_edge.specs.declared.strokes.Stroke.{Stroke}
use Rattle.mb_tree.specs.Sessions.{counts}
use Rattle.mb_oplog.specs.declared.oplogs.Logged.{Logged}
use Rattle.mb_session.specs.OpenFiles.{TellsCounts}
use Rattle.mb_cache.specs.declared.answers.ReadFault.TheVariants as read
use Rattle.mb_core_spec.specs.Events.{with_room}
use Rattle.mb_core_spec.specs.Recovery.{dropping, failing, reopening, resuming, striking_again}
use Rattle.mb_core_spec.specs.State.{CoreState}
use Rattle.mb_core_spec.specs.declared.stages.Stage.TheVariants as stage
use Rattle.mb_core_state.specs.Redoing.{FailsStep, IsRemounted, IsReplayed}
use Rattle.mb_core_state.specs.declared.answers.Phase.{Phase}
use Rattle.mb_core_state.specs.declared.answers.Phase.TheVariants as phase
use Rattle.mb_core_events.specs.Callings.{HasOpenCall, MayReplayNow, Unwinds, phase_now}
use Rattle.mb_recover.specs.declared.steps.Stepped.{Stepped}
use Rattle.mb_recover.specs.declared.steps.Stepped.TheVariants as stepped

-- the crossings are those of a caller's call in flight, which has no entry
pub record RunsFor {F D : Type 0} (core : CoreState F D) (by : Crossings) : Type 0 where
  pub of : HasOpenCall core by.caller
  pub ordinal : by.ordinal ≡ of.0.flight.ordinal

-- the caller of that call
abbrev pub caller_of : Option Crossings → Option ℕ
caller_of by = option_map (λ (c : Crossings). c.caller) by

-- its next crossing of a kind
abbrev pub next_of : Kind → Crossings → Crossing
next_of kind by = record { caller = by.caller; ordinal = by.ordinal; kind = kind; nth = next_nth by.counts kind }

abbrev pub next_if : Kind → Option Crossings → Option Crossing
next_if kind by = option_map (next_of kind) by

-- the crossings once it was counted
abbrev pub counted : Kind → Crossings → Crossings
counted kind by = record by { counts = slice_set by.counts (place_of kind) (next_nth by.counts kind) }

abbrev pub counted_if : Kind → Option Crossings → Option Crossings
counted_if kind by = option_map (counted kind) by

-- a fault at a crossing
abbrev pub striking_at : {F D : Type 0} → CoreState F D → Crossing → List Stroke → CoreState F D
striking_at core at strokes = striking_again core at.caller at.ordinal at.kind at.nth strokes

abbrev pub IsStruck : {F D : Type 0} → CoreState F D → CoreState F D → Crossing → List Stroke → Stepped → Type 0
IsStruck old new at strokes (stepped.Again faults) = (faults ≡ length old.journal.records + 1) × (faults ≤ old.config.limit) × (new ≡ with_room (striking_at old at strokes) new)
IsStruck old new at strokes (stepped.Failed faults) = (faults ≡ length old.journal.records + 1) × (old.config.limit < faults) × (new ≡ with_room (failing (striking_at old at strokes)) new)
IsStruck old new at strokes stepped.NoMemory = new ≡ with_room old new
IsStruck old new at strokes _ = ⊥

-- after a fault with that number the recovery begins anew, or the volume is given up
abbrev pub PassesLimit : {F D : Type 0} → CoreState F D → CoreState F D → ℕ → Stepped → Type 0
PassesLimit old new count (stepped.Again faults) = (faults ≡ count) × (count ≤ old.config.limit) × (new ≡ old)
PassesLimit old new count (stepped.Failed faults) = (faults ≡ count) × (old.config.limit < count) × (new ≡ with_room (failing old) new)
PassesLimit old new count _ = ⊥

-- the fault point of a step
abbrev pub IsPointOf : Phase → Kind → Type 0
IsPointOf phase.Remount kind = kind ≡ Remount
IsPointOf (phase.Replay number) kind = kind ≡ Replay
IsPointOf _ kind = ⊥

-- the hook faulted at the next crossing of the step's fault point; its test holds there, where it tells one
pub record IsMet {F D : Type 0} (old new : CoreState F D) (by : Option Crossings) (test : Option (Crossing → Bool)) (strokes : List Stroke) (answer : Stepped) : Type 0 where
  pub at : Crossing
  pub next : next_if at.kind by ≡ Some at
  pub point : IsPointOf (phase_now old) at.kind
  pub tested : IfSome test (λ fires. fires at ≡ true)
  pub struck : IsStruck old new at strokes answer

-- the dirty pages are dropped, or the volume is given up
abbrev pub Drops : {F D : Type 0} → CoreState F D → CoreState F D → Stepped → Type 0
Drops old new stepped.Dropped = (phase_now old ≡ phase.Drop) × (length old.journal.records ≤ old.config.limit) × (new ≡ with_room (dropping old) new)
Drops old new (stepped.Failed faults) = (phase_now old ≡ phase.Drop) × (faults ≡ length old.journal.records) × (old.config.limit < faults) × (new ≡ with_room (failing old) new)
Drops old new _ = ⊥

-- the file system is started anew, and the log is folded
abbrev pub Remounts : {F D : Type 0} → (D → ℕ) → CoreState F D → CoreState F D → Option ℕ → Stepped → Type 0
Remounts faults old new by stepped.Remounted = (phase_now old ≡ phase.Remount) × IsRemounted old new
Remounts faults old new by stepped.Device = (phase_now old ≡ phase.Remount) × FailsStep faults old new by read.Device
Remounts faults old new by stepped.NoMemory = (phase_now old ≡ phase.Remount) × FailsStep faults old new by read.NoMemory
Remounts faults old new by _ = ⊥

-- an operation of the log is done again
abbrev pub Replays : {F D : Type 0} → (D → Option Image) → (D → ℕ) → CoreState F D → CoreState F D → Option ℕ → Stepped → Type 0
Replays told faults old new by (stepped.Replayed number) = (phase_now old ≡ phase.Replay number)
    × ((done : ℕ) (logged : Logged) → old.stage ≡ stage.Restored done → slice_get old.journal.oplog done ≡ Some logged → IsReplayed told old new done logged)
Replays told faults old new by stepped.Device = MayReplayNow (phase_now old) × FailsStep faults old new by read.Device
Replays told faults old new by stepped.NoMemory = MayReplayNow (phase_now old) × FailsStep faults old new by read.NoMemory
Replays told faults old new by _ = ⊥

-- the steps that are no fault points
abbrev pub Plainly : {F D : Type 0} → CoreState F D → CoreState F D → Stepped → Type 0
Plainly old new stepped.Idle = (phase_now old ≡ phase.Idle) × (new ≡ old)
Plainly old new (stepped.Unwound ticket) = (phase_now old ≡ phase.Unwind) × Unwinds old new ticket
Plainly old new stepped.Reopened = (phase_now old ≡ phase.Reopen) × (new ≡ with_room (reopening old new.tables.opens) new) × TellsCounts new.tables.opens (counts old.tables.saved)
Plainly old new stepped.Resumed = (phase_now old ≡ phase.Resume) × (new ≡ with_room (resuming old) new)
Plainly old new stepped.NoMemory = ((phase_now old ≡ phase.Reopen) ⊎ (phase_now old ≡ phase.Resume)) × (new ≡ with_room old new)
Plainly old new _ = ⊥

-- what a step comes to
abbrev pub Recovers : {F D : Type 0} → (D → Option Image) → (D → ℕ) → CoreState F D → CoreState F D → Option Crossings → Option (Crossing → Bool) → List Stroke → Stepped → Type 0
Recovers told faults old new by test strokes answer = Plainly old new answer ⊎ (Drops old new answer ⊎ (Remounts faults old new (caller_of by) answer ⊎ (Replays told faults old new (caller_of by) answer ⊎ IsMet old new by test strokes answer)))

-- the fault point of a step is counted, whether the hook faults there or not
abbrev pub CountsAt : Phase → Option Crossings → Option Crossings → Type 0
CountsAt phase.Remount old new = new ≡ counted_if Remount old
CountsAt (phase.Replay number) old new = new ≡ counted_if Replay old
CountsAt _ old new = new ≡ old

-- the hook is asked at a fault point alone, and for a call alone
abbrev pub AsksAt : {H : Type 0} → Phase → Option Crossings → H → H → Type 0
AsksAt phase.Remount by old new = by ≡ None → new ≡ old
AsksAt (phase.Replay number) by old new = by ≡ None → new ≡ old
AsksAt _ by old new = new ≡ old

-- the hook's test, where it tells one, does not hold at the next crossing of a kind
abbrev pub IsUnfired : Option (Crossing → Bool) → Kind → Crossings → Type 0
IsUnfired test kind by = IfSome test (λ fires. fires (next_of kind by) ≡ false)

-- a step that is a fault point was made where the hook did not fault; `struck` is the crossing of its last fault
abbrev pub IsUnheard : Option (Crossing → Bool) → Option Crossing → Option Crossings → Stepped → Type 0
IsUnheard test struck (Some by) stepped.Remounted = (struck ≡ None) × IsUnfired test Remount by
IsUnheard test struck (Some by) (stepped.Replayed number) = (struck ≡ None) × IsUnfired test Replay by
IsUnheard test struck by answer = Unit {0}

-- a fault struck in the step: the recovery begins anew, or is given up elsewhere than where the dirty pages are to be dropped
abbrev pub was_struck : Stepped → Phase → Bool
was_struck (stepped.Again faults) phase = true
was_struck (stepped.Failed faults) phase.Drop = false
was_struck (stepped.Failed faults) _ = true
was_struck _ phase = false

-- the hook's count of faults never falls, and a fault strikes only where it rose in that step
pub record HasStruckCause (phase : Phase) (before now : ℕ) (answer : Stepped) : Type 0 where
  pub later : before ≤ now
  pub struck : was_struck answer phase ≡ true → Rose before now
