-- What a step of a recovery makes of what the driver sees, and of the crossings of the call that runs it.
use Rattle.std.specs.Prelude.{ℕ, ◌+◌, ◌<◌, ◌≤◌, ◌≡◌, ◌⊎◌, [], ◌∷◌, ◌++◌, length, slice_index, slice_set, Bool, true, false, Option, Some, None, IfSome}
use Rattle.mb_edge.specs.Crossings.{next_nth, place_of}
use Rattle.mb_edge.specs.declared.crossings.Crossing.{Crossing}
use Rattle.mb_edge.specs.declared.crossings.Crossings.{Crossings}
use Rattle.mb_kinds.specs.declared.entries.Flight.{Flight}
use Rattle.mb_kinds.specs.declared.faults.FaultRecord.{FaultRecord}
use Rattle.mb_kinds.specs.declared.faults.Kind.{Kind}
use Rattle.mb_kinds.specs.declared.faults.Kind.TheVariants.{Remount, Replay}
use Rattle.mb_kinds.specs.declared.replies.Reply.TheVariants as reply
use Rattle.mb_run.specs.Events.{Answers, SameCalls, KeepsLog}
use Rattle.mb_run.specs.Sights.{Sight, recovers}
use Rattle.mb_core_spec.specs.declared.stages.Stage.{Stage}
use Rattle.mb_core_spec.specs.declared.stages.Stage.TheVariants as stage
use Rattle.mb_run.specs.declared.answers.StepAnswer.{StepAnswer}
use Rattle.mb_run.specs.declared.answers.StepAnswer.TheVariants as stepped

-- the crossings are those of a caller's call in flight, which has no entry
abbrev pub RunsForFlight : Sight → Crossings → Type 0
RunsForFlight sight by = (flight : Flight) × ((sight.seats by.caller).flight ≡ Some flight) × (flight.answered ≡ false) × (by.ordinal ≡ flight.ordinal)

-- the next crossing of a kind, and the crossings once it was counted
abbrev pub next_of : Kind → Crossings → Crossing
next_of kind crossings = record { caller = crossings.caller; ordinal = crossings.ordinal; kind = kind; nth = next_nth crossings.counts kind }

abbrev pub counted : Crossings → Kind → Crossings
counted crossings kind = record crossings { counts = slice_set crossings.counts (place_of kind) (next_nth crossings.counts kind) }

-- the crossing of a fault record
abbrev pub crossing_of : FaultRecord → Crossing
crossing_of fault = record { caller = fault.caller; ordinal = fault.ordinal; kind = fault.kind; nth = fault.nth }

-- the crossings of one call later on: its counts do not fall
pub record CrossingsGoOn (before now : Crossings) : Type 0 where
  pub caller : now.caller ≡ before.caller
  pub ordinal : now.ordinal ≡ before.ordinal
  pub counts : (kind : Kind) → slice_index before.counts (place_of kind) ≤ slice_index now.counts (place_of kind)
  pub six : length now.counts ≡ length before.counts
  pub fits : (kind : Kind) → slice_index now.counts (place_of kind) ≤ 4294967295

-- a fault was taken at a crossing that came between
pub record FaultIsTaken (test : Option (Crossing → Bool)) (before now : Crossings) (fault : FaultRecord) : Type 0 where
  pub caller : fault.caller ≡ before.caller
  pub ordinal : fault.ordinal ≡ before.ordinal
  pub counted : fault.nth ≤ slice_index now.counts (place_of fault.kind)
  pub later : (slice_index before.counts (place_of fault.kind) < fault.nth) ⊎ (fault.nth ≡ 4294967295)
  pub holds : IfSome test (λ fires. fires (crossing_of fault) ≡ true)

-- the calls stay as they are
pub record Waits (old new : Sight) : Type 0 where
  pub config : new.config ≡ old.config
  pub incarnation : new.incarnation ≡ old.incarnation
  pub seats : (other : ℕ) → new.seats other ≡ old.seats other
  pub counts : SameCalls old new
  pub log : KeepsLog old new
  pub floor : (new.floor ≡ None) ⊎ (new.floor ≡ old.floor)

-- a step forward: no fault came, and the end came nearer by more than the log grew shorter
pub record Rolls (old new : Sight) : Type 0 where
  pub waits : Waits old new
  pub records : new.records ≡ old.records
  pub recovered : recovers old.stage ≡ true
  pub fewer : new.left + old.ops < old.left + new.ops

-- the file system is to be started anew
abbrev pub awaits_remount : Stage → Bool
awaits_remount stage.Struck = true
awaits_remount stage.Again = true
awaits_remount stage.Dropped = true
awaits_remount _ = false

-- the call that ran a step, if one did, was at no fault point
abbrev pub IsAtNone : Option Crossings → Option Crossings → Type 0
IsAtNone (Some before) (Some now) = now ≡ before
IsAtNone _ _ = Unit {0}

-- it was at its next crossing of a kind, where no fault came
pub record WentPast (test : Option (Crossing → Bool)) (kind : Kind) (before now : Crossings) : Type 0 where
  pub counts : now ≡ counted before kind
  pub unfired : IfSome test (λ fires. fires (next_of kind before) ≡ false)

abbrev pub PassesPoint : Option (Crossing → Bool) → Kind → Option Crossings → Option Crossings → Type 0
PassesPoint test kind (Some before) (Some now) = WentPast test kind before now
PassesPoint test kind _ _ = Unit {0}

-- a fault came at the next crossing of its kind: where the file system is started anew, or later in the recovery
pub record IsStruckNext (before now : Crossings) (old : Stage) (fault : FaultRecord) : Type 0 where
  pub counts : now ≡ counted before fault.kind
  pub nth : fault.nth ≡ next_nth before.counts fault.kind
  pub point : ((old ≡ stage.Dropped) × (fault.kind ≡ Remount)) ⊎ ((awaits_remount old ≡ false) × (fault.kind ≡ Replay))

-- the hook's fault
pub record StrikesStep (test : Option (Crossing → Bool)) (before now : Crossings) (old new : Sight) : Type 0 where
  pub waits : Waits old new
  pub recovered : recovers old.stage ≡ true
  pub fault : FaultRecord
  pub records : new.records ≡ old.records ++ fault ∷ []
  pub taken : FaultIsTaken test before now fault
  pub next : IsStruckNext before now old.stage fault

-- the call that ran the step, if one did
abbrev pub StepEndsByDevice : Option Crossings → Sight → Sight → Type 0
StepEndsByDevice None old new = new ≡ old
StepEndsByDevice (Some before) old new = (flight : Flight) → (old.seats before.caller).flight ≡ Some flight → Answers before.caller flight reply.Device old new

abbrev pub GoOn : Option Crossings → Option Crossings → Type 0
GoOn None None = Unit {0}
GoOn (Some before) (Some now) = CrossingsGoOn before now
GoOn _ _ = ⊥

abbrev pub StrikesBy : Option (Crossing → Bool) → Option Crossings → Option Crossings → Sight → Sight → Type 0
StrikesBy test (Some before) (Some now) old new = StrikesStep test before now old new
StrikesBy test _ _ old new = ⊥

abbrev pub Steps : Option (Crossing → Bool) → Option Crossings → Option Crossings → Sight → Sight → StepAnswer → Type 0
Steps test before now old new stepped.Idle = (recovers old.stage ≡ false) × (new ≡ old)
Steps test before now old new (stepped.Failed faults) =
    (new.stage ≡ stage.Failed) × (((new.records ≡ old.records) × Waits old new × (recovers old.stage ≡ true) × IsAtNone before now) ⊎ StrikesBy test before now old new)
Steps test before now old new stepped.Resumed = (new.stage ≡ stage.Running) × (new.floor ≡ None) × Rolls old new × (awaits_remount old.stage ≡ false) × IsAtNone before now
Steps test before now old new (stepped.Again faults) = (new.stage ≡ stage.Again) × StrikesBy test before now old new
Steps test before now old new stepped.Device = (recovers old.stage ≡ true) × StepEndsByDevice before old new
Steps test before now old new stepped.NoMemory = new ≡ old
Steps test before now old new stepped.Remounted = (old.stage ≡ stage.Dropped) × (new.stage ≡ stage.Remounted) × Rolls old new × PassesPoint test Remount before now
Steps test before now old new (stepped.Replayed number) = (recovers new.stage ≡ true) × Rolls old new × (awaits_remount new.stage ≡ awaits_remount old.stage) × PassesPoint test Replay before now
Steps test before now old new _ = (recovers new.stage ≡ true) × Rolls old new × (awaits_remount new.stage ≡ awaits_remount old.stage) × IsAtNone before now
