-- The fault injector's count of faults beside the fault records, over a step of a recovery.
use Rattle.std.proofs.Common.{◌≡◌, ℕ, Bool, true, inl, inr, List, Option, None, Some, IfSome, refl, ap}
use Rattle.mb_kinds.specs.Image.{Image}
use Rattle.mb_kinds.specs.declared.faults.Kind.{Kind}
use Rattle.mb_edge.specs.declared.crossings.Crossing.{Crossing}
use Rattle.mb_edge.specs.declared.crossings.Crossings.{Crossings}
use Rattle.mb_edge.specs.declared.strokes.Stroke.{Stroke}
use Rattle.mb_core_spec.specs.State.{CoreState}
use Rattle.mb_core_state.specs.declared.answers.Phase.{Phase}
use Rattle.mb_core_state.specs.declared.answers.Phase.TheVariants as phase
use Rattle.mb_core_events.specs.Callings.{phase_now}
use Rattle.mb_recover.specs.Steps.{HasStruckCause, IsPointOf, Recovers, was_struck}
use Rattle.mb_recover.specs.declared.steps.Stepped.{Stepped as Recovered}
use Rattle.mb_recover.specs.declared.steps.Stepped.TheVariants as recovered
use Rattle.mb_run.proofs.Rising.{rises_none, rises_one}
use Rattle.mb_run.specs.CoreSight.{sight_of}
use Rattle.mb_run.specs.Recovering.{StepEndsByDevice, RunsForFlight, Steps}
use Rattle.mb_run.specs.Rising.{RisesWith}
use Rattle.mb_run.specs.Sights.{Sight}
use Rattle.mb_volume_core.specs.Answers.{stepped_as}

-- where the volume is given up at a fault point, a fault struck there
struck_point : (now : Phase) (kind : Kind) (count : ℕ) → IsPointOf now kind → was_struck (recovered.Failed count) now ≡ true
struck_point phase.Remount kind count point = refl
struck_point (phase.Replay number) kind count point = refl
struck_point phase.Idle kind count point = absurd point
struck_point phase.Unwind kind count point = absurd point
struck_point phase.Drop kind count point = absurd point
struck_point phase.Reopen kind count point = absurd point
struck_point phase.Resume kind count point = absurd point

-- a call that the disk's failure ended met no fault
device_still : (by : Option Crossings) (old new : Sight) → IfSome by (RunsForFlight old) → StepEndsByDevice by old new → new.records ≡ old.records
device_still None old new runs ends = ap (λ (s : Sight). s.records) ends
device_still (Some asks) old new runs ends = (ends runs.0 runs.1).stays.records

module _ {F D : Type 0} (told : D → Option Image) (faults : D → ℕ) (core new : CoreState F D) (by after : Option Crossings) (test : Option (Crossing → Bool)) (strokes : List Stroke) (before now : ℕ) where
  abbrev Rises : Type 0
  Rises = RisesWith before now core.journal.records new.journal.records

  still : (answer : Recovered) → HasStruckCause (phase_now core) before now answer → new.journal.records ≡ core.journal.records → Rises
  still answer cause same = rises_none before now core.journal.records new.journal.records cause.later same

  -- the recovery was struck
  again : (count : ℕ) → HasStruckCause (phase_now core) before now (recovered.Again count) → Recovers told faults core new by test strokes (recovered.Again count) → Rises
  again count cause is = elim is [
    | inl plainly ↦ absurd plainly
    | inr others ↦ elim others [
      | inl drops ↦ absurd drops
      | inr more ↦ elim more [
        | inl remounts ↦ absurd remounts
        | inr rest ↦ elim rest [
          | inl replays ↦ absurd replays
          | inr met ↦ rises_one before now core.journal.records new.journal.records _ cause.later (cause.struck refl) (ap (λ (c : CoreState F D). c.journal.records) met.struck.2)
        ]
      ]
    ]
  ]

  -- the volume was given up: at a fault, or where the dirty pages were to be dropped
  failed : (count : ℕ) → HasStruckCause (phase_now core) before now (recovered.Failed count) → Recovers told faults core new by test strokes (recovered.Failed count) → Rises
  failed count cause is = elim is [
    | inl plainly ↦ absurd plainly
    | inr others ↦ elim others [
      | inl drops ↦ still (recovered.Failed count) cause (ap (λ (c : CoreState F D). c.journal.records) drops.3)
      | inr more ↦ elim more [
        | inl remounts ↦ absurd remounts
        | inr rest ↦ elim rest [
          | inl replays ↦ absurd replays
          | inr met ↦
              let rose = cause.struck (struck_point (phase_now core) met.at.kind count met.point) in
              rises_one before now core.journal.records new.journal.records _ cause.later rose (ap (λ (c : CoreState F D). c.journal.records) met.struck.2)
        ]
      ]
    ]
  ]

  pub rises : (answer : Recovered) → IfSome by (RunsForFlight (sight_of core)) → Recovers told faults core new by test strokes answer → Steps test by after (sight_of core) (sight_of new) (stepped_as answer) → HasStruckCause (phase_now core) before now answer → Rises
  rises (recovered.Again count) runs is steps cause = again count cause is
  rises (recovered.Failed count) runs is steps cause = failed count cause is
  rises recovered.Idle runs is steps cause = still recovered.Idle cause (ap (λ (s : Sight). s.records) steps.1)
  rises (recovered.Unwound ticket) runs is steps cause = still (recovered.Unwound ticket) cause steps.1.records
  rises recovered.Dropped runs is steps cause = still recovered.Dropped cause steps.1.records
  rises recovered.Remounted runs is steps cause = still recovered.Remounted cause steps.2.records
  rises recovered.Reopened runs is steps cause = still recovered.Reopened cause steps.1.records
  rises (recovered.Replayed number) runs is steps cause = still (recovered.Replayed number) cause steps.1.records
  rises recovered.Resumed runs is steps cause = still recovered.Resumed cause steps.2.records
  rises recovered.Device runs is steps cause = still recovered.Device cause (device_still by (sight_of core) (sight_of new) runs steps.1)
  rises recovered.NoMemory runs is steps cause = still recovered.NoMemory cause (ap (λ (s : Sight). s.records) steps)
