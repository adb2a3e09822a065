-- Worked examples: definitions evaluated on small cores.
use Rattle.std.specs.Prelude.{List, [], ◌∷◌, ℕ, ◌+◌, ◌≡◌, Bool, true, false, Some, None, drop}
use Rattle.mb_kinds.specs.declared.calls.Call.{Call}
use Rattle.mb_kinds.specs.declared.entries.Entry.{Entry}
use Rattle.mb_kinds.specs.declared.faults.FaultRecord.{FaultRecord}
use Rattle.mb_kinds.specs.declared.faults.Kind.TheVariants.{Enter, Finish, Replay}
use Rattle.mb_kinds.specs.declared.faults.Ticket.{Ticket}
use Rattle.mb_kinds.specs.declared.replies.Reply.TheVariants.{Num}
use Rattle.mb_tree.specs.CarriedOut.{PickedOp, operations}
use Rattle.mb_tree.specs.History.{after_first}
use Rattle.mb_tree.specs.declared.machines.Machine.{Machine}
use Rattle.mb_tree.specs.declared.operations.FsOp.TheVariants.{Put}
use Rattle.mb_core_spec.specs.Begun.{idle}
use Rattle.mb_core_spec.specs.Callers.{begun}
use Rattle.mb_core_spec.specs.Events.{begins, floor_after, without}
use Rattle.mb_core_spec.specs.Faults.{IsTwice}
use Rattle.mb_core_spec.specs.Histories.{IsLogOf, all_parts, relogged}
use Rattle.mb_core_spec.specs.Numbers.{OwnsEntries}
use Rattle.mb_core_spec.specs.State.{CallerState}
use Rattle.mb_core_spec.specs.Trail.{Place, folds, next, watch_from}
use Rattle.mb_core_spec.specs.Trail.Mode.{Runs}
use Rattle.mb_core_spec.specs.declared.steps.Step.{Step}
use Rattle.mb_core_spec.specs.declared.steps.Step.TheVariants as step

-- the ticket of a caller's first call in an incarnation
abbrev pub first_ticket : ℕ → ℕ → Ticket
first_ticket caller incarnation = record { caller = caller; ordinal = 1; incarnation = incarnation; moment = 1001 + caller }

-- a place outside, after a first call that was logged or not
abbrev pub out_of_first : ℕ → Bool → Place
out_of_first incarnation logged = record { ordinal = 1; incarnation = incarnation; inside = false; logged = logged }

-- two callers create one file: both enter, the second is logged first, so the first's copies are stale; it gathers anew, and both
-- leave with their entries
abbrev pub raced_creat : List Step
raced_creat = step.Entered (first_ticket 0 0) ∷ step.Entered (first_ticket 1 0) ∷ step.Logged (first_ticket 1 0) ∷ step.Left (first_ticket 1 0)
    ∷ step.Stale (first_ticket 0 0) 2 ∷ step.Logged (first_ticket 0 0) ∷ step.Left (first_ticket 0 0) ∷ []

-- the steps of a recovery with no operation in the log, of a first call that was inside
abbrev pub recovered : ℕ → ℕ → List Step → List Step
recovered number incarnation later = step.Struck number ∷ step.Unwound (first_ticket 0 incarnation) ∷ step.Dropped ∷ step.Remounted ∷ step.Reopened ∷ step.Resumed ∷ later

-- a call that a fault strikes in two incarnations
abbrev pub struck_twice : List Step
struck_twice = step.Entered (first_ticket 0 0) ∷ recovered 1 0 (step.Entered (first_ticket 0 1) ∷ recovered 2 1 [])

-- a call that a fault strikes, with another fault at the remount: it enters again in incarnation 1
abbrev pub struck_in_recovery : List Step
struck_in_recovery = step.Entered (first_ticket 0 0) ∷ step.Struck 1 ∷ step.Unwound (first_ticket 0 0) ∷ step.Dropped ∷ step.Struck 2 ∷ step.Dropped ∷ step.Remounted ∷ step.Reopened ∷ step.Resumed
    ∷ step.Entered (first_ticket 0 1) ∷ []

-- what the traces come to
abbrev pub WorkedTraces : Type 0
WorkedTraces =
    (folds next (watch_from 2) raced_creat ≡ Some (record { mode = Runs; struck = 0; since = 2; sealed = 0; places = out_of_first 0 true ∷ out_of_first 0 true ∷ [] }))
    × (folds next (watch_from 1) struck_twice ≡ Some (record { mode = Runs; struck = 2; since = 0; sealed = 0; places = out_of_first 1 false ∷ [] }))
    × (folds next (watch_from 1) struck_in_recovery ≡ Some (record { mode = Runs; struck = 2; since = 0; sealed = 0; places = record { ordinal = 1; incarnation = 1; inside = true; logged = false } ∷ [] }))

-- steps that are refused: a call logged twice; a ticket entered twice; a fault between the start of the file system and the restoring
-- of the open files; an operation done again that was not logged; a volume that runs again before the dirty pages were dropped
abbrev pub RefusedTraces : Type 0
RefusedTraces =
    (folds next (watch_from 1) (step.Entered (first_ticket 0 0) ∷ step.Logged (first_ticket 0 0) ∷ step.Logged (first_ticket 0 0) ∷ []) ≡ None)
    × (folds next (watch_from 1) (step.Entered (first_ticket 0 0) ∷ step.Entered (first_ticket 0 0) ∷ []) ≡ None)
    × (folds next (watch_from 1) (step.Struck 1 ∷ step.Dropped ∷ step.Remounted ∷ step.Struck 2 ∷ []) ≡ None)
    × (folds next (watch_from 1) (step.Struck 1 ∷ step.Dropped ∷ step.Remounted ∷ step.Reopened ∷ step.Replayed 1 ∷ []) ≡ None)
    × (folds next (watch_from 1) (step.Struck 1 ∷ step.Resumed ∷ []) ≡ None)

-- the fault records of a call that met two faults of its own, with one of a recovery between them
abbrev pub two_faults : List FaultRecord
two_faults = record { caller = 0; ordinal = 1; kind = Enter; nth = 1 } ∷ record { caller = 0; ordinal = 1; kind = Replay; nth = 1 } ∷ record { caller = 0; ordinal = 1; kind = Finish; nth = 2 } ∷ []

-- records 1 and 3 are the two; record 2 is none of its own
abbrev pub WorkedRecords : Type 0
WorkedRecords = IsTwice two_faults 0 1 1 3 × (IsTwice two_faults 0 1 1 2 → ⊥)

-- a caller with its first call in flight
abbrev pub with_first : Call → ℕ → CallerState
with_first call moment = record idle { begun = 1; flight = Some (record { call = call; ordinal = 1; moment = moment; ticket = None; answered = false }) }

-- two callers begin their first calls, the second caller first: moments follow the order in which calls begin, ordinals each caller's own
abbrev pub WorkedNumbers : Type 0
WorkedNumbers = (call other : Call) →
    (begins 1000 (idle ∷ idle ∷ []) idle call ≡ with_first call 1001)
    × (begins 1000 (idle ∷ with_first call 1001 ∷ []) idle other ≡ with_first other 1002)
    × (begun (with_first other 1002 ∷ with_first call 1001 ∷ []) ≡ 2)

-- a caller's entry of its call with that ordinal
abbrev pub answered_entry : Call → ℕ → Entry
answered_entry call ordinal = record { caller = 1; ordinal = ordinal; call = call; pick = None; moment = 1000 + ordinal; reply = Num 0 }

-- a caller began three calls: two have their entries, and the third is in flight; or the second quit, and the third has its
-- entry. Without a call that quit the third entry is not the second one
abbrev pub WorkedCounts : Type 0
WorkedCounts = (call : Call) →
    OwnsEntries (answered_entry call 1 ∷ answered_entry call 2 ∷ []) (record (with_first call 1003) { begun = 3 })
    × OwnsEntries (answered_entry call 1 ∷ answered_entry call 3 ∷ []) (record idle { begun = 3 })
    × (OwnsEntries (answered_entry call 1 ∷ answered_entry call 3 ∷ []) (record idle { begun = 2 }) → ⊥)

-- one byte put behind the others of a file
abbrev pub put_one : ℕ → ℕ → PickedOp
put_one offset byte = record { op = Put 3 offset (byte ∷ []) (1001 + offset); pick = None }

abbrev pub first_two : PickedOp
first_two = record { op = Put 3 0 (97 ∷ 98 ∷ []) 1002; pick = None }

abbrev pub all_three : PickedOp
all_three = record { op = Put 3 0 (97 ∷ 98 ∷ 99 ∷ []) 1003; pick = None }

-- two writes in a row are folded by a recovery, a third one behind them comes later and stays until the next recovery folds all
abbrev pub two_parts : List (List PickedOp)
two_parts = (put_one 2 99 ∷ []) ∷ (put_one 0 97 ∷ put_one 1 98 ∷ []) ∷ []

abbrev pub WorkedLogs : Type 0
WorkedLogs =
    (relogged two_parts ≡ first_two ∷ put_one 2 99 ∷ [])
    × (relogged ([] ∷ two_parts) ≡ all_three ∷ [])
    × (all_parts two_parts ≡ put_one 0 97 ∷ put_one 1 98 ∷ put_one 2 99 ∷ [])

-- the logs that three entries may have, those with these writes
abbrev pub WorkedLogsOf : Type 0
WorkedLogsOf = (machine : Machine) (history : List Entry) (sealed_at : ℕ)
    → operations (after_first machine history sealed_at) (drop sealed_at history) ≡ put_one 0 97 ∷ put_one 1 98 ∷ put_one 2 99 ∷ []
    → IsLogOf machine history sealed_at (put_one 0 97 ∷ put_one 1 98 ∷ put_one 2 99 ∷ [])
    × IsLogOf machine history sealed_at (first_two ∷ put_one 2 99 ∷ [])
    × IsLogOf machine history sealed_at (all_three ∷ [])

-- the fourth stale answer gives the right to commit alone, a fifth one leaves it, and giving it back is no other caller's
abbrev pub WorkedFloor : Type 0
WorkedFloor = (floor_after 2 2 None ≡ None) × (floor_after 2 3 None ≡ Some 2) × (floor_after 2 4 (Some 2) ≡ Some 2) × (without 2 (Some 2) ≡ None) × (without 1 (Some 2) ≡ Some 2)
