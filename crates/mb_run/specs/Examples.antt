-- Worked examples: the definitions of a run, evaluated.
use Rattle.std.specs.Prelude.{List, [], ◌∷◌, ◌++◌, ℕ, ◌+◌, ◌≡◌, true, false, None, Some}
use Rattle.mb_core_spec.specs.declared.steps.Step.{Step}
use Rattle.mb_core_spec.specs.declared.steps.Step.TheVariants as step
use Rattle.mb_jobs.specs.declared.jobs.JobCall.{JobCall}
use Rattle.mb_kinds.specs.declared.calls.Call.TheVariants.{Sync, Exit}
use Rattle.mb_kinds.specs.declared.entries.Entry.{Entry}
use Rattle.mb_kinds.specs.declared.faults.FaultRecord.{FaultRecord}
use Rattle.mb_kinds.specs.declared.faults.Kind.TheVariants.{Enter, Finish, Gather, Remount}
use Rattle.mb_kinds.specs.declared.faults.Ticket.{Ticket}
use Rattle.mb_kinds.specs.declared.replies.Reply.TheVariants as reply
use Rattle.mb_plan.specs.Fires.{fires}
use Rattle.mb_plan.specs.declared.rules.Rule.{Rule}
use Rattle.mb_run.specs.Runs.{AreNear, EntersFirst, IsStruckOnceIfPlain, TakesFaults, TakesWhereItEntered, begun_from, calm_prefix, is_near, is_struck_at, pair_rises, strikes_inside}
use Rattle.mb_run.specs.Seals.{AreInTime, is_due, is_synced, late, omitted, undue}
use Rattle.mb_run.specs.Stales.{stales_beyond, stales_since}

-- callers a and b
abbrev pub letters : List ℕ
letters = 97 ∷ 98 ∷ []

abbrev pub letter : ℕ → ℕ
letter caller = 97 + caller

abbrev pub entry : ℕ → ℕ → ℕ → Entry
entry caller ordinal moment = record { caller = caller; ordinal = ordinal; call = Sync; pick = None; moment = moment; reply = reply.Num 0 }

abbrev pub ticket : ℕ → ℕ → Ticket
ticket caller moment = record { caller = caller; ordinal = 1; incarnation = 0; moment = moment }

abbrev pub both : List JobCall
both = record { caller = 0; text = []; call = Sync } ∷ record { caller = 1; text = []; call = Sync } ∷ record { caller = 0; text = []; call = Exit } ∷ record { caller = 1; text = []; call = Exit } ∷ []

-- the order `bbaa`: b begins first, and a's entry stands first
abbrev pub bbaa : List ℕ
bbaa = 98 ∷ 98 ∷ 97 ∷ 97 ∷ []

-- the order `AB`
abbrev pub capitals : List ℕ
capitals = 65 ∷ 66 ∷ []

-- the order `A Bbba A B`
abbrev pub floored : List ℕ
floored = 65 ∷ 32 ∷ 66 ∷ 98 ∷ 98 ∷ 97 ∷ 32 ∷ 65 ∷ 32 ∷ 66 ∷ []

-- under `bbaa` b's first moment is the lower one, whoever's entry stands first; with the moments changed the test is false
abbrev pub WorkedMoments : Type 0
WorkedMoments =
    (pair_rises bbaa (entry 0 1 2 ∷ entry 1 1 1 ∷ entry 0 2 3 ∷ entry 1 2 4 ∷ []) letter 1 0 ≡ true)
    × (pair_rises bbaa (entry 0 1 1 ∷ entry 1 1 2 ∷ []) letter 1 0 ≡ false)

-- how far an order tells who enters, and who does: b before a under `bbaa`, a before b under `AB`, and a small letter after its
-- capital ends it
abbrev pub WorkedOrders : Type 0
WorkedOrders =
    (calm_prefix letters bbaa ≡ bbaa) × (begun_from both letters [] bbaa ≡ 1 ∷ 0 ∷ [])
    × (calm_prefix letters capitals ≡ capitals) × (begun_from both letters [] capitals ≡ 0 ∷ 1 ∷ [])
    × (calm_prefix letters floored ≡ 65 ∷ 32 ∷ 66 ∷ [])

-- traces that begin so; under `bbaa` it is no such trace where a entered first, nor under `AB` where a call was logged before b
-- entered
abbrev pub WorkedEntering : Type 0
WorkedEntering =
    EntersFirst both letters bbaa (step.Entered (ticket 1 1) ∷ step.Entered (ticket 0 2) ∷ step.Struck 1 ∷ [])
    × EntersFirst both letters capitals (step.Entered (ticket 0 1) ∷ step.Sealed 0 ∷ step.Entered (ticket 1 2) ∷ step.Logged (ticket 0 1) ∷ [])
    × (EntersFirst both letters bbaa (step.Entered (ticket 0 1) ∷ step.Entered (ticket 1 2) ∷ []) → ⊥)
    × (EntersFirst both letters capitals (step.Entered (ticket 0 1) ∷ step.Logged (ticket 0 1) ∷ step.Entered (ticket 1 2) ∷ []) → ⊥)

-- a call whose gather is struck at its first and its second crossing
abbrev pub struck : List FaultRecord
struck = record { caller = 0; ordinal = 2; kind = Gather; nth = 1 } ∷ record { caller = 0; ordinal = 2; kind = Gather; nth = 2 } ∷ []

-- it was struck twice before it had its entry, at both of them and at no third; a finish struck at its third crossing is no first
-- record, nor one at the second behind faults where the call gathered, and behind faults of another call nothing is struck where it
-- enters the second time. It starts the file system anew twice for these faults; another call does not, but where the disk ended one
abbrev pub WorkedFaults : Type 0
WorkedFaults =
    AreNear false [] struck × (strikes_inside struck 0 2 ≡ 2)
    × (is_struck_at struck 0 2 Gather 2 ≡ true) × (is_struck_at struck 0 2 Gather 3 ≡ false)
    × (is_near false [] 0 2 Finish 3 ≡ false) × (is_near false struck 0 1 Enter 2 ≡ false) × (is_near false struck 0 2 Finish 2 ≡ false)
    × (is_near false [] 0 2 Remount 1 ≡ false) × (is_near false struck 1 1 Remount 1 ≡ false) × (is_near true struck 1 1 Remount 1 ≡ true)
    × (is_near false struck 0 2 Remount 2 ≡ true) × (is_near false struck 0 2 Remount 3 ≡ false)

-- the rule `1 enter 0 2`, which strikes a call where it enters for the first and the second time
abbrev pub twice_entering : List Rule
twice_entering = record { caller = 0; ordinal = 1; kind = Enter; skip = 0; times = 2; damage = [] } ∷ []

abbrev pub entered_once : List FaultRecord
entered_once = record { caller = 0; ordinal = 1; kind = Enter; nth = 1 } ∷ []

abbrev pub entered_twice : List FaultRecord
entered_twice = record { caller = 0; ordinal = 1; kind = Enter; nth = 1 } ∷ record { caller = 0; ordinal = 1; kind = Enter; nth = 2 } ∷ []

-- with `1 remount 1 1` beside it, which strikes where the file system is started anew behind the second fault
abbrev pub then_remounting : List Rule
then_remounting = record { caller = 0; ordinal = 1; kind = Remount; skip = 1; times = 1; damage = [] } ∷ twice_entering

-- a call that both faults ended took them; one with a plain reply behind the first passed the second over, and none has a plain reply
-- behind both. One that a running volume told of them was struck once more where the file system was started anew, and one that the
-- disk ended need not have been. Whoever acted meanwhile, one with a plain reply entered once more than the first fault struck it
-- there, and passed the second over; one that the disk ended need not have entered again
abbrev pub WorkedTaken : Type 0
WorkedTaken =
    TakesFaults (Some (fires twice_entering)) entered_twice 0 1 0 1
    × (TakesFaults (Some (fires twice_entering)) entered_once 0 1 1 1 → ⊥)
    × (TakesFaults None entered_twice 0 1 1 1 → ⊥)
    × (TakesFaults (Some (fires then_remounting)) entered_twice 0 1 0 1 → ⊥)
    × TakesFaults (Some (fires then_remounting)) entered_twice 0 1 0 0
    × (IsStruckOnceIfPlain entered_twice (entry 0 1 1) → ⊥)
    × IsStruckOnceIfPlain entered_once (entry 0 1 1)
    × (TakesWhereItEntered (Some (fires twice_entering)) entered_once (entry 0 1 1) → ⊥)
    × TakesWhereItEntered (Some (fires twice_entering)) entered_once (record (entry 0 1 1) { reply = reply.Device })

-- a call that ended after the first one of its caller, and a sync(2) that the failed volume answered
abbrev pub ended : Entry
ended = record (entry 0 2 2) { call = Exit }

abbrev pub given_up : Entry
given_up = record (entry 0 1 1) { reply = reply.Failed 1 }

-- with a threshold of 2 a checkpoint is due after two operations and after sync(2), and not after one; behind one that was taken
-- after sync(2) stands a call that is none; a sync(2) that was not done asks for no checkpoint
abbrev pub WorkedCheckpoints : Type 0
WorkedCheckpoints =
    (is_due 2 2 Exit ≡ true) × (is_due 2 1 Exit ≡ false) × (is_due 2 0 Sync ≡ true)
    × (is_synced (entry 0 1 1) ≡ true) × (is_synced ended ≡ false) × (is_synced given_up ≡ false)
    × AreInTime 2 1 1 (entry 0 1 1 ∷ ended ∷ [])

-- two calls that are no sync(2), and their tickets
abbrev pub two : List Entry
two = record (entry 0 1 1) { call = Exit } ∷ ended ∷ []

abbrev pub first : Step
first = step.Logged (ticket 0 1)

abbrev pub second : Step
second = step.Logged (record (ticket 0 2) { ordinal = 2 })

-- with a threshold of 2 a checkpoint is due right behind the second call, and behind a sync(2); one behind the first call is not due,
-- nor one that comes after another step, nor a second one
abbrev pub WorkedUndue : Type 0
WorkedUndue =
    (undue 2 two (first ∷ second ∷ step.Sealed 2 ∷ []) ≡ 0)
    × (undue 2 two (first ∷ step.Sealed 1 ∷ second ∷ []) ≡ 1)
    × (undue 2 two (first ∷ second ∷ step.Struck 1 ∷ step.Sealed 2 ∷ []) ≡ 1)
    × (undue 2 two (first ∷ second ∷ step.Sealed 2 ∷ step.Sealed 2 ∷ []) ≡ 1)
    × (undue 2 (entry 0 1 1 ∷ []) (first ∷ step.Sealed 1 ∷ []) ≡ 0)

-- a sync(2) wants its checkpoint right behind it, and not behind another step; other calls want none
abbrev pub WorkedOmitted : Type 0
WorkedOmitted =
    (omitted (entry 0 1 1 ∷ []) (first ∷ step.Sealed 1 ∷ []) ≡ 0)
    × (omitted (entry 0 1 1 ∷ []) (first ∷ []) ≡ 1)
    × (omitted (entry 0 1 1 ∷ []) (first ∷ step.Left (ticket 0 1) ∷ step.Sealed 1 ∷ []) ≡ 1)
    × (omitted two (first ∷ second ∷ []) ≡ 0)

-- behind the failed volume's answer a call that was done is late, and another one of its is not; before it none is
abbrev pub WorkedLate : Type 0
WorkedLate =
    (late (given_up ∷ entry 0 2 2 ∷ []) ≡ 1)
    × (late (given_up ∷ record (entry 0 2 2) { reply = reply.Failed 1 } ∷ []) ≡ 0)
    × (late (entry 0 1 1 ∷ record (entry 0 2 2) { reply = reply.Failed 1 } ∷ []) ≡ 0)

-- caller 0 enters, and is told four times that a copy is stale
abbrev pub four : List Step
four = step.Entered (ticket 0 1) ∷ step.Stale (ticket 0 1) 5 ∷ step.Stale (ticket 0 1) 0 ∷ step.Stale (ticket 0 1) 5 ∷ step.Stale (ticket 0 1) 7 ∷ []

-- a fifth time is one too many for it, and for no other caller; once it entered again it may be told so again
abbrev pub WorkedStales : Type 0
WorkedStales =
    (stales_since 0 four ≡ 4) × (stales_beyond 0 four ≡ 0)
    × (stales_beyond 0 (four ++ step.Stale (ticket 0 1) 5 ∷ []) ≡ 1)
    × (stales_beyond 0 (four ++ step.Stale (ticket 1 2) 5 ∷ []) ≡ 0)
    × (stales_beyond 0 (four ++ step.Entered (record (ticket 0 1) { incarnation = 1 }) ∷ step.Stale (ticket 0 1) 5 ∷ []) ≡ 0)
