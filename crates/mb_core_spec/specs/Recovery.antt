-- What a checkpoint, a fault and each step of a recovery make of a core.
use Rattle.std.specs.Prelude.{List, [], ◌∷◌, ◌++◌, ℕ, ◌+◌, false, length}
use Rattle.mb_kinds.specs.declared.faults.FaultRecord.{FaultRecord}
use Rattle.mb_kinds.specs.declared.faults.Kind.{Kind}
use Rattle.mb_kinds.specs.declared.faults.Ticket.{Ticket}
use Rattle.mb_edge.specs.Damage.{OpenCounts, damaged}
use Rattle.mb_edge.specs.declared.strokes.Stroke.{Stroke}
use Rattle.mb_cache.specs.Pages.{PageList}
use Rattle.mb_cache.specs.Stamps.{Stamps}
use Rattle.mb_cache.specs.State.{CacheState}
use Rattle.mb_oplog.specs.declared.oplogs.Logged.{Logged}
use Rattle.mb_core_spec.specs.Events.{given_back, marked}
use Rattle.mb_core_spec.specs.State.{CallerState, CoreState, JournalState}
use Rattle.mb_core_spec.specs.declared.stages.Stage.TheVariants as stage
use Rattle.mb_core_spec.specs.declared.steps.Step.TheVariants as step

-- ---- a checkpoint

-- the log is empty after it, and says at how many entries it was taken
abbrev pub checkpointed : JournalState → JournalState
checkpointed journal = record (marked journal (step.Sealed (length journal.history))) { oplog = []; sealed_at = length journal.history }

-- the current pages lie over the checkpointed ones, the sessions are saved, and the log is empty
abbrev pub sealing : {F D : Type 0} → CoreState F D → PageList → CoreState F D
sealing core sealed = record core {
  cache = record core.cache { sealed = sealed; current = [] };
  tables = record core.tables { saved = core.tables.sessions };
  journal = checkpointed core.journal;
}

-- a checkpointed page is written back, or was tried
abbrev pub flushing : {F D : Type 0} → CoreState F D → D → PageList → CoreState F D
flushing core disk sealed = record core { cache = record core.cache { disk = disk; sealed = sealed } }

-- ---- a fault

-- its record, and the step of the trace
abbrev pub with_fault : JournalState → FaultRecord → JournalState
with_fault journal fault = record journal { records = journal.records ++ fault ∷ []; trail = journal.trail ++ step.Struck (length journal.records + 1) ∷ [] }

abbrev pub recorded : JournalState → ℕ → ℕ → Kind → ℕ → JournalState
recorded journal caller ordinal kind nth = with_fault journal (record { caller = caller; ordinal = ordinal; kind = kind; nth = nth })

-- a fault on a running volume: it damages current pages and counts of open files
abbrev pub striking : {F D : Type 0} → CoreState F D → Ticket → Kind → ℕ → List Stroke → CoreState F D
striking core ticket kind nth strokes = record core {
  cache = record core.cache { current = (damaged (record { pages = core.cache.current; opens = core.tables.opens }) strokes).pages };
  tables = record core.tables { opens = (damaged (record { pages = core.cache.current; opens = core.tables.opens }) strokes).opens };
  journal = recorded core.journal ticket.caller ticket.ordinal kind nth;
  stage = stage.Struck;
  incarnation = core.incarnation + 1;
}

-- a fault in a recovery, which then begins anew: it is recorded for the call that recovers, which may have no ticket; nobody is
-- inside, so no ticket has to grow old, and the incarnation stays
abbrev pub striking_again : {F D : Type 0} → CoreState F D → ℕ → ℕ → Kind → ℕ → List Stroke → CoreState F D
striking_again core caller ordinal kind nth strokes = record core {
  cache = record core.cache { current = (damaged (record { pages = core.cache.current; opens = core.tables.opens }) strokes).pages };
  tables = record core.tables { opens = (damaged (record { pages = core.cache.current; opens = core.tables.opens }) strokes).opens };
  journal = recorded core.journal caller ordinal kind nth;
  stage = stage.Again;
}

-- ---- the steps of a recovery

-- a call is unwound: what it did is taken back, and it stays a call in flight
abbrev pub unwinding : {F D : Type 0} → CoreState F D → ℕ → CallerState → Ticket → Stamps → CoreState F D
unwinding core caller mine ticket pins = record (given_back core caller (record mine { inside = false }) pins) { journal = marked core.journal (step.Unwound ticket) }

-- the dirty pages are dropped
abbrev pub dropping : {F D : Type 0} → CoreState F D → CoreState F D
dropping core = record core { cache = record core.cache { current = [] }; journal = marked core.journal step.Dropped; stage = stage.Dropped }

-- the volume is given up
abbrev pub failing : {F D : Type 0} → CoreState F D → CoreState F D
failing core = record core { cache = record core.cache { current = [] }; journal = marked core.journal (step.Failed (length core.journal.records)); stage = stage.Failed }

-- the file system is started anew on the disk, with a log that was folded
abbrev pub remounting : {F D : Type 0} → CoreState F D → D → List Logged → CoreState F D
remounting core disk oplog = record core {
  cache = record core.cache { disk = disk };
  journal = record (marked core.journal step.Remounted) { oplog = oplog };
  stage = stage.Remounted;
}

-- the open files are those of the saved sessions
abbrev pub reopening : {F D : Type 0} → CoreState F D → OpenCounts → CoreState F D
reopening core opens = record core { tables = record core.tables { opens = opens }; journal = marked core.journal step.Reopened; stage = stage.Restored 0 }

-- operation number done + 1 of the log is done again
abbrev pub replaying : {F D : Type 0} → CoreState F D → CacheState D → OpenCounts → ℕ → CoreState F D
replaying core cache opens done = record core {
  cache = record core.cache { disk = cache.disk; current = cache.current; stamps = cache.stamps; room = cache.room };
  tables = record core.tables { opens = opens };
  journal = marked core.journal (step.Replayed (done + 1));
  stage = stage.Restored (done + 1);
}

-- the volume runs again
abbrev pub resuming : {F D : Type 0} → CoreState F D → CoreState F D
resuming core = record core { journal = marked core.journal step.Resumed; stage = stage.Running }
