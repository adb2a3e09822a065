-- What contracts see of a core of many callers, and of each caller.
use Rattle.std.specs.Prelude.{List, ℕ, Bool, Option, Some, None, slice_get, filter, nat_eq}
use Rattle.mb_kinds.specs.declared.entries.Entry.{Entry}
use Rattle.mb_kinds.specs.declared.entries.Flight.{Flight}
use Rattle.mb_kinds.specs.declared.entries.Stand.{Stand}
use Rattle.mb_kinds.specs.declared.faults.FaultRecord.{FaultRecord}
use Rattle.mb_kinds.specs.declared.replies.Reply.{Reply}
use Rattle.mb_gate.specs.declared.ulogs.Undo.{Undo}
use Rattle.mb_oplog.specs.declared.oplogs.Logged.{Logged}
use Rattle.mb_cache.specs.State.{CacheState}
use Rattle.mb_core_spec.specs.Copies.{LiveTables, PagesState}
use Rattle.mb_core_spec.specs.declared.config.Config.{Config}
use Rattle.mb_core_spec.specs.declared.stages.Stage.{Stage}
use Rattle.mb_core_spec.specs.declared.steps.Step.{Step}

-- how many operations, entries, fault records and steps of the trace are taken without memory
pub record JournalRoom : Type 0 where
  pub oplog : ℕ
  pub history : ℕ
  pub records : ℕ
  pub trail : ℕ

-- the history of answered calls, the fault records, the event trace, the operations since the last checkpoint, and
-- at how many entries that checkpoint was taken
pub record JournalState : Type 0 where
  pub history : List Entry
  pub records : List FaultRecord
  pub trail : List Step
  pub oplog : List Logged
  pub sealed_at : ℕ
  pub room : JournalRoom

-- what is kept of one caller: how many calls it began, its call in flight, the reply of a call that has its entry,
-- whether the call is inside, what it did that is taken back (the newest last), the descriptor that it reserved, how
-- often its ticket was answered that a copy is stale, and what it gathered
pub record CallerState : Type 0 where
  pub begun : ℕ
  pub flight : Option Flight
  pub answer : Option Reply
  pub inside : Bool
  pub undo : List Undo
  pub reserved : Option ℕ
  pub stales : ℕ
  pub pages : PagesState

-- a core: the disk as it was at the beginning, the file system, the page cache, the sessions and the table of open
-- files, the journal, the callers, who has the right to commit alone, where the volume stands, how many faults struck
-- a running volume since the beginning (the incarnation), and what the core was begun with
pub record CoreState (F D : Type 0) : Type 0 where
  pub first : D
  pub fs : F
  pub cache : CacheState D
  pub tables : LiveTables
  pub journal : JournalState
  pub callers : List CallerState
  pub floor : Option ℕ
  pub stage : Stage
  pub incarnation : ℕ
  pub config : Config

-- the fault records of a caller, in order
abbrev pub records_of : List FaultRecord → ℕ → List FaultRecord
records_of records caller = filter (λ (r : FaultRecord). nat_eq r.caller caller) records

-- the public per-caller state: calls begun, the call in flight, and the caller's fault records
abbrev pub stand_at : List FaultRecord → ℕ → Option CallerState → Option Stand
stand_at records caller None = None
stand_at records caller (Some mine) = Some (record { begun = mine.begun; flight = mine.flight; struck = records_of records caller })

abbrev pub stand_of : {F D : Type 0} → CoreState F D → ℕ → Option Stand
stand_of core caller = stand_at core.journal.records caller (slice_get core.callers caller)
