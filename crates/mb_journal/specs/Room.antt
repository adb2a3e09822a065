-- The room of a journal: what is added to it without memory.
use Rattle.std.specs.Prelude.{◌≤◌, ◌+◌}
use Rattle.mb_core_spec.specs.State.{JournalRoom}

-- no room is lost
pub record KeepsRoom (old new : JournalRoom) : Type 0 where
  pub oplog : old.oplog ≤ new.oplog
  pub history : old.history ≤ new.history
  pub records : old.records ≤ new.records
  pub trail : old.trail ≤ new.trail

-- what a call that enters wants, with all that the other calls inside may come to: an entry and an operation for each of
-- eight callers, a fault, and twelve steps of the trace, which are the call's own step, one for each of eight callers that
-- leaves or is unwound, a fault's with the step after its unwinding, and a checkpoint's
pub record HasEntryRoom (room : JournalRoom) : Type 0 where
  pub oplog : 8 ≤ room.oplog
  pub history : 8 ≤ room.history
  pub records : 1 ≤ room.records
  pub trail : 12 ≤ room.trail

-- a fault took a record and one step of the trace, and nothing else
pub record LeavesFault (old left : JournalRoom) : Type 0 where
  pub records : old.records ≤ left.records + 1
  pub trail : old.trail ≤ left.trail + 1
  pub history : old.history ≤ left.history
  pub oplog : old.oplog ≤ left.oplog
