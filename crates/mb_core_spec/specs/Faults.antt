-- The fault records: which answers they explain, and how many there may be.
use Rattle.std.specs.Prelude.{List, ℕ, ◌+◌, ◌-◌, ◌^◌, ◌<◌, ◌≤◌, ◌≡◌, Bool, true, false, Some, slice_get, count_by}
use Rattle.mb_kinds.specs.declared.entries.Entry.{Entry}
use Rattle.mb_kinds.specs.declared.faults.FaultRecord.{FaultRecord}
use Rattle.mb_kinds.specs.declared.faults.Kind.{Kind}
use Rattle.mb_kinds.specs.declared.faults.Kind.TheVariants.{Enter, Gather, Finish}
use Rattle.mb_kinds.specs.declared.replies.Reply.{Reply}
use Rattle.mb_kinds.specs.declared.replies.Reply.TheVariants as reply
use Rattle.mb_core_spec.specs.declared.stages.Stage.{Stage}
use Rattle.mb_core_spec.specs.declared.stages.Stage.TheVariants as stage

-- a fault that counts as its call's own
abbrev pub IsOwn : Kind → Type 0
IsOwn Enter = Unit {0}
IsOwn Gather = Unit {0}
IsOwn Finish = Unit {0}
IsOwn _ = ⊥

-- a number, counted from 1, names a record of that call, of a fault that is its own
pub record Names (records : List FaultRecord) (caller ordinal number : ℕ) : Type 0 where
  pub place : ℕ
  pub counted : number ≡ place + 1
  pub fault : FaultRecord
  pub at : slice_get records place ≡ Some fault
  pub caller_is : fault.caller ≡ caller
  pub ordinal_is : fault.ordinal ≡ ordinal
  pub own : IsOwn fault.kind

-- a call met two faults of its own
pub record IsTwice (records : List FaultRecord) (caller ordinal first second : ℕ) : Type 0 where
  pub rising : first < second
  pub one : Names records caller ordinal first
  pub other : Names records caller ordinal second

-- what an entry's reply says of the records and of the volume: a call that is given up met two faults of its own, and
-- one of a volume that failed was answered after it failed
abbrev pub Says : List FaultRecord → ℕ → Stage → ℕ → ℕ → Reply → Type 0
Says records limit now caller ordinal (reply.Restart first second) = IsTwice records caller ordinal first second
Says records limit now caller ordinal (reply.Failed faults) = (faults ≡ limit + 1) × (now ≡ stage.Failed)
Says records limit now caller ordinal _ = Unit {0}

-- how many records there may be: one more than the limit only where the volume was struck just now or has failed
abbrev pub MayNumber : ℕ → ℕ → Stage → Type 0
MayNumber count limit stage.Struck = count ≤ limit + 1
MayNumber count limit stage.Again = count ≤ limit + 1
MayNumber count limit stage.Failed = count ≡ limit + 1
MayNumber count limit _ = count ≤ limit

-- ---- the disk's own faults

abbrev pub is_device : Reply → Bool
is_device reply.Device = true
is_device _ = false

-- the disk's count of faults rose at least once for each call that it ended, as long as the count is not the greatest
abbrev pub FewDevices : ℕ → ℕ → List Entry → Type 0
FewDevices before now history = now < 2 ^ 64 - 1 → count_by (λ (entry : Entry). is_device entry.reply) history + before ≤ now
