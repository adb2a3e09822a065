-- A fault injector's count of faults beside the fault records that came.
use Rattle.std.specs.Prelude.{ℕ, ◌+◌, ◌-◌, ◌^◌, ◌≤◌, ◌≡◌, List, length, min}
use Rattle.mb_kinds.specs.declared.faults.FaultRecord.{FaultRecord}

-- the count never falls, and with each fault record that came it rose by one at least; it stays at the greatest u64
pub record RisesWith (before now : ℕ) (old new : List FaultRecord) : Type 0 where
  pub later : before ≤ now
  pub more : ℕ
  pub longer : length new ≡ length old + more
  pub rose : min (before + more) (2 ^ 64 - 1) ≤ now
