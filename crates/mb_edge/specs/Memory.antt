-- What contracts see of the devices in memory: what they hold, which of their calls fail, and their faults.
use Rattle.std.specs.Prelude.{ℕ, List}
use Rattle.mb_edge.specs.declared.schedules.Schedule.{Schedule}

-- the bytes that are left
pub record Input : Type 0 where
  pub left : List ℕ
  pub reads : Schedule
  pub faults : ℕ

-- the bytes taken, and how many there is room for
pub record Output : Type 0 where
  pub taken : List ℕ
  pub room : ℕ
  pub writes : Schedule
  pub faults : ℕ

-- the bytes held, and how many blocks there is room for
pub record Stored : Type 0 where
  pub bytes : List ℕ
  pub room : ℕ

-- a store whose calls may fail, by the kind of call
pub record Device : Type 0 where
  pub bytes : List ℕ
  pub room : ℕ
  pub blocks : Schedule
  pub reads : Schedule
  pub writes : Schedule
  pub faults : ℕ
