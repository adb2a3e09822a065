-- A call's own faults among the fault records.
use Rattle.std.specs.Prelude.{List, ℕ, ◌<◌, ◌≤◌, Option, None, Some}
use Rattle.mb_kinds.specs.declared.faults.FaultRecord.{FaultRecord}
use Rattle.mb_core_spec.specs.Faults.{IsTwice, Names}

-- none of the numbers above one, up to another, names a fault of the call's own
abbrev pub HasNoOwn : List FaultRecord → ℕ → ℕ → ℕ → ℕ → Type 0
HasNoOwn records caller ordinal above upto = (number : ℕ) → above < number → number ≤ upto → Names records caller ordinal number → ⊥

-- the least number above one that names a fault of the call's own
pub record IsNextOwn (records : List FaultRecord) (caller ordinal above number : ℕ) : Type 0 where
  pub later : above < number
  pub names : Names records caller ordinal number
  pub least : (other : ℕ) → above < other → other < number → Names records caller ordinal other → ⊥

-- the call met two faults of its own, of which these are the first; or it did not
abbrev pub TellsTwice : List FaultRecord → ℕ → ℕ → Option (ℕ × ℕ) → Type 0
TellsTwice records caller ordinal None = (first second : ℕ) → IsTwice records caller ordinal first second → ⊥
TellsTwice records caller ordinal (Some pair) = IsNextOwn records caller ordinal 0 pair.0 × IsNextOwn records caller ordinal pair.0 pair.1
