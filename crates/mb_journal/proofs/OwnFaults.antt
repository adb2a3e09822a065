-- Where a call met fewer than two faults of its own.
use Rattle.std.proofs.Common.{ℕ, ◌<◌, ◌≤◌, List, length, inl, inr, arith}
use Rattle.std.proofs.lemmas.Bool.{cases_lt}
use Rattle.std.proofs.lemmas.Option.{slice_get_within}
use Rattle.mb_kinds.specs.declared.faults.FaultRecord.{FaultRecord}
use Rattle.mb_core_spec.specs.Faults.{IsTwice, Names}
use Rattle.mb_journal.specs.Faults.{HasNoOwn, IsNextOwn}

named_within : (records : List FaultRecord) (caller ordinal number : ℕ) → Names records caller ordinal number → (0 < number) × (number ≤ length records)
named_within records caller ordinal number names =
    let within = slice_get_within records names.place names.fault names.at in
    (omega (arith, names.counted), omega (arith, names.counted, within))

-- none of its own
pub none_twice : (records : List FaultRecord) (caller ordinal : ℕ) → HasNoOwn records caller ordinal 0 (length records)
    → (first second : ℕ) → IsTwice records caller ordinal first second → ⊥
none_twice records caller ordinal none first second twice =
    let within = named_within records caller ordinal first twice.one in
    none first within.0 within.1 twice.one

-- one of its own, and none after it
pub once_only : (records : List FaultRecord) (caller ordinal number : ℕ) → IsNextOwn records caller ordinal 0 number → HasNoOwn records caller ordinal number (length records)
    → (first second : ℕ) → IsTwice records caller ordinal first second → ⊥
once_only records caller ordinal number own none first second twice =
    elim (cases_lt number second) [
      | inl later ↦ none second later (named_within records caller ordinal second twice.other).1 twice.other
      | inr low ↦ own.least first (named_within records caller ordinal first twice.one).0 (omega (arith, twice.rising, low)) twice.one
    ]
