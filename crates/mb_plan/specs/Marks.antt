-- The marks that tell which calls have rules (this project's choice).
use Rattle.std.specs.Prelude.{ℕ, ◌+◌, ◌*◌, ◌%◌, ◌≡◌, Bool, true, false, List, All, slice_index_or}
use Rattle.mb_plan.specs.declared.rules.Rule.{Rule}

-- the slot of a call; several calls may share one
abbrev pub slot_of : ℕ → ℕ → ℕ
slot_of caller ordinal = (caller * 8192 + ordinal) % 65536

-- the slot of a call has a mark
abbrev pub is_marked : List Bool → ℕ → ℕ → Bool
is_marked marks caller ordinal = slice_index_or marks (slot_of caller ordinal) false

-- the call of each rule has a mark
abbrev pub AreMarked : List Rule → List Bool → Type 0
AreMarked rules marks = All (λ (rule : Rule). is_marked marks rule.caller rule.ordinal ≡ true) rules
