-- The text that orders the steps of a job.
use Rattle.std.specs.Prelude.{List, ℕ, ◌+◌, ◌==◌, ◌||◌, Bool, not, nat_eq, nat_lt, length, Option, Some, None, if◌then◌else◌}
use Rattle.std.specs.List.{list_any, position_or_len}
use Rattle.mb_jobs.specs.declared.jobs.Caller.{Caller}

-- a letter of a caller, small, or as the capital 32 places before it
abbrev pub names_caller : List Caller → ℕ → Bool
names_caller callers byte = list_any (λ (caller : Caller). nat_eq caller.letter byte || nat_eq caller.letter (byte + 32)) callers

-- such a letter, or `=` (61), `>` (62), `*` (42) or a blank (32)
abbrev pub is_order_byte : List Caller → ℕ → Bool
is_order_byte callers byte = (((byte == 61 || byte == 62) || byte == 42) || byte == 32) || names_caller callers byte

-- the first character that is none of these, counted from 1; those before it are bytes
abbrev pub bad_place : List Caller → List ℕ → ℕ
bad_place callers text = position_or_len (λ (byte : ℕ). not (is_order_byte callers byte)) text

abbrev pub first_bad : List Caller → List ℕ → Option ℕ
first_bad callers text = if nat_lt (bad_place callers text) (length text) then Some (bad_place callers text + 1) else None

-- the same of an order that may be left out
abbrev pub bad_in : List Caller → Option (List ℕ) → Option ℕ
bad_in callers (Some text) = first_bad callers text
bad_in callers None = None
