-- How a rule with refusals is written: line after line, where the first line that refuses is the answer.
use Rattle.std.specs.Prelude.{Bool, if◌then◌else◌, Option, Some, None, Result, Ok, Err}
use Rattle.mb_kinds.specs.declared.errors.Errno.{Errno}

-- a value, or the error that a call is refused with
abbrev pub Answer : Type 0 → Type 0
Answer A = Result A Errno

infixl 10 ◌>>=◌ ◌>>◌
-- go on with the value of the line before
abbrev pub ◌>>=◌ : {A B : Type 0} → Answer A → (A → Answer B) → Answer B
Ok x >>= next = next x
Err e >>= next = Err e

-- go on after a line that gives no value
abbrev pub ◌>>◌ : {A B : Type 0} → Answer A → Answer B → Answer B
Ok x >> next = next
Err e >> next = Err e

-- refused with e where the test is false
abbrev pub need : Bool → Errno → Answer (Unit {0})
need test e = if test then Ok tt else Err e

-- the value, refused with e where there is none
abbrev pub some : {A : Type 0} → Option A → Errno → Answer A
some (Some x) e = Ok x
some None e = Err e
