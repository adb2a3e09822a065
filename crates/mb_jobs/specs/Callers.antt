-- A job's callers: `NAME UID GID`, with NAME a letter from `a` (97) to `h` (104).
use Rattle.std.specs.Prelude.{List, [], ◌∷◌, ℕ, ◌&&◌, Bool, nat_eq, nat_le, length, Option, Some, None, if◌then◌else◌}
use Rattle.std.specs.List.{list_any}
use Rattle.std.specs.Result.{result_ok}
use Rattle.mb_jobs.specs.declared.jobs.Caller.{Caller}
use Rattle.mb_jobs.specs.Folds.{read_all}
use Rattle.mb_jobs.specs.Numbers.{short_in}
use Rattle.mb_jobs.specs.Words.{after_word, first_word}

-- a letter that a caller may have
abbrev pub letter_in : List ℕ → Option ℕ
letter_in (letter ∷ []) = if nat_le 97 letter && nat_le letter 104 then Some letter else None
letter_in word = None

-- a caller of a letter, a user and a group
abbrev pub caller_of : Option ℕ → Option ℕ → Option ℕ → Option Caller
caller_of (Some letter) (Some uid) (Some gid) = Some (record { letter = letter; cred = record { uid = uid; gid = gid } })
caller_of letter uid gid = None

-- the caller that a text writes
abbrev pub caller_in : List ℕ → Option Caller
caller_in text = caller_of (letter_in (first_word text)) (short_in (first_word (after_word text))) (short_in (after_word (after_word text)))

-- one of some callers has that letter
abbrev pub has_letter : List Caller → ℕ → Bool
has_letter callers letter = list_any (λ (caller : Caller). nat_eq caller.letter letter) callers

-- a caller whose letter none before has
abbrev pub new_caller : List Caller → Option Caller → Option Caller
new_caller before (Some caller) = if has_letter before caller.letter then None else Some caller
new_caller before None = None

abbrev pub next_caller : List Caller → List ℕ → Option Caller
next_caller before text = new_caller before (caller_in text)

-- 1 to 8 callers
abbrev pub callers_in : List (List ℕ) → Option (List Caller)
callers_in texts = if nat_le 1 (length texts) && nat_le (length texts) 8 then result_ok (read_all next_caller [] texts) else None

-- the caller of a job that names none: `a`, who is uid 0 and gid 0
abbrev pub the_caller : Caller
the_caller = record { letter = 97; cred = record { uid = 0; gid = 0 } }
