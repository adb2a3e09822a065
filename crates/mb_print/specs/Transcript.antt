-- The printed text of a history: a line for each entry, in order, and the line at the end of a run.
use Rattle.std.specs.Prelude.{List, [], ◌∷◌, ◌++◌, ℕ, ◌+◌, Bool, true, false, nat_eq, codes, decimal, length, slice_get, if◌then◌else◌}
use Rattle.std.specs.List.{count_by}
use Rattle.std.specs.Option.{option_map_or}
use Rattle.mb_kinds.specs.declared.entries.Entry.{Entry}
use Rattle.mb_kinds.specs.declared.replies.Reply.{Reply}
use Rattle.mb_kinds.specs.declared.replies.Reply.TheVariants.{Refused, Restart}
use Rattle.mb_jobs.specs.declared.jobs.Caller.{Caller}
use Rattle.mb_jobs.specs.declared.jobs.Job.{Job}
use Rattle.mb_jobs.specs.declared.jobs.JobCall.{JobCall}
use Rattle.mb_print.specs.Replies.{reply_text}

-- the letter of a caller, or nothing where the job has no such caller
abbrev pub letter_text : List Caller → ℕ → List ℕ
letter_text callers caller = option_map_or (λ (one : Caller). one.letter ∷ []) (slice_get callers caller) []

-- the text of a caller's first call, or nothing where it has none
abbrev pub first_text : ℕ → List JobCall → List ℕ
first_text caller [] = []
first_text caller (call ∷ more) = if nat_eq call.caller caller then call.text else first_text caller more

-- the calls without that one
abbrev pub without_first : ℕ → List JobCall → List JobCall
without_first caller [] = []
without_first caller (call ∷ more) = if nat_eq call.caller caller then more else call ∷ without_first caller more

-- `N CALLER TEXT = REPLY`, ended by a newline (10)
abbrev pub line_text : ℕ → List ℕ → List ℕ → Reply → List ℕ
line_text number letter text reply =
    decimal number ++ codes " " ++ letter ++ codes " " ++ text ++ codes " = " ++ reply_text reply ++ 10 ∷ []

-- the lines of some entries, of which the first has a number: each takes its caller's first call of those that are left, so
-- that the k-th entry of a caller carries the text of its k-th call
abbrev pub lines_from : List Caller → List JobCall → ℕ → List Entry → List ℕ
lines_from callers calls number [] = []
lines_from callers calls number (entry ∷ more) =
    line_text number (letter_text callers entry.caller) (first_text entry.caller calls) entry.reply
    ++ lines_from callers (without_first entry.caller calls) (number + 1) more

abbrev pub transcript_text : Job → List Entry → List ℕ
transcript_text job history = lines_from job.callers job.calls 1 history

-- a label and N entries, F fault records, and K entries at the last seal
abbrev pub counts_text : List ℕ → ℕ → ℕ → ℕ → List ℕ
counts_text label entries faults seal = label ++ decimal entries ++ codes " faults " ++ decimal faults ++ codes " seal " ++ decimal seal ++ 10 ∷ []

-- `end N faults F seal K` at the end of a run, and `failed N faults F seal K` where the volume has failed
abbrev pub end_text : ℕ → ℕ → ℕ → List ℕ
end_text entries faults seal = counts_text (codes "end ") entries faults seal

abbrev pub failed_text : ℕ → ℕ → ℕ → List ℕ
failed_text entries faults seal = counts_text (codes "failed ") entries faults seal

abbrev pub refuses : Reply → Bool
refuses (Refused error) = true
refuses _ = false

abbrev pub restarts : Reply → Bool
restarts (Restart first second) = true
restarts _ = false

-- a call that was refused, and one that two faults struck
abbrev pub is_refused : Entry → Bool
is_refused entry = refuses entry.reply

abbrev pub is_restart : Entry → Bool
is_restart entry = restarts entry.reply

-- `soak entries N faults F refused R restarts T seal K`, of a whole history
abbrev pub soak_text : List Entry → ℕ → ℕ → List ℕ
soak_text history faults seal =
    codes "soak entries " ++ decimal (length history) ++ codes " faults " ++ decimal faults ++ codes " refused " ++ decimal (count_by is_refused history)
    ++ codes " restarts " ++ decimal (count_by is_restart history) ++ codes " seal " ++ decimal seal ++ 10 ∷ []
