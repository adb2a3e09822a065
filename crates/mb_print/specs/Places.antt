-- Where each caller stands in a list of calls: the calls before its place are taken.
use Rattle.std.specs.Prelude.{List, [], ◌∷◌, ℕ, nat_eq, drop, filter, slice_index}
use Rattle.mb_jobs.specs.declared.jobs.JobCall.{JobCall}

-- a caller's own calls, in order
abbrev pub own_calls : ℕ → List JobCall → List JobCall
own_calls caller calls = filter (λ (call : JobCall). nat_eq call.caller caller) calls

-- a caller's own calls from its place on
abbrev pub left_of : List JobCall → List ℕ → ℕ → List JobCall
left_of calls places caller = own_calls caller (drop (slice_index places caller) calls)

-- the text of the first of some calls
abbrev pub head_text : List JobCall → List ℕ
head_text [] = []
head_text (call ∷ more) = call.text
