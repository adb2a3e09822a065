-- The text of one fault: `CALL KIND SKIP TIMES` and any number of strokes.
use Rattle.std.specs.Prelude.{List, [], ◌∷◌, ℕ, ◌-◌, bytes_eq, codes, length, replicate, slice_index, slice_get, Option, Some, None, Result, option_map, if◌then◌else◌}
use Rattle.std.specs.Option.{option_map_or}
use Rattle.mb_kinds.specs.declared.faults.Kind.{Kind}
use Rattle.mb_kinds.specs.declared.faults.Kind.TheVariants.{Enter, Gather, Finish, Leave, Remount, Replay}
use Rattle.mb_edge.specs.declared.strokes.Stroke.{Stroke}
use Rattle.mb_edge.specs.declared.strokes.Stroke.TheVariants.{Wipe, Page, Count}
use Rattle.mb_plan.specs.declared.rules.Rule.{Rule}
use Rattle.mb_jobs.specs.declared.jobs.JobCall.{JobCall}
use Rattle.mb_jobs.specs.Folds.{read_all}
use Rattle.mb_jobs.specs.Lists.{ordinals}
use Rattle.mb_jobs.specs.Numbers.{index_in, number_below, short_in}
use Rattle.mb_jobs.specs.Words.{words_in}

-- the kinds of fault points
abbrev pub kind_in : List ℕ → Option Kind
kind_in word =
    if bytes_eq word (codes "enter") then Some Enter
    else if bytes_eq word (codes "gather") then Some Gather
    else if bytes_eq word (codes "finish") then Some Finish
    else if bytes_eq word (codes "leave") then Some Leave
    else if bytes_eq word (codes "remount") then Some Remount
    else if bytes_eq word (codes "replay") then Some Replay
    else None

-- a page of 512 bytes of one value, and a count of an inode
abbrev pub page_of : Option ℕ → Option ℕ → Option Stroke
page_of (Some nth) (Some byte) = Some (Page nth (replicate 512 byte))
page_of nth byte = None

abbrev pub count_in : Option ℕ → Option ℕ → Option Stroke
count_in (Some ino) (Some count) = Some (Count ino count)
count_in ino count = None

-- `page NTH BYTE` and `count INO N`
abbrev pub long_stroke : List ℕ → List ℕ → List ℕ → Option Stroke
long_stroke verb first second =
    if bytes_eq verb (codes "page") then page_of (number_below 262144 first) (number_below 256 second)
    else if bytes_eq verb (codes "count") then count_in (index_in 65528 first) (short_in second)
    else None

-- a stroke before others
abbrev pub strokes_with : Option Stroke → Option (List Stroke) → Option (List Stroke)
strokes_with (Some stroke) (Some more) = Some (stroke ∷ more)
strokes_with stroke more = None

-- the strokes that some words write: `wipe BYTE` has two words, each other three
abbrev pub strokes_in : List (List ℕ) → Option (List Stroke)
strokes_in [] = Some []
strokes_in (verb ∷ []) = None
strokes_in (verb ∷ first ∷ []) =
    if bytes_eq verb (codes "wipe") then strokes_with (option_map Wipe (number_below 256 first)) (Some []) else None
strokes_in (verb ∷ first ∷ second ∷ more) =
    if bytes_eq verb (codes "wipe") then strokes_with (option_map Wipe (number_below 256 first)) (strokes_in (second ∷ more))
    else strokes_with (long_stroke verb first second) (strokes_in more)

-- the caller of a call and its place among that caller's calls, by its index among all calls, from 1
abbrev pub caller_at : List JobCall → ℕ → ℕ
caller_at calls index = option_map_or (λ (call : JobCall). call.caller) (slice_get calls (index - 1)) 0

abbrev pub ordinal_at : List JobCall → ℕ → ℕ
ordinal_at calls index = slice_index (ordinals calls) (index - 1)

-- a rule of its parts
abbrev pub rule_of : List JobCall → Option ℕ → Option Kind → Option ℕ → Option ℕ → Option (List Stroke) → Option Rule
rule_of calls (Some index) (Some kind) (Some skip) (Some times) (Some strokes) =
    Some (record { caller = caller_at calls index; ordinal = ordinal_at calls index; kind = kind; skip = skip; times = times; damage = strokes })
rule_of calls index kind skip times strokes = None

-- the rule that some words write, of a job with these calls
abbrev pub rule_of_words : List JobCall → List (List ℕ) → Option Rule
rule_of_words calls (call ∷ kind ∷ skip ∷ times ∷ strokes) =
    rule_of calls (index_in (length calls) call) (kind_in kind) (number_below 100001 skip) (index_in 255 times) (strokes_in strokes)
rule_of_words calls words = None

abbrev pub rule_in : List JobCall → List ℕ → Option Rule
rule_in calls text = rule_of_words calls (words_in text)

-- the rules of a list of texts, or the first text that writes none
abbrev pub rules_in : List JobCall → List (List ℕ) → Result (List Rule) ℕ
rules_in calls texts = read_all (λ (before : List Rule) (text : List ℕ). rule_in calls text) [] texts
