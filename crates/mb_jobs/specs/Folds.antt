-- Lists of texts that are read one after another.
use Rattle.std.specs.Prelude.{List, [], ◌∷◌, ◌++◌, ℕ, ◌+◌, length, Option, Result, Ok, Err, if◌then◌else◌}
use Rattle.std.specs.Option.{is_some, option_to_list}

-- what texts write behind what is read before them, where each of them writes something there; else the first that writes nothing, counted from 1
abbrev pub read_all : {A : Type 0} → (List A → List ℕ → Option A) → List A → List (List ℕ) → Result (List A) ℕ
read_all next before [] = Ok before
read_all next before (text ∷ more) =
    if is_some (next before text) then read_all next (before ++ option_to_list (next before text)) more
    else Err (length before + 1)
