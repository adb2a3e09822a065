-- The words of a text, with a blank (32) between each two.
use Rattle.std.specs.Prelude.{List, ℕ, ◌+◌, ◌==◌, Bool, drop, take}
use Rattle.std.specs.List.{position_or_len, slice_split}

abbrev pub is_blank : ℕ → Bool
is_blank byte = byte == 32

-- what stands before the first blank
abbrev pub first_word : List ℕ → List ℕ
first_word line = take (position_or_len is_blank line) line

-- what follows the first blank, and nothing where there is none; no argument is an empty text, so a missing one is refused as an empty one is
abbrev pub after_word : List ℕ → List ℕ
after_word line = drop (position_or_len is_blank line + 1) line

-- all the words of a text
abbrev pub words_in : List ℕ → List (List ℕ)
words_in text = slice_split is_blank text
