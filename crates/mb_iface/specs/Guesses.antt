-- Guesses at where changed blocks stand in the list.
use Rattle.std.specs.Prelude.{List, ℕ, ◌<◌, ◌%◌, IsSome, slice_index}
use Rattle.mb_kinds.specs.Changed.{ChangeList, AreChanges, changed}

-- where there is no guess, by a block's number modulo 16, no such block is changed
abbrev pub AreMarked : List ℕ → ChangeList → Type 0
AreMarked guesses changes = (block : ℕ) → IsSome (changed changes block) → 0 < slice_index guesses (block % 16)

pub record AreGuessed (guesses : List ℕ) (changes : ChangeList) : Type 0 where
  pub list : AreChanges changes
  pub marked : AreMarked guesses changes
