-- Blocks that are accounted for before a step are so after it, and the others stay as they were.
use Rattle.std.specs.Prelude.{List, ℕ, ◌<◌, ◌≤◌, ◌≡◌, Bool}
use Rattle.mb_word.specs.Fields.{isize_of}
use Rattle.mb_word.specs.Numbers.{SameFrom}
use Rattle.mb_blocks.specs.Laid.{IsHad}

-- from the inodes one with the spare blocks was, to the inodes other with the spare blocks now
pub record Conserves (one other : ℕ → Bool) (old new : ℕ → List ℕ) (was now : List ℕ) : Type 0 where
  pub still : (block : ℕ) → 0 < block → IsHad one old was block → IsHad other new now block
  pub already : (block : ℕ) → 0 < block → IsHad other new now block → IsHad one old was block
  pub off : (block : ℕ) → isize_of (old 1) ≤ block → (IsHad one old was block → ⊥) → new block ≡ old block
  pub boot : new 0 ≡ old 0
  pub front : SameFrom (new 1) (old 1) 0 6
