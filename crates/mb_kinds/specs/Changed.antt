-- Changed blocks, and how they lie over the blocks of an image and over a view.
use Rattle.std.specs.Prelude.{List, ℕ, ◌<◌, ◌≡◌, Option, IsSome, All, length, cond, nat_eq}
use Rattle.std.specs.List.{IsDistinct}
use Rattle.std.specs.Map.{keys_of, lookup}
use Rattle.std.specs.Option.{option_or}

-- block numbers with the new bytes of each
abbrev pub ChangeList : Type 0
ChangeList = List (ℕ × List ℕ)

-- the new bytes of a block, where it is changed
abbrev pub changed : ChangeList → ℕ → Option (List ℕ)
changed changes block = lookup (nat_eq block) changes

-- a block's number is below 262,144, and it has 512 bytes
pub record IsChange (change : ℕ × List ℕ) : Type 0 where
  pub below : change.0 < 262144
  pub sized : length change.1 ≡ 512

-- each block stands once
pub record AreChanges (changes : ChangeList) : Type 0 where
  pub each : All IsChange changes
  pub once : IsDistinct nat_eq (keys_of changes)

-- the blocks of an image after one was written
unfoldable pub put_block : (ℕ → List ℕ) → ℕ → List ℕ → ℕ → List ℕ
put_block blocks block bytes other = cond (nat_eq block other) bytes (blocks other)

-- the blocks that a view gives under changes
abbrev pub shown_over : (ℕ → Option (List ℕ)) → ChangeList → ℕ → Option (List ℕ)
shown_over shown changes block = option_or (changed changes block) (shown block)

-- every changed block is one that the view has
abbrev pub IsWithinView : (ℕ → Option (List ℕ)) → ChangeList → Type 0
IsWithinView shown changes = (block : ℕ) → IsSome (changed changes block) → IsSome (shown block)
