-- What comes of a fresh volume that is asked for.
use Rattle.std.specs.Prelude.{List, ℕ, ◌≡◌, Option}
use Rattle.mb_kinds.specs.Image.{Image}
use Rattle.mb_mkfs.specs.Made.{IsMade, KeepsFrom}
use Rattle.mb_mkfs.specs.Sizes.{AreSizes}
use Rattle.mb_commands.specs.Lines.{made_line}
use Rattle.mb_commands.specs.declared.making.Made.{Made}
use Rattle.mb_commands.specs.declared.making.Made.TheVariants as made

-- a volume was made, and the blocks behind it stay
pub record HasVolume (old new : Option Image) (blocks inodes : ℕ) : Type 0 where
  pub sizes : AreSizes blocks inodes
  pub made : IsMade old new blocks inodes
  pub beyond : KeepsFrom old new blocks

-- and this is told of it
abbrev pub HasMade : Option Image → Option Image → ℕ → ℕ → List ℕ → Type 0
HasMade old new blocks inodes line = HasVolume old new blocks inodes × (line ≡ made_line blocks inodes)

-- by the disk before and after, and what it told: where the disk failed the blocks behind stay, and where memory was wanted for the
-- line the volume was made
abbrev pub MakesVolume : {D : Type 0} → (D → Option Image) → D → D → ℕ → ℕ → Made → Type 0
MakesVolume told old new blocks inodes (made.Line line) = HasMade (told old) (told new) blocks inodes line
MakesVolume told old new blocks inodes made.BadSizes = (AreSizes blocks inodes → ⊥) × (new ≡ old)
MakesVolume told old new blocks inodes made.DiskFault = AreSizes blocks inodes × KeepsFrom (told old) (told new) blocks
MakesVolume told old new blocks inodes made.NoMemory = HasVolume (told old) (told new) blocks inodes
