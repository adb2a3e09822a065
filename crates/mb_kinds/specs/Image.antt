-- The image of a volume: how many whole blocks the device has, and the 512 bytes of each block.
-- A block past the end reads as zeros, so the bytes are a function of the block's number.
use Rattle.std.specs.Prelude.{List, ℕ, ◌+◌, cond, max, nat_eq, replicate}

unfoldable pub zeros : List ℕ
zeros = replicate 512 0

pub record Image : Type 0 where
  pub count : ℕ
  pub at : ℕ → List ℕ

-- one block written: a write past the end extends the device, with zeros in between
abbrev pub put : Image → ℕ → List ℕ → Image
put image block bytes = record { count = max image.count (block + 1); at = λ other. cond (nat_eq block other) bytes (image.at other) }
