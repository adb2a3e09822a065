-- The laws of reading and writing numbers.
use Rattle.std.specs.Prelude.{◌≡◌, ◌≤◌, ◌<◌, ◌+◌, ◌⊎◌, ℕ, List, length}
use Rattle.mb_word.specs.Numbers.{word_at, long_at, addr_at, put_at, word_bytes, long_bytes, addr_bytes, SameFrom, AreBytes}

-- a number written reads back
abbrev pub WordReadsBack : Type 0
WordReadsBack = (b : List ℕ) (at value : ℕ) → at + 2 ≤ length b → value < 65536 → word_at (put_at b at (word_bytes value)) at ≡ value

abbrev pub LongReadsBack : Type 0
LongReadsBack = (b : List ℕ) (at value : ℕ) → at + 4 ≤ length b → value < 4294967296 → long_at (put_at b at (long_bytes value)) at ≡ value

abbrev pub AddrReadsBack : Type 0
AddrReadsBack = (b : List ℕ) (at value : ℕ) → at + 3 ≤ length b → value < 16777216 → addr_at (put_at b at (addr_bytes value)) at ≡ value

-- what was read, written where it stood, changes nothing
abbrev pub WordWritesBack : Type 0
WordWritesBack = (b : List ℕ) (at : ℕ) → AreBytes b → at + 2 ≤ length b → put_at b at (word_bytes (word_at b at)) ≡ b

abbrev pub LongWritesBack : Type 0
LongWritesBack = (b : List ℕ) (at : ℕ) → AreBytes b → at + 4 ≤ length b → put_at b at (long_bytes (long_at b at)) ≡ b

abbrev pub AddrWritesBack : Type 0
AddrWritesBack = (b : List ℕ) (at : ℕ) → AreBytes b → at + 3 ≤ length b → put_at b at (addr_bytes (addr_at b at)) ≡ b

-- a write leaves every byte that lies off it
abbrev pub WriteKeepsOthers : Type 0
WriteKeepsOthers = (b : List ℕ) (at : ℕ) (xs : List ℕ) (from n : ℕ) → at + length xs ≤ length b → (from + n ≤ at) ⊎ (at + length xs ≤ from) → SameFrom (put_at b at xs) b from n

-- a number is read from its own bytes alone
abbrev pub WordReadsOwnBytes : Type 0
WordReadsOwnBytes = (a b : List ℕ) (at : ℕ) → SameFrom a b at 2 → word_at a at ≡ word_at b at

abbrev pub LongReadsOwnBytes : Type 0
LongReadsOwnBytes = (a b : List ℕ) (at : ℕ) → SameFrom a b at 4 → long_at a at ≡ long_at b at

abbrev pub AddrReadsOwnBytes : Type 0
AddrReadsOwnBytes = (a b : List ℕ) (at : ℕ) → SameFrom a b at 3 → addr_at a at ≡ addr_at b at
