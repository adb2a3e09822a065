-- The numbers of a V7 volume in a list of bytes (V7 filsys(5), on a PDP-11). A word has 16 bits, its
-- low byte first. A long has 32 bits and is two words, the high word first. A block's address in an
-- inode has 24 bits in three bytes d0 d1 d2 and is d0 * 65536 + d2 * 256 + d1.
use Rattle.std.specs.Prelude.{◌≡◌, ◌≤◌, ◌<◌, ◌+◌, ◌*◌, ◌/◌, ◌%◌, ◌++◌, ◌∷◌, [], ℕ, List, length, take, drop, slice_index}

unfoldable pub word_at : List ℕ → ℕ → ℕ
word_at b at = slice_index b at + 256 * slice_index b (at + 1)

unfoldable pub long_at : List ℕ → ℕ → ℕ
long_at b at = 65536 * word_at b at + word_at b (at + 2)

unfoldable pub addr_at : List ℕ → ℕ → ℕ
addr_at b at = 65536 * slice_index b at + word_at b (at + 1)

-- the bytes xs written over those of b, from an offset on
unfoldable pub put_at : List ℕ → ℕ → List ℕ → List ℕ
put_at b at xs = take at b ++ (xs ++ drop (at + length xs) b)

-- the bytes of a number below 65,536
unfoldable pub word_bytes : ℕ → List ℕ
word_bytes value = value % 256 ∷ (value / 256) % 256 ∷ []

-- the bytes of a number below 4,294,967,296
unfoldable pub long_bytes : ℕ → List ℕ
long_bytes value = word_bytes (value / 65536) ++ word_bytes (value % 65536)

-- the bytes of a number below 16,777,216
unfoldable pub addr_bytes : ℕ → List ℕ
addr_bytes value = (value / 65536) % 256 ∷ word_bytes (value % 65536)

-- the n bytes from an offset on are the same in both lists
abbrev pub SameFrom : List ℕ → List ℕ → ℕ → ℕ → Type 0
SameFrom a b at n = (k : ℕ) → at ≤ k → k < at + n → slice_index a k ≡ slice_index b k

-- each item is a byte
abbrev pub AreBytes : List ℕ → Type 0
AreBytes b = (k : ℕ) → slice_index b k < 256
