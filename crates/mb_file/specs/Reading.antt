-- Bytes of a file copied, part after part.
use Rattle.std.specs.Prelude.{List, [], ◌∷◌, ◌++◌, ℕ, zero, suc, ◌+◌, ◌-◌, ◌/◌, ◌%◌, ◌<◌, ◌≤◌, ◌≡◌, Option, length, take, drop, slice_index}
use Rattle.mb_word.specs.Numbers.{AreBytes}
use Rattle.mb_tree.specs.Blocks.{part_bytes}
use Rattle.mb_kinds.specs.Changed.{ChangeList}
use Rattle.mb_file.specs.Finding.{AsksForOwn, OnInode}
use Rattle.mb_file.specs.declared.reads.Copied.{Copied}
use Rattle.mb_file.specs.declared.reads.Copied.TheVariants as copied
use Rattle.mb_file.specs.declared.walks.Walked.{Walked}
use Rattle.mb_file.specs.declared.walks.Walked.TheVariants as walked

-- so many bytes of a file from an index on, by its parts; a missing part has zeros
abbrev pub bytes_on : (ℕ → List ℕ) → ℕ → ℕ → ℕ → List ℕ
bytes_on blocks ino index zero = []
bytes_on blocks ino index (suc count) = slice_index (part_bytes blocks ino (index / 512)) (index % 512) ∷ bytes_on blocks ino (index + 1) count

-- each part into which one of these places falls has bytes
abbrev pub HasBytesAt : (ℕ → List ℕ) → ℕ → ℕ → ℕ → Type 0
HasBytesAt blocks ino index count = (k : ℕ) → index ≤ k → k < index + count → AreBytes (part_bytes blocks ino (k / 512))

-- some bytes of a block appended
abbrev pub Appends : List ℕ → List ℕ → ℕ → ℕ → List ℕ → Walked → Type 0
Appends before block from to after walked.Done = (after ≡ before ++ take (to - from) (drop from block)) × (length block ≡ 512) × AreBytes block
Appends before block from to after (walked.Need need) = ⊥
Appends before block from to after walked.NoMemory = Unit {0}

abbrev pub CopiesPart : (ℕ → Option (List ℕ)) → ChangeList → ℕ → ℕ → ℕ → ℕ → List ℕ → List ℕ → Walked → Type 0
CopiesPart shown changes ino part at some before after walked.Done = (length after ≡ length before + some)
    × OnInode shown changes ino (λ now. (after ≡ before ++ take some (drop at (part_bytes now ino part))) × AreBytes (part_bytes now ino part))
CopiesPart shown changes ino part at some before after (walked.Need need) = AsksForOwn shown changes ino need
CopiesPart shown changes ino part at some before after walked.NoMemory = Unit {0}

abbrev pub CopiesBytes : (ℕ → Option (List ℕ)) → ChangeList → ℕ → ℕ → ℕ → Copied → Type 0
CopiesBytes shown changes ino offset count (copied.Bytes bytes) = (length bytes.items ≡ count)
    × OnInode shown changes ino (λ now. (bytes.items ≡ bytes_on now ino offset count) × HasBytesAt now ino offset count)
CopiesBytes shown changes ino offset count (copied.Need need) = AsksForOwn shown changes ino need
CopiesBytes shown changes ino offset count copied.NoMemory = Unit {0}
