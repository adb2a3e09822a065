-- The sizes that a volume can be made with.
use Rattle.std.specs.Prelude.{ℕ, ◌+◌, ◌/◌, ◌%◌, ◌<◌, ◌≤◌, ◌≡◌}

-- whole blocks of eight inodes, at most 65,528 inodes so that each has a number of 16 bits, and a block for the root
-- behind the i-list, in at most 262,144 blocks (this project's limit)
pub record AreSizes (blocks inodes : ℕ) : Type 0 where
  pub some_inodes : 0 < inodes
  pub few_inodes : inodes ≤ 65528
  pub whole : inodes % 8 ≡ 0
  pub some_blocks : inodes / 8 + 3 ≤ blocks
  pub few_blocks : blocks ≤ 262144

-- the first block after an i-list of so many inodes, which begins in block 2
abbrev pub isize_for : ℕ → ℕ
isize_for inodes = 2 + inodes / 8
