-- Where the inodes stand: eight in a block, from block 2 on (V7 filsys(5)).
use Rattle.std.specs.Prelude.{ℕ, ◌<◌, ◌≤◌, ◌≢◌, ◌⊎◌, ◌-◌, ◌*◌}
use Rattle.mb_word.specs.Fields.{inode_block, inode_place}

-- a place is one of eight
abbrev pub PlacesBelow : Type 0
PlacesBelow = (ino : ℕ) → inode_place ino < 8

-- the inodes up to the last of an i-list that ends before block `size` stand in it
abbrev pub InodesInList : Type 0
InodesInList = (ino size : ℕ) → 0 < ino → ino ≤ 8 * (size - 2) → (2 ≤ inode_block ino) × (inode_block ino < size)

-- two inodes stand in two blocks or at two places
abbrev pub InodesApart : Type 0
InodesApart = (ino other : ℕ) → 0 < ino → 0 < other → ino ≢ other → (inode_block ino ≢ inode_block other) ⊎ (inode_place ino ≢ inode_place other)
