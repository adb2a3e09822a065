-- What the passes over directories go by: what is kept of them, and the parts that are read again.
use Rattle.std.specs.Prelude.{List, ℕ, ◌-◌, ◌*◌, ◌/◌, ◌≤◌, ◌≡◌, true, length, min}
use Rattle.mb_tree.specs.Blocks.{part_address, part_bytes}
use Rattle.mb_tree.specs.Inodes.{is_directory}
use Rattle.mb_tree.specs.Volume.{last_inode}
use Rattle.mb_check_files.specs.InodeTables.{KeepsInode, KeepsInodes}
use Rattle.mb_check_files.specs.declared.inodes.InodeKept.{InodeKept}
use Rattle.mb_check_files.specs.declared.inodes.InodeTable.{InodeTable}

-- all inodes are kept, and the list of the directories' parts is no longer than a volume has blocks
pub record KeepsAll (blocks : ℕ → List ℕ) (table : InodeTable) : Type 0 where
  pub inodes : KeepsInodes blocks table (last_inode blocks)
  pub few : length table.parts.addresses.items ≤ 262144

-- what is kept of a directory
pub record KeepsDirectory (blocks : ℕ → List ℕ) (table : InodeTable) (dir : ℕ) (kept : InodeKept) : Type 0 where
  pub inode : KeepsInode blocks table.parts.addresses.items dir kept
  pub directory : is_directory kept.mode ≡ true
  pub few : length table.parts.addresses.items ≤ 262144

-- the block of a part of a directory, by its number and its bytes
pub record IsPartRead (blocks : ℕ → List ℕ) (dir part number : ℕ) (bytes : List ℕ) : Type 0 where
  pub stands : number ≡ part_address blocks dir part
  pub holds : bytes ≡ part_bytes blocks dir part

-- how many slots of a directory of that size stand in a part of it, and in those before it
abbrev pub slots_in_part : ℕ → ℕ → ℕ
slots_in_part size part = min (size / 16 - 32 * part) 32

abbrev pub slots_before : ℕ → ℕ → ℕ
slots_before size part = min (size / 16) (32 * part)
