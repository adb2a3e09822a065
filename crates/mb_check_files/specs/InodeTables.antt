-- What is kept of the inodes for the later passes of the checker.
use Rattle.std.specs.Prelude.{List, ℕ, ◌+◌, ◌*◌, ◌%◌, ◌<◌, ◌≤◌, ◌≡◌, true, Some, length, slice_get, slice_index}
use Rattle.mb_word.specs.Fields.{inode_block, inode_place, nlink_of, address_of}
use Rattle.mb_layout.specs.Inode.{address_in}
use Rattle.mb_layout.specs.declared.dinodes.Dinode.{Dinode}
use Rattle.mb_tree.specs.Blocks.{part_address}
use Rattle.mb_tree.specs.Inodes.{is_directory}
use Rattle.mb_rules.specs.Files.{mode_at, size_at}
use Rattle.mb_check_files.specs.declared.inodes.InodeKept.{InodeKept}
use Rattle.mb_check_files.specs.declared.inodes.InodeTable.{InodeTable}

-- the value is the inode that stands in that block
pub record ReadsInode (blocks : ℕ → List ℕ) (ino block : ℕ) (inode : Dinode) : Type 0 where
  pub stands : inode_block ino ≡ block
  pub mode : mode_at blocks ino ≡ inode.mode
  pub nlink : nlink_of (blocks (inode_block ino)) (inode_place ino) ≡ inode.nlink
  pub size : size_at blocks ino ≡ inode.size
  pub address : (k : ℕ) → k < 13 → address_of (blocks (inode_block ino)) (inode_place ino) k ≡ address_in inode k

-- the parts of a directory below its size stand in a list from a place on
pub record HasParts (addresses : List ℕ) (address : ℕ → ℕ) (from size : ℕ) : Type 0 where
  pub some : 32 ≤ size
  pub even : size % 16 ≡ 0
  pub inside : (p : ℕ) → 512 * p < size → from + p < length addresses
  pub listed : (p : ℕ) → 512 * p < size → slice_index addresses (from + p) ≡ address p
  pub there : (p : ℕ) → 512 * p < size → 0 < address p

-- what is kept of an inode
pub record KeepsInode (blocks : ℕ → List ℕ) (addresses : List ℕ) (ino : ℕ) (kept : InodeKept) : Type 0 where
  pub mode : kept.mode ≡ mode_at blocks ino
  pub nlink : kept.nlink ≡ nlink_of (blocks (inode_block ino)) (inode_place ino)
  pub size : kept.size ≡ size_at blocks ino
  pub parts : is_directory kept.mode ≡ true → HasParts addresses (part_address blocks ino) kept.first kept.size

-- what is kept of the inodes up to a number
pub record KeepsInodes (blocks : ℕ → List ℕ) (table : InodeTable) (last : ℕ) : Type 0 where
  pub count : length table.inodes.items ≡ last + 1
  pub none : (kept : InodeKept) → slice_get table.inodes.items 0 ≡ Some kept → kept.mode ≡ 0
  pub each : (ino : ℕ) (kept : InodeKept) → 1 ≤ ino → ino ≤ last → slice_get table.inodes.items ino ≡ Some kept → KeepsInode blocks table.parts.addresses.items ino kept
