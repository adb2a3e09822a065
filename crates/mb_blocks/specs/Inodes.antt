-- An inode's 64 bytes: the fields that a node says, and writes that leave some of them (V7 filsys(5)).
use Rattle.std.specs.Prelude.{List, ℕ, ◌+◌, ◌*◌, ◌<◌, ◌≡◌, ◌≢◌, length, slice_index}
use Rattle.mb_word.specs.Fields.{isize_of, inode_block, inode_place, mode_of, nlink_of, uid_of, gid_of, atime_of, mtime_of, ctime_of}
use Rattle.mb_word.specs.Numbers.{SameFrom, put_at}
use Rattle.mb_layout.specs.Inode.{dinode_bytes, FitsDinode}
use Rattle.mb_layout.specs.declared.dinodes.Dinode.{Dinode}
use Rattle.mb_tree.specs.Blocks.{pointers}
use Rattle.mb_tree.specs.declared.nodes.Node.{Node}

-- the fields of an inode other than its size and what it holds
pub record HasFields (blocks : ℕ → List ℕ) (ino : ℕ) (node : Node) : Type 0 where
  pub used : mode_of (blocks (inode_block ino)) (inode_place ino) ≢ 0
  pub mode : mode_of (blocks (inode_block ino)) (inode_place ino) ≡ node.mode
  pub nlink : nlink_of (blocks (inode_block ino)) (inode_place ino) ≡ node.nlink
  pub uid : uid_of (blocks (inode_block ino)) (inode_place ino) ≡ node.uid
  pub gid : gid_of (blocks (inode_block ino)) (inode_place ino) ≡ node.gid
  pub atime : atime_of (blocks (inode_block ino)) (inode_place ino) ≡ node.atime
  pub mtime : mtime_of (blocks (inode_block ino)) (inode_place ino) ≡ node.mtime
  pub ctime : ctime_of (blocks (inode_block ino)) (inode_place ino) ≡ node.ctime

-- the 64 bytes stay
abbrev pub KeepsInodeBytes : (ℕ → List ℕ) → (ℕ → List ℕ) → ℕ → Type 0
KeepsInodeBytes old new ino = SameFrom (new (inode_block ino)) (old (inode_block ino)) (64 * inode_place ino) 64

-- an inode written: its byte that holds no address, the other inodes of its block, and every other block as before
pub record IsRewritten (old new : ℕ → List ℕ) (ino : ℕ) : Type 0 where
  pub sized : length (new (inode_block ino)) ≡ 512
  pub others : (block : ℕ) → block ≢ inode_block ino → new block ≡ old block
  pub byte : slice_index (new (inode_block ino)) (64 * inode_place ino + 51) ≡ slice_index (old (inode_block ino)) (64 * inode_place ino + 51)
  pub beside : (other : ℕ) → 0 < other → other ≢ ino → KeepsInodeBytes old new other

-- the bytes of an inode other than its addresses, those of the other inodes, and the super-block but for its list
-- of free blocks
pub record KeepsFields (old new : ℕ → List ℕ) (ino : ℕ) : Type 0 where
  pub front : SameFrom (new 1) (old 1) 0 6
  pub back : SameFrom (new 1) (old 1) 208 304
  pub head : SameFrom (new (inode_block ino)) (old (inode_block ino)) (64 * inode_place ino) 12
  pub tail : SameFrom (new (inode_block ino)) (old (inode_block ino)) (64 * inode_place ino + 51) 13
  pub beside : (other : ℕ) → 0 < other → inode_block other < isize_of (old 1) → other ≢ ino → KeepsInodeBytes old new other

-- an inode of the i-list whose thirteen addresses are holes
pub record IsBorn (blocks : ℕ → List ℕ) (ino : ℕ) : Type 0 where
  pub some : 0 < ino
  pub listed : inode_block ino < isize_of (blocks 1)
  pub holes : (p : ℕ) → p < 13 → (pointers blocks).top ino p ≡ 0

-- an inode's 64 bytes written, and every other byte as before
pub record IsDinodeWritten (old new : ℕ → List ℕ) (ino : ℕ) (d : Dinode) : Type 0 where
  pub fits : FitsDinode d
  pub block : new (inode_block ino) ≡ put_at (old (inode_block ino)) (64 * inode_place ino) (dinode_bytes d)
  pub others : (block : ℕ) → block ≢ inode_block ino → new block ≡ old block

-- an inode's value says the fields of a node other than its size and what it holds
pub record HasValues (d : Dinode) (node : Node) : Type 0 where
  pub used : d.mode ≢ 0
  pub mode : d.mode ≡ node.mode
  pub nlink : d.nlink ≡ node.nlink
  pub uid : d.uid ≡ node.uid
  pub gid : d.gid ≡ node.gid
  pub atime : d.atime ≡ node.atime
  pub mtime : d.mtime ≡ node.mtime
  pub ctime : d.ctime ≡ node.ctime
