-- A fresh volume: an empty free chain on which all blocks but the root's are put back, the last block first, and a
-- root directory with its two first slots.
use Rattle.std.specs.Prelude.{List, [], ◌∷◌, ℕ, zero, suc, ◌+◌, ◌-◌, ◌*◌, ◌<◌, ◌≤◌, ◌≡◌, ◌≢◌, length}
use Rattle.std.specs.FinMap as fin
use Rattle.mb_kinds.specs.Image.{Image}
use Rattle.mb_word.specs.Fields.{isize_of, fsize_of, ninode_of, inode_block, inode_place, mode_of, size_of}
use Rattle.mb_tree.specs.Blocks.{pointers, first_list, slot_of}
use Rattle.mb_tree.specs.Effect.{dot, dot_dot, first_slots}
use Rattle.mb_tree.specs.declared.nodes.Body.TheVariants.{Directory}
use Rattle.mb_tree.specs.declared.nodes.Node.{Node}
use Rattle.mb_tree.specs.declared.nodes.PlainSlot.{PlainSlot}
use Rattle.mb_tree.specs.declared.trees.Tree.{Tree}
use Rattle.mb_blocks.specs.FreeLists.{AreFreed, IsSameList, ended}
use Rattle.mb_blocks.specs.Inodes.{HasFields, KeepsInodeBytes}

-- the root: a directory, mode 040777 in octal, whose `..` is itself
abbrev pub fresh_root : Node
fresh_root = record { mode = 0x41FF; nlink = 2; uid = 0; gid = 0; atime = 0; mtime = 0; ctime = 0; body = Directory (first_slots 2 2) }

-- the tree of a fresh volume with these sizes
abbrev pub fresh_tree : ℕ → ℕ → Tree
fresh_tree isize fsize = record { nodes = fin.insert fin.empty 2 fresh_root; last = 8 * (isize - 2); cap = fsize - isize }

-- so many numbers from the first on, the last one first
abbrev pub falling : ℕ → ℕ → List ℕ
falling first zero = []
falling first (suc n) = (first + n) ∷ falling first n

-- blocks with an empty free chain, an empty cache and free inodes
pub record IsBlank (blocks : ℕ → List ℕ) (isize fsize : ℕ) : Type 0 where
  pub sized : (block : ℕ) → length (blocks block) ≡ 512
  pub isize_is : isize_of (blocks 1) ≡ isize
  pub fsize_is : fsize_of (blocks 1) ≡ fsize
  pub uncached : ninode_of (blocks 1) ≡ 0
  pub list : IsSameList (first_list blocks) ended
  pub unused : (ino : ℕ) → 0 < ino → inode_block ino < isize → mode_of (blocks (inode_block ino)) (inode_place ino) ≡ 0

-- the root written: its inode, and its block with the two first slots
pub record IsRootWritten (old new : ℕ → List ℕ) (block : ℕ) : Type 0 where
  pub sized : (other : ℕ) → length (new other) ≡ 512
  pub others : (other : ℕ) → other ≢ 2 → other ≢ block → new other ≡ old other
  pub beside : (other : ℕ) → 0 < other → other ≢ 2 → KeepsInodeBytes old new other
  pub fields : HasFields new 2 fresh_root
  pub size : size_of (new (inode_block 2)) (inode_place 2) ≡ 32
  pub top : (pointers new).top 2 0 ≡ block
  pub holes : (p : ℕ) → 0 < p → p < 13 → (pointers new).top 2 p ≡ 0
  pub first : ◌≡◌ {A = PlainSlot} (slot_of (new block) 0) (record { ino = 2; name = dot })
  pub second : ◌≡◌ {A = PlainSlot} (slot_of (new block) 1) (record { ino = 2; name = dot_dot })

-- a fresh image: the root has the first block after the i-list, and those after it are free
pub record IsFresh (image : Image) (isize fsize : ℕ) : Type 0 where
  pub start : ℕ → List ℕ
  pub free : ℕ → List ℕ
  pub some_inodes : 3 ≤ isize
  pub few_inodes : isize ≤ 8193
  pub some_blocks : isize < fsize
  pub few_blocks : fsize ≤ 262144
  pub present : fsize ≤ image.count
  pub blank : IsBlank start isize fsize
  pub frees : AreFreed start free (falling (isize + 1) (fsize - 1 - isize))
  pub root : IsRootWritten free image.at isize
