-- Trees between the steps of an operation: everything of a volume but that its tree is sound.
use Rattle.std.specs.Prelude.{List, ℕ, ◌+◌, ◌<◌, ◌≤◌, ◌≡◌, ◌≢◌, length}
use Rattle.std.specs.FinMap as fin
use Rattle.mb_kinds.specs.Image.{Image}
use Rattle.mb_word.specs.Fields.{ninode_of}
use Rattle.mb_tree.specs.Cost.{cost}
use Rattle.mb_tree.specs.Trees.{Each}
use Rattle.mb_tree.specs.Views.{Kept}
use Rattle.mb_tree.specs.Volume.{HasSizes, HasInode, HoldsBlocks, SparesBlocks, last_inode}
use Rattle.mb_tree.specs.declared.nodes.Node.{Node}
use Rattle.mb_tree.specs.declared.trees.Tree.{Tree}

-- an image holds a tree, with this free chain; a child may still lack its name, and a name its link count
pub record IsStored (image : Image) (tree : Tree) (chain : List ℕ) : Type 0 where
  pub bytes : (block : ℕ) → length (image.at block) ≡ 512
  pub sizes : HasSizes image
  pub cached : ninode_of (image.at 1) ≤ 100
  pub last : tree.last ≡ last_inode image.at
  pub inodes : (ino : ℕ) → 0 < ino → ino ≤ tree.last → HasInode image.at ino (fin.get tree.nodes ino)
  pub held : HoldsBlocks tree image.at
  pub spare : SparesBlocks tree image.at chain
  pub capacity : tree.cap ≡ cost tree + length chain
  pub numbers : Each tree (λ ino node. (1 ≤ ino) × (ino ≤ tree.last))

-- a tree with a node put at a number, and one with a number's node taken away
abbrev pub with_node : Tree → ℕ → Node → Tree
with_node tree ino node = record tree { nodes = fin.insert tree.nodes ino node }

abbrev pub without_node : Tree → ℕ → Tree
without_node tree ino = record tree { nodes = fin.remove tree.nodes ino }

-- a tree that differs from another at one inode alone
pub record IsChangedAt (tree next : Tree) (ino : ℕ) : Type 0 where
  pub last : next.last ≡ tree.last
  pub cap : next.cap ≡ tree.cap
  pub others : (other : ℕ) → other ≢ ino → fin.get next.nodes other ≡ fin.get tree.nodes other

-- the next tree is stored in these blocks, and all that a volume keeps is kept
pub record Follows (image : Image) (tree : Tree) (now : ℕ → List ℕ) (next : Tree) (left : List ℕ) : Type 0 where
  pub stored : IsStored (record image { at = now }) next left
  pub kept : Kept tree image next (record image { at = now })
