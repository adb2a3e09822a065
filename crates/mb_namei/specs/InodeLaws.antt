-- What an inode of a volume says of the tree's node.
use Rattle.std.specs.Prelude.{ℕ, ◌<◌, ◌≤◌, ◌≡◌, ◌↔◌, true, Option, Some, None}
use Rattle.std.specs.FinMap as fin
use Rattle.mb_kinds.specs.Image.{Image}
use Rattle.mb_layout.specs.declared.dinodes.Dinode.{Dinode}
use Rattle.mb_tree.specs.Inodes.{is_directory, stat_of}
use Rattle.mb_tree.specs.Trees.{IsDirectoryAt}
use Rattle.mb_tree.specs.Volume.{IsVolume}
use Rattle.mb_tree.specs.declared.nodes.Node.{Node}
use Rattle.mb_tree.specs.declared.trees.Tree.{Tree}
use Rattle.mb_namei.specs.Inodes.{inode_in, stat_by}

-- free where the tree has no such node; else it tells of itself what the node does
abbrev pub IsInodeOf : ℕ → Option Node → Dinode → Type 0
IsInodeOf ino None d = d.mode ≡ 0
IsInodeOf ino (Some node) d = stat_by ino d ≡ stat_of ino node

-- on a volume each inode is the tree's node, and it is a directory exactly where its mode says so
pub record ReadsNode (tree : Tree) (ino : ℕ) (d : Dinode) : Type 0 where
  pub node : IsInodeOf ino (fin.get tree.nodes ino) d
  pub directory : (is_directory d.mode ≡ true) ↔ IsDirectoryAt tree.nodes ino

abbrev pub InodesAreNodes : Type 0
InodesAreNodes = (image : Image) (tree : Tree) → IsVolume image tree → (ino : ℕ) → 0 < ino → ino ≤ tree.last → ReadsNode tree ino (inode_in image.at ino)
