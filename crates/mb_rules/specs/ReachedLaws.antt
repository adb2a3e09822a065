-- What a walk of so many steps reaches is what the root leads to.
use Rattle.std.specs.Prelude.{List, [], ℕ, ◌≤◌, ◌<◌, ◌≡◌, ◌↔◌, true, Option, Some, None}
use Rattle.std.specs.FinMap as fin
use Rattle.mb_tree.specs.Trees.{Reached, links, links_past}
use Rattle.mb_tree.specs.Volume.{last_inode}
use Rattle.mb_tree.specs.declared.nodes.PlainSlot.{PlainSlot}
use Rattle.mb_tree.specs.declared.nodes.Node.{Node}
use Rattle.mb_tree.specs.declared.nodes.Body.{Body}
use Rattle.mb_tree.specs.declared.nodes.Body.TheVariants.{Regular, Directory, Special}
use Rattle.mb_tree.specs.declared.trees.Tree.{Tree}
use Rattle.mb_rules.specs.Slots.{slots_at}
use Rattle.mb_rules.specs.Parents.{late_to, all_to, is_reached}

abbrev pub body_slots : Body → List PlainSlot
body_slots (Regular size parts) = []
body_slots (Directory slots) = slots
body_slots (Special size area) = []

abbrev pub node_slots : Option Node → List PlainSlot
node_slots None = []
node_slots (Some node) = body_slots node.body

-- the tree's directories are those that the bytes show; past the last inode stand the blocks of files
pub record ShowsSlots (blocks : ℕ → List ℕ) (tree : Tree) : Type 0 where
  pub last : tree.last ≡ last_inode blocks
  pub slots : (ino : ℕ) → ino ≤ last_inode blocks → node_slots (fin.get tree.nodes ino) ≡ slots_at blocks ino

abbrev pub CountsLinks : Type 0
CountsLinks = (blocks : ℕ → List ℕ) (tree : Tree) → ShowsSlots blocks tree → (ino : ℕ) → (links tree ino ≡ all_to blocks ino) × (links_past 2 tree ino ≡ late_to blocks ino)

-- so many steps as there are inodes are enough
abbrev pub ReachesAll : Type 0
ReachesAll = (blocks : ℕ → List ℕ) (steps ino : ℕ) → 2 ≤ last_inode blocks → ino ≤ last_inode blocks → is_reached blocks steps ino ≡ true → is_reached blocks (last_inode blocks) ino ≡ true

abbrev pub ReachedIs : Type 0
ReachedIs = (blocks : ℕ → List ℕ) (tree : Tree) (ino : ℕ) → ShowsSlots blocks tree → 2 ≤ tree.last → ((i : ℕ) (node : Node) → fin.get tree.nodes i ≡ Some node → i ≤ tree.last) → 0 < ino → ino ≤ tree.last
    → (is_reached blocks (last_inode blocks) ino ≡ true) ↔ Reached tree.nodes ino
