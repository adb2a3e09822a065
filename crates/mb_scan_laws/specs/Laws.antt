-- The laws of the scan on the tree of an image, each the contract of a function without a body.
use Rattle.std.specs.Prelude.{List, [], ◌++◌, ℕ, ◌+◌, ◌≡◌, ◌≢◌, ◌≤◌, ◌↔◌, true, nat_eq, length, Ok, None}
use Rattle.std.specs.List.{IsDistinct}
use Rattle.mb_kinds.specs.Image.{Image}
use Rattle.mb_tree.specs.Cost.{cost}
use Rattle.mb_tree.specs.Inodes.{is_directory}
use Rattle.mb_tree.specs.Trees.{AreSlots, Each, EachDirectory, HasKind, HasParent, IsRoot, links}
use Rattle.mb_tree.specs.declared.trees.Tree.{Tree}
use Rattle.mb_tree.specs.Volume.{IsVolume}
use Rattle.mb_nodes.specs.Stored.{IsStored}
use Rattle.mb_rules.specs.Items.{Item, walked}
use Rattle.mb_rules.specs.SuperBlock.{super_block_items}
use Rattle.mb_rules.specs.FreeChain.{chain_items}
use Rattle.mb_rules.specs.Files.{files_items, mode_at}
use Rattle.mb_rules.specs.Slots.{slots_items}
use Rattle.mb_rules.specs.Parents.{parents_items}
use Rattle.mb_rules.specs.Scan.{scan}
use Rattle.mb_rules.specs.TreeOf.{chain_of, tree_of}
use Rattle.mb_scan_laws.specs.Shown.{IsShown}

-- the addresses of the files number the cost of the tree. Modes must name the kinds of bodies: a regular mode over
-- the body of a special file would show addresses that cost nothing
abbrev pub FilesCost : Type 0
FilesCost = (image : Image) (tree : Tree) (chain met after : List ℕ) → IsStored image tree chain → Each tree (λ ino node. HasKind node.mode node.body)
    → IsDistinct nat_eq met → walked met (files_items image.at) ≡ Ok after → length after ≡ cost tree + length met

-- parts 1 to 3: the super-block, the free chain, and the inodes with their addresses
abbrev pub first_items : Image → List Item
first_items image = super_block_items image ++ (chain_items image.at ++ files_items image.at)

-- where the scan goes through them, the tree that the bytes show is stored
abbrev pub Stores : Type 0
Stores = (image : Image) (met : List ℕ) → ((block : ℕ) → length (image.at block) ≡ 512) → walked [] (first_items image) ≡ Ok met
    → IsShown image (tree_of image) (chain_of image.at)

-- and it goes through them where any tree is stored
abbrev pub StoredWalks : Type 0
StoredWalks = (image : Image) (tree : Tree) (chain : List ℕ) → IsShown image tree chain → (met : List ℕ) × (walked [] (first_items image) ≡ Ok met)

-- part 5 says rules 10 to 12 of each directory
abbrev pub SlotsAccept : Type 0
SlotsAccept = (image : Image) (tree : Tree) (chain met : List ℕ) → IsShown image tree chain
    → (walked met (slots_items image.at) ≡ Ok met) ↔ EachDirectory tree (AreSlots tree.nodes)

-- rules 13 and 14: each directory has its parent, and each inode its link count
pub record HasParents (tree : Tree) : Type 0 where
  pub root : IsRoot tree
  pub parents : EachDirectory tree (λ ino slots. ino ≢ 2 → HasParent tree ino slots)
  pub counted : Each tree (λ ino node. ino ≢ 1 → node.nlink ≡ links tree ino)
  pub few : Each tree (λ ino node. ino ≢ 1 → node.nlink ≤ 32767)

-- part 6 says these, once parts 4 and 5 hold: inode 2 is a directory, and slots are in order
abbrev pub ParentsAccept : Type 0
ParentsAccept = (image : Image) (tree : Tree) (chain met : List ℕ) → IsShown image tree chain → EachDirectory tree (AreSlots tree.nodes)
    → is_directory (mode_at image.at 2) ≡ true → (walked met (parents_items image.at) ≡ Ok met) ↔ HasParents tree

-- an image of blocks of 512 bytes in which the scan finds nothing is a volume of the tree that its bytes show
abbrev pub Accepts : Type 0
Accepts = (image : Image) → ((block : ℕ) → length (image.at block) ≡ 512) → scan image ≡ None → IsVolume image (tree_of image)

-- in a volume it finds nothing
abbrev pub Accepted : Type 0
Accepted = (image : Image) (tree : Tree) → IsVolume image tree → scan image ≡ None

-- the tree of a volume is the one that its bytes show
abbrev pub TreeShown : Type 0
TreeShown = (image : Image) (tree : Tree) → IsVolume image tree → tree ≡ tree_of image

-- the addresses that the first three parts meet number the capacity: the cost of the files and the free blocks
abbrev pub CapacityMet : Type 0
CapacityMet = (image : Image) (met : List ℕ) → ((block : ℕ) → length (image.at block) ≡ 512) → walked [] (first_items image) ≡ Ok met
    → length met ≡ (tree_of image).cap
