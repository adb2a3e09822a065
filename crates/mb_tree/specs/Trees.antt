-- Which trees are sound: what the rules of a volume ask of its inodes, names and link counts (V7 filsys(5),
-- dir(5)), without its blocks.
use Rattle.std.specs.Prelude.{List, ℕ, ◌+◌, ◌<◌, ◌≤◌, ◌≡◌, ◌≢◌, Bool, true, false, ◌==◌, length, Option, Some, None, slice_get, slice_index, count_by, drop}
use Rattle.std.specs.FinMap as fin
use Rattle.mb_tree.specs.Maps.{Numbered}
use Rattle.mb_tree.specs.Counting.{sum_below}
use Rattle.mb_tree.specs.Inodes.{is_directory, is_regular, is_special}
use Rattle.mb_tree.specs.Lookup.{is_used, slash}
use Rattle.mb_tree.specs.Cost.{cost, most_parts}
use Rattle.mb_tree.specs.Effect.{dot, dot_dot}
use Rattle.mb_tree.specs.Rows.{is_dots}
use Rattle.mb_tree.specs.declared.nodes.PlainSlot.{PlainSlot}
use Rattle.mb_tree.specs.declared.nodes.Node.{Node}
use Rattle.mb_tree.specs.declared.nodes.Body.{Body}
use Rattle.mb_tree.specs.declared.nodes.Body.TheVariants.{Regular, Directory, Special}
use Rattle.mb_tree.specs.declared.trees.Tree.{Tree}

pub record IsThere (nodes : Numbered Node) (ino : ℕ) : Type 0 where
  pub node : Node
  pub has : fin.get nodes ino ≡ Some node

pub record IsDirectoryAt (nodes : Numbered Node) (ino : ℕ) : Type 0 where
  pub node : Node
  pub slots : List PlainSlot
  pub has : fin.get nodes ino ≡ Some node
  pub body : node.body ≡ Directory slots

pub record IsRegularAt (nodes : Numbered Node) (ino : ℕ) : Type 0 where
  pub node : Node
  pub size : ℕ
  pub parts : Numbered (List ℕ)
  pub has : fin.get nodes ino ≡ Some node
  pub body : node.body ≡ Regular size parts

-- the kind bits of the mode name the kind of the body
abbrev pub HasKind : ℕ → Body → Type 0
HasKind mode (Regular size parts) = is_regular mode ≡ true
HasKind mode (Directory slots) = is_directory mode ≡ true
HasKind mode (Special size area) = is_special mode ≡ true

-- a regular file has at most 1082201088 bytes in 2113674 parts; a directory has at least its first two slots
abbrev pub HasSize : Body → Type 0
HasSize (Regular size parts) = (size ≤ 1082201088) × ((part : ℕ) (bytes : List ℕ) → fin.get parts part ≡ Some bytes → part < most_parts)
HasSize (Directory slots) = 2 ≤ length slots
HasSize (Special size area) = Unit {0}

-- a component's 14 bytes: not empty, without a slash, padded with 0
pub record IsName (name : List ℕ) : Type 0 where
  pub full : length name ≡ 14
  pub some : slice_index name 0 ≢ 0
  pub no_slash : (at : ℕ) → at < 14 → slice_index name at ≢ slash
  pub padding : (at later : ℕ) → at ≤ later → slice_index name at ≡ 0 → slice_index name later ≡ 0

-- a used slot at a place
pub record IsUsedAt (slots : List PlainSlot) (at : ℕ) (slot : PlainSlot) : Type 0 where
  pub has : slice_get slots at ≡ Some slot
  pub used : is_used slot ≡ true

-- the slots of the directory with the number ino
pub record AreSlots (nodes : Numbered Node) (ino : ℕ) (slots : List PlainSlot) : Type 0 where
  -- the first slot leads to the directory itself, the second is `..`
  pub first : slice_get slots 0 ≡ Some (record { ino = ino; name = dot })
  pub parent : ℕ
  pub second : slice_get slots 1 ≡ Some (record { ino = parent; name = dot_dot })
  pub upward : parent ≢ 0
  -- a later slot has neither of their names
  pub no_dots : (at : ℕ) (slot : PlainSlot) → 2 ≤ at → IsUsedAt slots at slot → is_dots slot.name ≡ false
  -- a used slot leads to an inode in use, but never to inode 1
  pub leads : (at : ℕ) (slot : PlainSlot) → IsUsedAt slots at slot → (slot.ino ≢ 1) × IsThere nodes slot.ino
  -- names are names, and each stands once
  pub names : (at : ℕ) (slot : PlainSlot) → IsUsedAt slots at slot → IsName slot.name
  pub distinct : (at other : ℕ) (slot twin : PlainSlot) → IsUsedAt slots at slot → IsUsedAt slots other twin → slot.name ≡ twin.name → at ≡ other

abbrev pub leads_to : ℕ → PlainSlot → Bool
leads_to ino slot = slot.ino == ino

-- how many slots of an inode after its first skip lead to ino
abbrev pub links_from : ℕ → ℕ → Body → ℕ
links_from skip ino (Regular size parts) = 0
links_from skip ino (Directory slots) = count_by (leads_to ino) (drop skip slots)
links_from skip ino (Special size area) = 0

abbrev pub links_at : ℕ → ℕ → Option Node → ℕ
links_at skip ino None = 0
links_at skip ino (Some node) = links_from skip ino node.body

-- the slots of the whole tree that lead to ino, but for the first skip of each directory
abbrev pub links_past : ℕ → Tree → ℕ → ℕ
links_past skip tree ino = sum_below (λ dir. links_at skip ino (fin.get tree.nodes dir)) (tree.last + 1)

-- all of them, as a link count counts them
abbrev pub links : Tree → ℕ → ℕ
links tree ino = links_past 0 tree ino

-- a used slot after the second of a directory leads to ino
pub record Leads (nodes : Numbered Node) (dir at ino : ℕ) : Type 0 where
  pub node : Node
  pub slots : List PlainSlot
  pub slot : PlainSlot
  pub has : fin.get nodes dir ≡ Some node
  pub body : node.body ≡ Directory slots
  pub late : 2 ≤ at
  pub entry : IsUsedAt slots at slot
  pub leads : slot.ino ≡ ino

-- what the root leads to
pub data Reached (nodes : Numbered Node) : ℕ → Type 0 where
  root : Reached nodes 2
  down : {ino : ℕ} (dir at : ℕ) → Reached nodes dir → Leads nodes dir at ino → Reached nodes ino

-- a directory below the root: one slot leads to it, its `..` is the directory with that slot, and the root
-- leads to it
pub record HasParent (tree : Tree) (ino : ℕ) (slots : List PlainSlot) : Type 0 where
  pub one : links_past 2 tree ino ≡ 1
  pub parent : ℕ
  pub at : ℕ
  pub upward : slice_get slots 1 ≡ Some (record { ino = parent; name = dot_dot })
  pub entry : Leads tree.nodes parent at ino
  pub reached : Reached tree.nodes ino

-- the root: its `..` is itself, and no slot after the second of a directory leads to it
pub record IsRoot (tree : Tree) : Type 0 where
  pub node : Node
  pub slots : List PlainSlot
  pub has : fin.get tree.nodes 2 ≡ Some node
  pub body : node.body ≡ Directory slots
  pub upward : slice_get slots 1 ≡ Some (record { ino = 2; name = dot_dot })
  pub top : links_past 2 tree 2 ≡ 0

abbrev pub Each : Tree → (ℕ → Node → Type 0) → Type 0
Each tree P = (ino : ℕ) (node : Node) → fin.get tree.nodes ino ≡ Some node → P ino node

abbrev pub EachDirectory : Tree → (ℕ → List PlainSlot → Type 0) → Type 0
EachDirectory tree P = (ino : ℕ) (node : Node) (slots : List PlainSlot) → fin.get tree.nodes ino ≡ Some node → node.body ≡ Directory slots → P ino slots

pub record IsSound (tree : Tree) : Type 0 where
  pub numbers : Each tree (λ ino node. (1 ≤ ino) × (ino ≤ tree.last))
  pub kinds : Each tree (λ ino node. HasKind node.mode node.body)
  pub sizes : Each tree (λ ino node. HasSize node.body)
  pub root : IsRoot tree
  pub slots : EachDirectory tree (AreSlots tree.nodes)
  pub parents : EachDirectory tree (λ ino slots. ino ≢ 2 → HasParent tree ino slots)
  -- inode 1 may be in use without a name and with any link count
  pub counted : Each tree (λ ino node. ino ≢ 1 → node.nlink ≡ links tree ino)
  pub few : Each tree (λ ino node. ino ≢ 1 → node.nlink ≤ 32767)
  pub room : cost tree ≤ tree.cap
