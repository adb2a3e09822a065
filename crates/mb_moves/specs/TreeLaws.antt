-- Equations of trees, each the contract of a function without a body: what an operation's effect does, step by step.
use Rattle.std.specs.Prelude.{List, [], ◌∷◌, ◌++◌, ℕ, ◌≤◌, ◌≡◌, ◌≢◌, true, false, not, Some, None, Ok, Err, position, slice_set, nat_le}
use Rattle.std.specs.FinMap as fin
use Rattle.mb_kinds.specs.Image.{Image}
use Rattle.mb_kinds.specs.declared.errors.Errno.TheVariants.{ENOSPC}
use Rattle.mb_tree.specs.Cost.{cost}
use Rattle.mb_tree.specs.Effect.{fitting, is_lost, less_name, less_open, unlinked, entered, emptied}
use Rattle.mb_tree.specs.Lookup.{is_used, is_named}
use Rattle.mb_tree.specs.Maps.{Numbered, changed_at}
use Rattle.mb_tree.specs.Sessions.{Counts}
use Rattle.mb_tree.specs.declared.nodes.Node.{Node}
use Rattle.mb_tree.specs.declared.nodes.PlainSlot.{PlainSlot}
use Rattle.mb_tree.specs.declared.trees.Tree.{Tree}
use Rattle.mb_nodes.specs.Stored.{IsStored}

-- the nodes of a stored tree fit
abbrev pub RoomIsThere : Type 0
RoomIsThere = (image : Image) (tree : Tree) (nodes : Numbered Node) (chain : List ℕ) → IsStored image (record tree { nodes = nodes }) chain
    → (nat_le (cost (record tree { nodes = nodes })) tree.cap ≡ true) × (fitting tree nodes ≡ Ok (record tree { nodes = nodes }))

-- a node put at a free number costs no less, so what is refused without it is refused with it
abbrev pub CostWithMore : Type 0
CostWithMore = (tree : Tree) (nodes : Numbered Node) (ino : ℕ) (node : Node) → fin.get nodes ino ≡ None
    → (cost (record tree { nodes = nodes }) ≤ cost (record tree { nodes = fin.insert nodes ino node }))
    × (fitting tree nodes ≡ Err ENOSPC → fitting tree (fin.insert nodes ino node) ≡ Err ENOSPC)

-- a node that is there changed, and one that is not
abbrev pub ChangedThere : Type 0
ChangedThere = (nodes : Numbered Node) (ino : ℕ) (node : Node) (f : Node → Node) → fin.get nodes ino ≡ Some node → changed_at nodes ino f ≡ fin.insert nodes ino (f node)

abbrev pub ChangedNowhere : Type 0
ChangedNowhere = (nodes : Numbered Node) (ino : ℕ) (f : Node → Node) → fin.get nodes ino ≡ None → changed_at nodes ino f ≡ nodes

-- a node put twice, put as it was, put or taken beside another, and taken after it was put
pub record NodesPut : Type 0 where
  pub twice : (nodes : Numbered Node) (ino : ℕ) (one two : Node) → fin.insert (fin.insert nodes ino one) ino two ≡ fin.insert nodes ino two
  pub same : (nodes : Numbered Node) (ino : ℕ) (node : Node) → fin.get nodes ino ≡ Some node → fin.insert nodes ino node ≡ nodes
  pub beside : (nodes : Numbered Node) (ino other : ℕ) (one two : Node) → other ≢ ino → fin.insert (fin.insert nodes ino one) other two ≡ fin.insert (fin.insert nodes other two) ino one
  pub taken : (nodes : Numbered Node) (ino : ℕ) (node : Node) → fin.remove (fin.insert nodes ino node) ino ≡ fin.remove nodes ino
  pub taken_beside : (nodes : Numbered Node) (ino other : ℕ) (node : Node) → other ≢ ino → fin.remove (fin.insert nodes ino node) other ≡ fin.insert (fin.remove nodes other) ino node

-- an inode that lost a name: dropped where it is lost, else it stays with a name less
abbrev pub NameLost : Type 0
NameLost = (nodes : Numbered Node) (opens : Counts) (moment ino : ℕ) (node : Node) → fin.get nodes ino ≡ Some node
    → (is_lost opens ino (Some (unlinked moment node)) ≡ true → less_name nodes opens moment ino ≡ fin.remove nodes ino)
    × (is_lost opens ino (Some (unlinked moment node)) ≡ false → less_name nodes opens moment ino ≡ fin.insert nodes ino (unlinked moment node))

-- released inodes: the lost ones dropped one after another
pub record Released (nodes : Numbered Node) (opens : Counts) : Type 0 where
  pub none : less_open nodes opens [] ≡ nodes
  pub lost : (ino : ℕ) (inos : List ℕ) → is_lost opens ino (fin.get nodes ino) ≡ true → less_open nodes opens (ino ∷ inos) ≡ less_open (fin.remove nodes ino) opens inos
  pub kept : (ino : ℕ) (inos : List ℕ) → is_lost opens ino (fin.get nodes ino) ≡ false → less_open nodes opens (ino ∷ inos) ≡ less_open nodes opens inos

abbrev pub OpenLost : Type 0
OpenLost = (nodes : Numbered Node) (opens : Counts) → Released nodes opens

-- a name entered in the first unused slot, or behind all slots where none is unused
abbrev pub EnteredFirst : Type 0
EnteredFirst = (name : List ℕ) (ino at : ℕ) (slots : List PlainSlot) → position (λ (other : PlainSlot). not (is_used other)) slots ≡ Some at
    → entered name ino slots ≡ slice_set slots at (record { ino = ino; name = name })

abbrev pub EnteredLast : Type 0
EnteredLast = (name : List ℕ) (ino : ℕ) (slots : List PlainSlot) → position (λ (other : PlainSlot). not (is_used other)) slots ≡ None
    → entered name ino slots ≡ slots ++ (record { ino = ino; name = name }) ∷ []

-- a name's slot emptied
abbrev pub EmptiedFirst : Type 0
EmptiedFirst = (name : List ℕ) (at : ℕ) (slots : List PlainSlot) → position (is_named name) slots ≡ Some at
    → emptied name slots ≡ slice_set slots at (record { ino = 0; name = name })
