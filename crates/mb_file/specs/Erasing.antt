-- An inode erased with all that it holds: a step of an operation.
use Rattle.std.specs.Prelude.{List, [], ℕ, ◌≡◌, ◌||◌, Bool, true, Option, Some, cond}
use Rattle.std.specs.FinMap as fin
use Rattle.mb_kinds.specs.Image.{Image}
use Rattle.mb_layout.specs.declared.dinodes.Dinode.{Dinode}
use Rattle.mb_tree.specs.Inodes.{is_directory, is_regular}
use Rattle.mb_tree.specs.Places.{Pointers}
use Rattle.mb_tree.specs.Trees.{HasKind}
use Rattle.mb_tree.specs.declared.nodes.Node.{Node}
use Rattle.mb_tree.specs.declared.trees.Tree.{Tree}
use Rattle.mb_iface.specs.Acting.{with_changes}
use Rattle.mb_kinds.specs.Changed.{ChangeList, IsWithinView}
use Rattle.mb_iface.specs.Needs.{IsNeed}
use Rattle.mb_alloc.specs.declared.frees.Hung.{Hung}
use Rattle.mb_alloc.specs.declared.frees.Hung.TheVariants as hung
use Rattle.mb_nodes.specs.Stored.{without_node}
use Rattle.mb_moves.specs.Advancing.{AdvancesTo, IsNearTo, OnStored}
use Rattle.mb_file.specs.Walking.{under_dinode}

-- the blocks that an inode of a kind with addresses holds
abbrev pub held_blocks : Pointers → Dinode → List ℕ
held_blocks ps d = cond (is_directory d.mode || is_regular d.mode) (under_dinode ps d) []

-- a node that is looked at, of the kind that its mode says
pub record IsErasable (tree : Tree) (looks : ℕ → Bool) (ino : ℕ) (node : Node) : Type 0 where
  pub looked : looks ino ≡ true
  pub has : fin.get tree.nodes ino ≡ Some node
  pub kind : HasKind node.mode node.body

-- what a step says of a stored tree in which such a node has the number
abbrev pub OnErasable : (ℕ → Option (List ℕ)) → ChangeList → ℕ → (Image → Tree → (ℕ → Bool) → Type 0) → Type 0
OnErasable shown old ino says = OnStored shown old (λ image tree chain. (looks : ℕ → Bool) (node : Node) → IsErasable tree looks ino node → says image tree looks)

-- the tree without the node is stored
abbrev pub Erases : (ℕ → Option (List ℕ)) → ChangeList → ChangeList → ℕ → Hung → Type 0
Erases shown old new ino hung.Done = (IsWithinView shown old → IsWithinView shown new)
    × OnErasable shown old ino (λ image tree looks. AdvancesTo image tree looks old new (without_node tree ino))
Erases shown old new ino (hung.Need need) = IsNeed shown need × OnErasable shown old ino (λ image tree looks. IsNearTo (with_changes image old) tree looks need.first)
Erases shown old new ino hung.NoMemory = Unit {0}
