-- Open files released.
use Rattle.std.specs.Prelude.{List, [], ◌∷◌, ℕ, ◌≤◌, ◌≡◌, Bool, true, Option, Some}
use Rattle.std.specs.FinMap as fin
use Rattle.mb_tree.specs.Effect.{less_open, release}
use Rattle.mb_tree.specs.Trees.{HasKind}
use Rattle.mb_tree.specs.declared.nodes.Node.{Node}
use Rattle.mb_tree.specs.declared.trees.Tree.{Tree}
use Rattle.mb_iface.specs.Acting.{with_changes}
use Rattle.mb_kinds.specs.Changed.{ChangeList, IsWithinView}
use Rattle.mb_iface.specs.Needs.{IsNeed}
use Rattle.mb_iface.specs.OpenCounts.{count_of}
use Rattle.mb_alloc.specs.declared.frees.Hung.{Hung}
use Rattle.mb_alloc.specs.declared.frees.Hung.TheVariants as hung
use Rattle.mb_moves.specs.Advancing.{AdvancesTo, IsNearTo, OnStored}
use Rattle.mb_fsops.specs.Performing.{OpenFiles}

-- a looked-at inode of the i-list, whose node has the kind that its mode says, if it is still there
pub record IsReleasable (tree : Tree) (looks : ℕ → Bool) (ino : ℕ) : Type 0 where
  pub looked : looks ino ≡ true
  pub some : 1 ≤ ino
  pub within : ino ≤ tree.last
  pub kind : (node : Node) → fin.get tree.nodes ino ≡ Some node → HasKind node.mode node.body

-- the tree without the inode, where it is nameless and the release of all of them leaves it closed
abbrev pub without_lost : Tree → OpenFiles → List ℕ → ℕ → Tree
without_lost tree opens inos ino = record tree { nodes = less_open tree.nodes (release (count_of opens) inos) (ino ∷ []) }

abbrev pub ReleasesOne : (ℕ → Option (List ℕ)) → ChangeList → ChangeList → OpenFiles → List ℕ → ℕ → Hung → Type 0
ReleasesOne shown old new opens inos ino hung.Done = (IsWithinView shown old → IsWithinView shown new)
    × OnStored shown old (λ image tree chain. (looks : ℕ → Bool) → IsReleasable tree looks ino → AdvancesTo image tree looks old new (without_lost tree opens inos ino))
ReleasesOne shown old new opens inos ino (hung.Need need) = IsNeed shown need
    × OnStored shown old (λ image tree chain. (looks : ℕ → Bool) → IsReleasable tree looks ino → IsNearTo (with_changes image old) tree looks need.first)
ReleasesOne shown old new opens inos ino hung.NoMemory = Unit {0}
