-- A regular file emptied: a step of an operation.
use Rattle.std.specs.Prelude.{List, ℕ, ◌≡◌, Bool, true, Option, Some, replicate, slice_index, slice_set}
use Rattle.std.specs.FinMap as fin
use Rattle.mb_kinds.specs.Image.{Image}
use Rattle.mb_layout.specs.declared.dinodes.Dinode.{Dinode}
use Rattle.mb_tree.specs.Effect.{blanked}
use Rattle.mb_tree.specs.Maps.{Numbered}
use Rattle.mb_tree.specs.declared.nodes.Body.TheVariants.{Regular}
use Rattle.mb_tree.specs.declared.nodes.Node.{Node}
use Rattle.mb_tree.specs.declared.trees.Tree.{Tree}
use Rattle.mb_iface.specs.Acting.{with_changes}
use Rattle.mb_kinds.specs.Changed.{ChangeList, IsWithinView}
use Rattle.mb_iface.specs.Needs.{IsNeed}
use Rattle.mb_alloc.specs.declared.frees.Hung.{Hung}
use Rattle.mb_alloc.specs.declared.frees.Hung.TheVariants as hung
use Rattle.mb_nodes.specs.Stored.{with_node}
use Rattle.mb_moves.specs.Advancing.{AdvancesTo, IsNearTo, OnStored}

-- an inode's value without size and addresses; the byte behind the addresses stays
abbrev pub emptied_inode : Dinode → ℕ → Dinode
emptied_inode d moment = record d { size = 0; area = slice_set (replicate 40 0) 39 (slice_index d.area 39); mtime = moment; ctime = moment }

-- a regular file that is looked at
pub record IsFileAt (tree : Tree) (looks : ℕ → Bool) (ino : ℕ) (node : Node) : Type 0 where
  pub looked : looks ino ≡ true
  pub has : fin.get tree.nodes ino ≡ Some node
  pub size : ℕ
  pub parts : Numbered (List ℕ)
  pub body : node.body ≡ Regular size parts

-- what a step says of a stored tree in which such a file has the number
abbrev pub OnFile : (ℕ → Option (List ℕ)) → ChangeList → ℕ → (Image → Tree → (ℕ → Bool) → Node → Type 0) → Type 0
OnFile shown old ino says = OnStored shown old (λ image tree chain. (looks : ℕ → Bool) (node : Node) → IsFileAt tree looks ino node → says image tree looks node)

abbrev pub Clears : (ℕ → Option (List ℕ)) → ChangeList → ChangeList → ℕ → ℕ → Hung → Type 0
Clears shown old new ino moment hung.Done = (IsWithinView shown old → IsWithinView shown new)
    × OnFile shown old ino (λ image tree looks node. AdvancesTo image tree looks old new (with_node tree ino (blanked moment node)))
Clears shown old new ino moment (hung.Need need) = IsNeed shown need × OnFile shown old ino (λ image tree looks node. IsNearTo (with_changes image old) tree looks need.first)
Clears shown old new ino moment hung.NoMemory = Unit {0}
