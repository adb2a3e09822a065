-- An inode made under a new name of a directory: a file, or a directory.
use Rattle.std.specs.Prelude.{List, ℕ, ◌≡◌, Bool, Option, Some, Err, IfSome}
use Rattle.mb_kinds.specs.Image.{Image}
use Rattle.mb_kinds.specs.declared.errors.Errno.TheVariants.{ENOSPC}
use Rattle.mb_tree.specs.Effect.{fitting}
use Rattle.mb_tree.specs.Step.{IsFreeNumber}
use Rattle.mb_tree.specs.declared.nodes.Node.{Node}
use Rattle.mb_tree.specs.declared.trees.Tree.{Tree}
use Rattle.mb_iface.specs.Acting.{PicksNumber}
use Rattle.mb_kinds.specs.Changed.{ChangeList, IsWithinView}
use Rattle.mb_iface.specs.Needs.{IsNeed}
use Rattle.mb_nodes.specs.Stored.{with_node}
use Rattle.mb_moves.specs.Advancing.{AdvancesTo}
use Rattle.mb_dirs.specs.Choosing.{IsChoice}
use Rattle.mb_dirs.specs.Entering.{IsGap, named_node}
use Rattle.mb_dirs.specs.Making.{directory_made, file_made}
use Rattle.mb_dirs.specs.Steps.{OnSlots, IsNearFirst}
use Rattle.mb_dirs.specs.declared.choices.Chosen.{Chosen}
use Rattle.mb_dirs.specs.declared.choices.Chosen.TheVariants as chosen
use Rattle.mb_dirs.specs.declared.enters.Gap.{Gap}
use Rattle.mb_dirs.specs.declared.makes.NewInode.{NewInode}

-- the tree with the name and the new inode
abbrev pub with_new : Tree → ℕ → ℕ → ℕ → List ℕ → (ℕ → Node) → Node → ℕ → Tree
with_new tree dir links moment name made node ino = with_node (with_node tree dir (named_node links moment name ino node)) ino (made ino)

-- refused whatever is picked: no number is free, or the tree with the inode does not fit
pub record IsRefusedNew (tree : Tree) (demanded : Option ℕ) (wanted : ℕ → Tree) : Type 0 where
  pub picked : Option ℕ
  pub picks : PicksNumber tree demanded picked
  pub full : IfSome picked (λ ino. fitting tree (wanted ino).nodes ≡ Err ENOSPC)

-- what is said where the gap is that of a new name, and a demanded number is free
abbrev pub OnGap : (ℕ → Option (List ℕ)) → ChangeList → ℕ → Gap → Option ℕ → (Image → Tree → (ℕ → Bool) → Node → Type 0) → Type 0
OnGap shown old dir gap demanded says =
    OnSlots shown old dir (λ image tree looks node slots. IsGap slots gap → IfSome demanded (IsFreeNumber tree) → says image tree looks node)

-- an inode made under a name: the nodes that it may be, by its number
abbrev pub MakesIn : (ℕ → Option (List ℕ)) → ChangeList → ChangeList → ℕ → ℕ → ℕ → Gap → List ℕ → (ℕ → Node) → Option ℕ → Chosen → Type 0
MakesIn shown old now dir links moment gap name made demanded (chosen.Number ino) = (IsWithinView shown old → IsWithinView shown now)
    × OnGap shown old dir gap demanded (λ image tree looks node. PicksNumber tree demanded (Some ino) × IsFreeNumber tree ino × AdvancesTo image tree looks old now (with_new tree dir links moment name made node ino))
    × IsChoice shown old demanded ino
MakesIn shown old now dir links moment gap name made demanded chosen.NoneLeft = OnGap shown old dir gap demanded (λ image tree looks node. IsRefusedNew tree demanded (with_new tree dir links moment name made node))
MakesIn shown old now dir links moment gap name made demanded (chosen.Need need) = IsNeed shown need × OnGap shown old dir gap demanded (λ image tree looks node. IsNearFirst old need.first image tree looks)
MakesIn shown old now dir links moment gap name made demanded chosen.NoMemory = Unit {0}

abbrev pub CreatesIn : (ℕ → Option (List ℕ)) → ChangeList → ChangeList → ℕ → ℕ → Gap → List ℕ → NewInode → Option ℕ → Chosen → Type 0
CreatesIn shown old now dir links gap name new demanded result = MakesIn shown old now dir links new.moment gap name (λ ino. file_made new) demanded result

abbrev pub MakesDirectoryIn : (ℕ → Option (List ℕ)) → ChangeList → ChangeList → ℕ → ℕ → Gap → List ℕ → NewInode → Option ℕ → Chosen → Type 0
MakesDirectoryIn shown old now dir links gap name new demanded result = MakesIn shown old now dir links new.moment gap name (λ ino. directory_made new ino dir) demanded result
