-- The first steps of an operation on a volume, its last, and what it asks for.
use Rattle.std.proofs.Common.{ℕ, ◌≡◌, ◌≢◌, ◌≤◌, ◌<◌, ◌⊎◌, inl, inr, true, false, ◌==◌, ◌||◌, List, [], Option, Some, None, Ok, Err, option_map, unwrap_or, refl, sym, ap, subst, ◌∙◌, arith}
use Rattle.std.specs.FinMap as fin
use Rattle.std.specs.List.{Contains}
use Rattle.mb_kinds.specs.Image.{Image}
use Rattle.mb_kinds.specs.declared.errors.Errno.{Errno}
use Rattle.mb_word.specs.Fields.{isize_of}
use Rattle.mb_tree.specs.Blocks.{IsFreeChain}
use Rattle.mb_tree.specs.Effect.{tree_after}
use Rattle.mb_tree.specs.Fits.{Fits}
use Rattle.mb_tree.specs.Inodes.{kind_of}
use Rattle.mb_tree.specs.Maps.{Numbered, changed_at}
use Rattle.mb_tree.specs.PickLaws.{makes_inode}
use Rattle.mb_tree.specs.Sessions.{Counts}
use Rattle.mb_tree.specs.Trees.{HasKind}
use Rattle.mb_tree.specs.Views.{over, IsPart}
use Rattle.mb_tree.specs.Volume.{IsVolume}
use Rattle.mb_tree.specs.declared.nodes.Body.{Body}
use Rattle.mb_tree.specs.declared.nodes.Body.TheVariants.{Regular, Directory, Special}
use Rattle.mb_tree.specs.declared.nodes.Node.{Node}
use Rattle.mb_tree.specs.declared.operations.FsOp.{FsOp}
use Rattle.mb_tree.specs.declared.trees.Tree.{Tree}
use Rattle.mb_tree.proofs.FiniteMaps.{none_there}
use Rattle.mb_iface.specs.Acting.{Acts, HasDone, HasRefused, Picks, PicksIf, with_changes}
use Rattle.mb_kinds.specs.Changed.{ChangeList, IsWithinView, changed}
use Rattle.mb_iface.specs.Near.{IsNear, IsTouched}
use Rattle.mb_iface.specs.Near.IsNear.{super_block, inode_list, free}
use Rattle.mb_iface.specs.OpenCounts.{count_of}
use Rattle.mb_iface.specs.declared.replies.Acted.{Acted}
use Rattle.mb_iface.specs.declared.replies.Acted.TheVariants as acted
use Rattle.mb_fsops.specs.Performing.{OpenFiles}
use Rattle.mb_nodes.specs.Stored.{IsStored}
use Rattle.mb_nodes.proofs.Volumes.{stored_of}
use Rattle.mb_moves.specs.Advancing.{AdvancesTo, IsNearTo, OnStored}
use Rattle.mb_moves.specs.Looking.{touches}
use Rattle.mb_moves.proofs.Done.{operation_done, operation_refused}
use Rattle.mb_moves.proofs.InARow.{itself, near_before}
use Rattle.mb_moves.proofs.Touching.{near_touched}

pub none_within : (shown : ℕ → Option (List ℕ)) → IsWithinView shown []
none_within shown block there = absurd (none_there (changed [] block) refl there)

-- block 1, and a block of the i-list
pub asked_first : (image : Image) (Looks : ℕ → Type 0) (tree : Tree) (block : ℕ) → (block ≡ 1) ⊎ ((2 ≤ block) × (block < isize_of (over image.at (changed []) 1))) → IsNear image tree Looks block
unfolding over
asked_first image Looks tree block (inl one) = super_block one
asked_first image Looks tree block (inr listed) = inode_list listed.0 listed.1

-- ---- kinds

kind_above : (mode : ℕ) (body : Body) → HasKind mode body → kind_of mode ≢ 0
kind_above mode (Regular size parts) kind e = (let t = subst (λ k. (k == 0x8000) ≡ true) e kind in cc)
kind_above mode (Directory slots) kind e = (let t = subst (λ k. (k == 0x4000) ≡ true) e kind in cc)
kind_above mode (Special size area) kind e = (let t = subst (λ k. (k == 0x2000 || k == 0x6000) ≡ true) e kind in cc)

-- a mode with the kind of an inode in use is not that of a free one
pub mode_above : (old new : ℕ) (body : Body) → HasKind old body → kind_of new ≡ kind_of old → new ≢ 0
mode_above old new body kind same e = kind_above old body kind (sym same ∙ ap kind_of e)

-- ---- nodes

pub changed_there : (nodes : Numbered Node) (ino : ℕ) (node : Node) (f : Node → Node) → fin.get nodes ino ≡ Some node → changed_at nodes ino f ≡ fin.insert nodes ino (f node)
changed_there nodes ino node f has = ap (λ (o : Option Node). unwrap_or (option_map (λ (x : Node). fin.insert nodes ino (f x)) o) nodes) has

-- ---- an operation that makes no inode

picks_none : (tree : Tree) (op : FsOp) (demanded : Option ℕ) → makes_inode op ≡ false → Picks tree op demanded None
picks_none tree op demanded makes = subst (λ b. PicksIf b tree demanded None) (sym makes) refl

module _ (shown : ℕ → Option (List ℕ)) (image : Image) (tree : Tree) (part : IsPart shown image.at) (volume : IsVolume image tree) where
  pub stored_first : IsStored (with_changes image []) tree volume.chain
  stored_first = subst (λ i. IsStored i tree volume.chain) (sym (itself image)) (stored_of image tree volume)

  -- block 1, and a block of the free chain
  pub asked_free : (Looks : ℕ → Type 0) (block : ℕ)
      → ((blocks : ℕ → List ℕ) (chain : List ℕ) → IsPart shown blocks → IsFreeChain (over blocks (changed [])) chain → (block ≡ 1) ⊎ Contains chain block) → IsNear image tree Looks block
  asked_free Looks block lacks = elim (lacks image.at volume.chain part stored_first.spare.listed) [
    | inl first ↦ super_block first
    | inr among ↦ free volume.chain (stored_of image tree volume).spare.listed among
  ]

  -- what a step on no changes says
  pub at_first : (says : Image → Tree → List ℕ → Type 0) → OnStored shown [] says → says image tree volume.chain
  at_first says step = step image tree volume.chain part stored_first

  module _ (op : FsOp) (makes : makes_inode op ≡ false) (opens : Counts) (demanded : Option ℕ) where
    pub done : (next : Tree) (changes : ChangeList) → Fits tree opens op demanded → tree_after tree opens op None ≡ Ok next → AdvancesTo image tree (touches tree op) [] changes next
        → IsWithinView shown changes → HasDone shown image tree opens op demanded changes None
    done next changes fits after step within = operation_done shown image tree next (touches tree op) opens op demanded None changes volume fits (picks_none tree op demanded makes) after step within

    pub refused : (e : Errno) → tree_after tree opens op None ≡ Err e → HasRefused tree opens op demanded e
    refused e after = operation_refused tree opens op demanded None e (picks_none tree op demanded makes) after

    pub near_first : (block : ℕ) → IsNearTo (with_changes image []) tree (touches tree op) block → IsNear image tree (IsTouched tree op) block
    near_first block near = (near_touched image tree op block).1 near

    pub near_then : (next : Tree) (changes : ChangeList) (block : ℕ) → AdvancesTo image tree (touches tree op) [] changes next → 1 ≤ block
        → IsNearTo (with_changes image changes) next (touches tree op) block → IsNear image tree (IsTouched tree op) block
    near_then next changes block step some near = near_first block (near_before image tree next (touches tree op) [] changes block step (omega (arith, some)) near)

-- what is promised of an operation that fits is promised of it
pub acts_fitting : (shown : ℕ → Option (List ℕ)) (image : Image) (tree : Tree) (opens : OpenFiles) (op : FsOp) (demanded : Option ℕ) (result : Acted)
    → (Fits tree (count_of opens) op demanded → Acts shown image tree opens op demanded result) → Acts shown image tree opens op demanded result
acts_fitting shown image tree opens op demanded (acted.Done changes picked) says = λ fits. says fits fits
acts_fitting shown image tree opens op demanded (acted.Refused e) says = λ fits. says fits fits
acts_fitting shown image tree opens op demanded (acted.Need need) says = λ fits. says fits fits
acts_fitting shown image tree opens op demanded acted.NoMemory says = tt
