-- Steps in a row are one step.
use Rattle.std.proofs.Common.{ℕ, ◌≡◌, ◌<◌, Bool, List, [], refl, sym, ap, subst}
use Rattle.mb_kinds.specs.Image.{Image}
use Rattle.mb_tree.specs.Views.{over}
use Rattle.mb_tree.specs.Volume.{IsVolume}
use Rattle.mb_tree.specs.declared.trees.Tree.{Tree}
use Rattle.mb_tree.proofs.KeptVolumes.{kept_composes, kept_same}
use Rattle.mb_iface.specs.Acting.{with_changes}
use Rattle.mb_kinds.specs.Changed.{ChangeList, changed}
use Rattle.mb_nodes.specs.Stored.{IsStored}
use Rattle.mb_nodes.proofs.Volumes.{stored_of}
use Rattle.mb_moves.specs.Advancing.{Advances, AdvancesTo, IsNearTo}

pub nothing_done : (image : Image) (tree : Tree) (chain : List ℕ) (looks : ℕ → Bool) → IsStored image tree chain → Advances image tree looks image.at tree chain
nothing_done image tree chain looks stored = record { follows = record { stored = stored; kept = kept_same tree image }; near = λ block some near. near }

pub one_after_another : (image : Image) (tree next last : Tree) (looks : ℕ → Bool) (mid new : ℕ → List ℕ) (between left : List ℕ)
    → Advances image tree looks mid next between → Advances (record image { at = mid }) next looks new last left → Advances image tree looks new last left
one_after_another image tree next last looks mid new between left one two = record {
  follows = record {
    stored = two.follows.stored;
    kept = kept_composes tree next last image (record image { at = mid }) (record image { at = new }) one.follows.kept two.follows.kept;
  };
  near = λ block some near. one.near block some (two.near block some near);
}

pub nothing_changed : (image : Image) (tree : Tree) (chain : List ℕ) (looks : ℕ → Bool) (old : ChangeList) → IsStored (with_changes image old) tree chain → AdvancesTo image tree looks old old tree
nothing_changed image tree chain looks old stored = (chain, nothing_done (with_changes image old) tree chain looks stored)

pub changed_in_turn : (image : Image) (tree next last : Tree) (looks : ℕ → Bool) (old mid new : ChangeList) → AdvancesTo image tree looks old mid next → AdvancesTo image next looks mid new last
    → AdvancesTo image tree looks old new last
changed_in_turn image tree next last looks old mid new one two =
    (two.0, one_after_another (with_changes image old) tree next last looks (over image.at (changed mid)) (over image.at (changed new)) one.0 two.0 one.1 two.1)

pub stored_after : (image : Image) (tree next : Tree) (looks : ℕ → Bool) (old new : ChangeList) → AdvancesTo image tree looks old new next → (left : List ℕ) × IsStored (with_changes image new) next left
stored_after image tree next looks old new step = (step.0, step.1.follows.stored)

pub near_before : (image : Image) (tree next : Tree) (looks : ℕ → Bool) (old new : ChangeList) (block : ℕ) → AdvancesTo image tree looks old new next → 0 < block
    → IsNearTo (with_changes image new) next looks block → IsNearTo (with_changes image old) tree looks block
near_before image tree next looks old new block step some near = step.1.near block some near

-- no block is changed at first
unchanged : (blocks : ℕ → List ℕ) → over blocks (changed []) ≡ blocks
unfolding over
unchanged blocks = refl

pub itself : (image : Image) → with_changes image [] ≡ image
itself image = ap (λ blocks. record image { at = blocks }) (unchanged image.at)

pub stored_at_first : (image : Image) (tree : Tree) → IsVolume image tree → (with_changes image [] ≡ image) × (chain : List ℕ) × IsStored (with_changes image []) tree chain
stored_at_first image tree volume = (itself image, volume.chain, subst (λ i. IsStored i tree volume.chain) (sym (itself image)) (stored_of image tree volume))
