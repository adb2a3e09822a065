-- What is near is the super-block, the i-list, what is free, and what the looked-at inodes hold.
use Rattle.std.proofs.Common.{ℕ, ◌≡◌, ◌<◌, Bool, true, false, ◌&&◌, List, refl, sym, ap, subst, ◌∙◌, arith}
use Rattle.std.specs.List.{Contains}
use Rattle.mb_kinds.specs.Image.{Image}
use Rattle.mb_tree.specs.Blocks.{pointers, first_list, list_in}
use Rattle.mb_tree.specs.Places.{Place, at, IsPlace}
use Rattle.mb_tree.specs.Places.Place.{Top, Under}
use Rattle.mb_tree.specs.Volume.{has_addresses}
use Rattle.mb_tree.specs.declared.trees.Tree.{Tree}
use Rattle.mb_tree.proofs.Chains.{chain_once}
use Rattle.mb_tree.proofs.KeptVolumes.{isize_kept}
use Rattle.mb_iface.specs.Near.{top_of}
use Rattle.mb_iface.specs.Near.IsNear.{super_block, inode_list, free, held}
use Rattle.mb_blocks.specs.Laid.{IsHad}
use Rattle.mb_blocks.specs.Laid.IsHad.{by_none, by_place}
use Rattle.mb_blocks.specs.Owners.{ino_of}
use Rattle.mb_blocks.proofs.Owning.{place_over, place_owner}
use Rattle.mb_nodes.specs.Stored.{Follows, IsStored}
use Rattle.mb_moves.specs.Advancing.{Advances, IsNearTo}
use Rattle.mb_moves.specs.Looking.{looked_at}

pub and_left : (a b : Bool) → (a && b) ≡ true → a ≡ true
and_left true b t = refl
and_left false b t = t

pub and_right : (a b : Bool) → (a && b) ≡ true → b ≡ true
and_right true b t = t
and_right false b t = cc

pub and_both : (a b : Bool) → a ≡ true → b ≡ true → (a && b) ≡ true
and_both a b s t = ap (λ x. x && b) s ∙ t

pub top_is : (q : Place) → top_of q ≡ ino_of q
top_is (Top ino p) = refl
top_is (Under q k) = top_is q

-- what some inodes have more of them have
pub had_over : (few has : ℕ → Bool) (blocks : ℕ → List ℕ) (spare : List ℕ) (block : ℕ) → ((i : ℕ) → few i ≡ true → has i ≡ true) → IsHad few blocks spare block → IsHad has blocks spare block
had_over few has blocks spare block within (by_place q h e) = by_place q (place_over few has q (within (ino_of q)) h) e
had_over few has blocks spare block within (by_none among) = by_none among

-- the places of those that pass a test
pub tested_place : (has looks : ℕ → Bool) (q : Place) → IsPlace has q → looks (ino_of q) ≡ true → IsPlace (λ i. has i && looks i) q
tested_place has looks q h t = place_over has (λ i. has i && looks i) q (λ on. and_both (has (ino_of q)) (looks (ino_of q)) on t) h

pub place_tested : (has looks : ℕ → Bool) (q : Place) → IsPlace (λ i. has i && looks i) q → IsPlace has q × (looks (ino_of q) ≡ true)
place_tested has looks q h = (place_over (λ i. has i && looks i) has q (and_left (has (ino_of q)) (looks (ino_of q))) h, and_right (has (ino_of q)) (looks (ino_of q)) (place_owner (λ i. has i && looks i) q h))

module _ (image : Image) (tree : Tree) (looks : ℕ → Bool) where
  pub place_near : (q : Place) → IsPlace (looked_at tree looks) q → IsNearTo image tree looks (at (pointers image.at) q)
  place_near q h = (let is = place_tested (has_addresses tree) looks q h in held q is.0 (ap looks (top_is q) ∙ is.1) refl)

  pub had_near : (chain : List ℕ) → IsStored image tree chain → (block : ℕ) → IsHad (looked_at tree looks) image.at chain block → IsNearTo image tree looks block
  had_near chain stored block (by_place q h e) = subst (IsNearTo image tree looks) e (place_near q h)
  had_near chain stored block (by_none among) = free chain stored.spare.listed among

  -- a step whose blocks that are had were had before leaves nothing near that was not near
  module _ (chain : List ℕ) (stored : IsStored image tree chain) (next : Tree) (now : ℕ → List ℕ) (left : List ℕ) (follows : Follows image tree now next left)
      (had : (block : ℕ) → 0 < block → IsHad (looked_at next looks) now left block → IsHad (looked_at tree looks) image.at chain block) where
    near_by : (block : ℕ) → 0 < block → IsNearTo (record image { at = now }) next looks block → IsNearTo image tree looks block
    near_by block some (super_block is) = super_block is
    near_by block some (inode_list from below) = inode_list from (let same = isize_kept tree next image (record image { at = now }) follows.kept in omega (arith, below, same))
    near_by block some (free other lists among) =
        had_near chain stored block (had block some (by_none (subst (λ xs. Contains xs block) (chain_once (list_in now) (first_list now) other left lists follows.stored.spare.listed) among)))
    near_by block some (held q h t e) = had_near chain stored block (had block some (by_place q (tested_place (has_addresses next) looks q h (ap looks (sym (top_is q)) ∙ t)) e))

    pub advances_by : Advances image tree looks now next left
    advances_by = record { follows = follows; near = near_by }
