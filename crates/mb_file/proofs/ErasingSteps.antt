-- What the answers of an erasure say of stored trees.
use Rattle.std.proofs.Common.{ℕ, ◌≡◌, ◌⊎◌, inl, inr, ◌≤◌, List, [], Option, Some, None, IsSome, refl, sym, subst, arith}
use Rattle.std.specs.List.{Contains}
use Rattle.mb_kinds.specs.Image.{Image}
use Rattle.mb_word.specs.Fields.{inode_block, inode_place}
use Rattle.mb_layout.specs.Inode.{dinode_at}
use Rattle.mb_layout.specs.declared.dinodes.Dinode.{Dinode}
use Rattle.mb_tree.specs.Blocks.{pointers}
use Rattle.mb_tree.specs.Views.{over, IsPart}
use Rattle.mb_iface.specs.Acting.{with_changes}
use Rattle.mb_kinds.specs.Changed.{ChangeList, changed, IsWithinView}
use Rattle.mb_iface.specs.Near.IsNear.{super_block}
use Rattle.mb_iface.specs.Needs.{IsNeed}
use Rattle.mb_iface.specs.declared.replies.Need.{Need}
use Rattle.mb_blocks.specs.Owners.{without}
use Rattle.mb_alloc.specs.Inodes.{FreesInode}
use Rattle.mb_alloc.specs.declared.frees.Hung.{Hung}
use Rattle.mb_alloc.specs.declared.frees.Hung.TheVariants as hung
use Rattle.mb_nodes.specs.Bodies.{LetsGo}
use Rattle.mb_nodes.specs.Stored.{IsStored}
use Rattle.mb_tree.specs.Volume.{has_addresses}
use Rattle.mb_tree.specs.declared.trees.Tree.{Tree}
use Rattle.mb_moves.specs.Advancing.{IsNearTo}
use Rattle.mb_moves.proofs.Asking.{inode_near, stored_rules}
use Rattle.std.specs.List.Sorted.{IsPermutation}
use Rattle.std.proofs.lemmas.List.Sorted.{Contains-permutation, IsPermutation-sym}
use Rattle.mb_file.proofs.Reordered.{lets_reordered}
use Rattle.mb_file.specs.Erasing.{Erases, held_blocks}
use Rattle.mb_file.specs.Freeing.{PutsAllBack}
use Rattle.mb_file.specs.Walking.{IsListable}
use Rattle.mb_file.proofs.ErasedInodes.{blocks_in_hand, erased_whole}
use Rattle.mb_file.proofs.Holding.{held_is_near, held_lets, held_listable, its_number}

module _ (shown : ℕ → Option (List ℕ)) (old new : ChangeList) (ino : ℕ) where
  -- the inode's block, and block 1
  pub asked_inode : (need : Need) → IsNeed shown need → (need.first ≡ 1) ⊎ (need.first ≡ inode_block ino) → Erases shown old new ino (hung.Need need)
  asked_inode need is which = (is, λ image tree chain part stored looks node erasable. near image tree chain stored looks (its_number (with_changes image old) tree chain stored ino node erasable.has) which)
    where
      near : (image : Image) (tree : Tree) (chain : List ℕ) → IsStored (with_changes image old) tree chain → (looks : _) → (1 ≤ ino) × (ino ≤ tree.last) → (need.first ≡ 1) ⊎ (need.first ≡ inode_block ino)
          → IsNearTo (with_changes image old) tree looks need.first
      near image tree chain stored looks number (inl first) = super_block first
      near image tree chain stored looks number (inr own) = subst (IsNearTo (with_changes image old) tree looks) (sym own) (inode_near (with_changes image old) tree chain stored looks ino number.0 number.1)

  module _ (d : Dinode) (reads : (blocks : ℕ → List ℕ) → IsPart shown blocks → d ≡ dinode_at (over blocks (changed old) (inode_block ino)) (inode_place ino)) where
    pub asked_held : (need : Need) → IsNeed shown need
        → ((blocks : ℕ → List ℕ) → IsPart shown blocks → IsListable [] (held_blocks (pointers (over blocks (changed old))) d) → (need.first ≡ 1) ⊎ Contains (held_blocks (pointers (over blocks (changed old))) d) need.first)
        → Erases shown old new ino (hung.Need need)
    asked_held need is among = (
      is,
      λ image tree chain part stored looks node erasable.
          (let base = with_changes image old in
          let read = reads image.at part in
          elim (among image.at part (held_listable base tree chain stored ino node erasable.has erasable.kind d read)) [
            | inl first ↦ super_block first
            | inr its ↦ held_is_near base tree chain stored ino node erasable.has erasable.kind d read looks erasable.looked need.first its
          ]),
    )

    module _ (mid : ChangeList) (list : List ℕ) (frees : FreesInode shown old mid ino hung.Done)
        (holds : (blocks : ℕ → List ℕ) → IsPart shown blocks → IsListable [] (held_blocks (pointers (over blocks (changed old))) d) → IsPermutation (held_blocks (pointers (over blocks (changed old))) d) list) where
      pub erases_by : (result : Hung) → PutsAllBack shown mid new list result → Erases shown old new ino result
      erases_by hung.Done puts = (
        λ w. puts.0 (frees.0 w),
        λ image tree chain part stored looks node erasable.
            (let base = with_changes image old in
            let number = its_number base tree chain stored ino node erasable.has in
            let is : IsPermutation (held_blocks (pointers base.at) d) list = holds image.at part (held_listable base tree chain stored ino node erasable.has erasable.kind d (reads image.at part)) in
            let lets : LetsGo base.at ino node.body list = lets_reordered base.at ino node.body (held_blocks (pointers base.at) d) list is (held_lets base tree chain stored ino node erasable.has erasable.kind d (reads image.at part)) in
            let freed = frees.1 image.at part (stored_rules base tree chain stored) (omega (arith, number.0)) in
            let hand = blocks_in_hand base tree chain stored ino node erasable.has list lets freed.0 (over image.at (changed mid)) freed.1 freed.2 in
            let put = puts.1 image.at (without (has_addresses tree) ino) chain part hand in
            (_, erased_whole base tree chain stored ino node erasable.has list lets freed.0 (over image.at (changed mid)) freed.1 freed.2 looks erasable.looked (over image.at (changed new)) put)),
      )
      erases_by (hung.Need need) puts = (
        puts.0,
        λ image tree chain part stored looks node erasable.
            (let base = with_changes image old in
            let is : IsPermutation (held_blocks (pointers base.at) d) list = holds image.at part (held_listable base tree chain stored ino node erasable.has erasable.kind d (reads image.at part)) in
            elim puts.1 [
              | inl first ↦ super_block first
              | inr among ↦ held_is_near base tree chain stored ino node erasable.has erasable.kind d (reads image.at part) looks erasable.looked need.first (Contains-permutation list (held_blocks (pointers base.at) d) need.first (IsPermutation-sym (held_blocks (pointers base.at) d) list is) among)
            ]),
      )
      erases_by hung.NoMemory puts = tt

-- ---- no change

some_not : (o : Option (List ℕ)) → o ≡ None → IsSome o → ⊥
some_not None e some = cc
some_not (Some x) e some = cc

pub within_none : (shown : ℕ → Option (List ℕ)) → IsWithinView shown []
within_none shown block some = absurd (some_not (changed [] block) refl some)
