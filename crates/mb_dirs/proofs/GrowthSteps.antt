-- A slot added behind those of a directory, on changes over an image.
use Rattle.std.proofs.Common.{ℕ, ◌≡◌, ◌/◌, ◌%◌, ◌≤◌, ◌⊎◌, inl, inr, List, Option, sym, ap, subst, ◌∙◌, arith}
use Rattle.mb_word.specs.Fields.{inode_block, inode_place}
use Rattle.mb_layout.specs.Inode.{dinode_at}
use Rattle.mb_layout.specs.declared.dinodes.Dinode.{Dinode}
use Rattle.mb_tree.specs.Blocks.{part_address}
use Rattle.mb_tree.specs.Places.{place_of}
use Rattle.mb_tree.specs.Views.{over, IsPart}
use Rattle.mb_tree.specs.Volume.{has_addresses}
use Rattle.mb_blocks.specs.Growing.{Reaches}
use Rattle.mb_bmap.specs.Reaching.{ReachesPart}
use Rattle.mb_bmap.specs.declared.reaches.Reached.TheVariants as reached
use Rattle.mb_iface.specs.Acting.{with_changes}
use Rattle.mb_kinds.specs.Changed.{ChangeList, changed}
use Rattle.mb_iface.specs.Needs.{IsNeed}
use Rattle.mb_iface.specs.declared.edits.Edited.TheVariants as edited
use Rattle.mb_iface.specs.declared.replies.Need.{Need}
use Rattle.mb_nodes.specs.Bodies.{IsSlotSet}
use Rattle.mb_moves.specs.Advancing.{IsNearTo}
use Rattle.mb_moves.specs.Looking.{looked_at}
use Rattle.mb_moves.proofs.Asking.{reaching_near, ready_for}
use Rattle.mb_dirs.specs.Growth.{EntersBehind, longer_inode}
use Rattle.mb_dirs.specs.Rewriting.{RewritesInode}
use Rattle.mb_dirs.specs.SlotBlocks.{PutsSlot}
use Rattle.mb_dirs.specs.declared.enters.Entered.TheVariants as entered
use Rattle.mb_dirs.specs.declared.steps.Advanced.TheVariants as advanced
use Rattle.mb_dirs.proofs.Growing.{grown, growth_refused, midway, next_part, next_place, part_below}
use Rattle.mb_dirs.proofs.LookedThrough.{on, within}
use Rattle.mb_dirs.proofs.PartReached.{block_near, in_volume, sized}

module _ (shown : ℕ → Option (List ℕ)) (old : ChangeList) (dir links moment : ℕ) (name : List ℕ) (ino : ℕ) (d : Dinode)
    (reads : (blocks : ℕ → List ℕ) → IsPart shown blocks → d ≡ dinode_at (over blocks (changed old) (inode_block dir)) (inode_place dir)) where
  abbrev next : ℕ
  next = d.size / 16 / 32

  abbrev place : ℕ
  place = d.size / 16 % 32

  pub too_long : (new : ChangeList) → 2113674 ≤ next → EntersBehind shown old new dir links moment name ino entered.NoneLeft
  too_long new far = λ image tree chain part stored looks node slots look none.
      (let b = part_below (with_changes image old) tree chain looks stored dir node slots look none d (reads image.at part) links moment name ino in absurd (omega (arith, b, far)))

  pub no_room : (new : ChangeList) → ReachesPart shown old new dir next reached.NoneLeft → EntersBehind shown old new dir links moment name ino entered.NoneLeft
  no_room new reach = λ image tree chain part stored looks node slots look none.
      (let blocks = with_changes image old in
      growth_refused blocks tree chain looks stored dir node slots look none d (reads image.at part) links moment name ino
      (reach image.at (has_addresses tree) chain part (ready_for blocks tree chain stored dir node look.has (on blocks tree chain looks stored dir node slots look)).0))

  pub way_asked : (new : ChangeList) (need : Need) → ReachesPart shown old new dir next (reached.Need need) → EntersBehind shown old new dir links moment name ino (entered.Need need)
  way_asked new need reach = (
    reach.0,
    λ image tree chain part stored looks node slots look none.
        (let blocks = with_changes image old in
        let inside = within blocks tree chain looks stored dir node slots look in
        reaching_near blocks tree chain stored looks dir need.first inside.0 inside.1
        (reach.1 image.at (looked_at tree looks) chain part ((ready_for blocks tree chain stored dir node look.has (on blocks tree chain looks stored dir node slots look)).1 looks look.looked_at))),
  )

  module _ (mid : ChangeList) (block : ℕ) (reach : ReachesPart shown old mid dir next (reached.At block)) where
    pub out_of_range : (new : ChangeList) → (block ≡ 0) ⊎ (262144 ≤ block) → EntersBehind shown old new dir links moment name ino entered.NoneLeft
    out_of_range new off = λ image tree chain part stored looks node slots look none.
        (let blocks = with_changes image old in
        let way = reach.1 image.at (looked_at tree looks) chain part ((ready_for blocks tree chain stored dir node look.has (on blocks tree chain looks stored dir node slots look)).1 looks look.looked_at) in
        let b = part_below blocks tree chain looks stored dir node slots look none d (reads image.at part) links moment name ino in
        let range = in_volume blocks tree looks (looked_at tree looks) (over image.at (changed old)) (over image.at (changed mid)) dir next
        (midway blocks tree chain looks stored dir node slots look none d (reads image.at part) links moment name ino) b way.0 block way.1 in
        absurd (elim off [ inl zero_block ↦ omega (arith, zero_block, range.0) | inr far ↦ omega (arith, far, range.1) ]))

    pub block_asked : (new : ChangeList) (need : Need) → IsNeed shown need → need.first ≡ block → EntersBehind shown old new dir links moment name ino (entered.Need need)
    block_asked new need asks is = (
      asks,
      λ image tree chain part stored looks node slots look none.
          (let blocks = with_changes image old in
          let inside = within blocks tree chain looks stored dir node slots look in
          let way = reach.1 image.at (looked_at tree looks) chain part ((ready_for blocks tree chain stored dir node look.has (on blocks tree chain looks stored dir node slots look)).1 looks look.looked_at) in
          let b = part_below blocks tree chain looks stored dir node slots look none d (reads image.at part) links moment name ino in
          subst (IsNearTo blocks tree looks) (sym is)
          (block_near blocks tree looks (looked_at tree looks) (over image.at (changed old)) (over image.at (changed mid)) dir next
          (midway blocks tree chain looks stored dir node slots look none d (reads image.at part) links moment name ino) b way.0 block way.1 chain stored inside.0 inside.1)),
    )

    pub all_done : (then new : ChangeList) → PutsSlot shown mid then block place name ino edited.Done → RewritesInode shown then new dir (longer_inode d links moment) advanced.Done
        → EntersBehind shown old new dir links moment name ino entered.Done
    all_done then new puts writes = (
      λ inside. writes.0 (puts.0 (reach.0 inside)),
      λ image tree chain part stored looks node slots look none.
          (let blocks = with_changes image old in
          let way = reach.1 image.at (looked_at tree looks) chain part ((ready_for blocks tree chain stored dir node look.has (on blocks tree chain looks stored dir node slots look)).1 looks look.looked_at) in
          let b = part_below blocks tree chain looks stored dir node slots look none d (reads image.at part) links moment name ino in
          let e = next_part blocks tree chain looks stored dir node slots look none d (reads image.at part) links moment name ino in
          let f = next_place blocks tree chain looks stored dir node slots look none d (reads image.at part) links moment name ino in
          let long = sized blocks tree looks (looked_at tree looks) (over image.at (changed old)) (over image.at (changed mid)) dir next
          (midway blocks tree chain looks stored dir node slots look none d (reads image.at part) links moment name ino) b way.0 block way.1 block in
          grown blocks tree chain looks stored dir node slots look none d (reads image.at part) links moment name ino (over image.at (changed mid)) (over image.at (changed then)) (over image.at (changed new)) block
          (subst (λ k. Reaches (over image.at (changed old)) (over image.at (changed mid)) (place_of dir k)) e way.0) (sym (ap (part_address (over image.at (changed mid)) dir) e) ∙ way.1)
          (subst (λ k. IsSlotSet (over image.at (changed mid)) (over image.at (changed then)) block k (record { ino = ino; name = name })) f (puts.1 image.at part long)) (writes.1 image.at part)),
    )
