-- A slot of a directory written where it stands.
use Rattle.std.proofs.Common.{ℕ, ◌≡◌, ◌/◌, ◌%◌, ◌<◌, ◌≤◌, Bool, List, Option, sym, subst, ◌∙◌, arith}
use Rattle.mb_kinds.specs.Image.{Image}
use Rattle.mb_tree.specs.Blocks.{part_address}
use Rattle.mb_tree.specs.Cost.{most_parts}
use Rattle.mb_tree.specs.Views.{over, IsPart}
use Rattle.mb_tree.specs.declared.nodes.Node.{Node}
use Rattle.mb_tree.specs.declared.nodes.PlainSlot.{PlainSlot}
use Rattle.mb_tree.specs.declared.trees.Tree.{Tree}
use Rattle.mb_bmap.specs.Locating.{Locates}
use Rattle.mb_bmap.specs.declared.addresses.Located.TheVariants as located
use Rattle.mb_iface.specs.Acting.{with_changes}
use Rattle.mb_kinds.specs.Changed.{ChangeList, changed}
use Rattle.mb_iface.specs.Needs.{IsNeed}
use Rattle.mb_iface.specs.declared.edits.Edited.TheVariants as edited
use Rattle.mb_iface.specs.declared.replies.Need.{Need}
use Rattle.mb_nodes.specs.Bodies.{IsSlotSet}
use Rattle.mb_nodes.specs.Stored.{IsStored}
use Rattle.mb_moves.specs.Advancing.{IsNearTo}
use Rattle.mb_moves.proofs.Asking.{part_near}
use Rattle.mb_moves.proofs.Setting.{slot_advances}
use Rattle.mb_dirs.specs.Entering.{SetsSlot}
use Rattle.mb_dirs.specs.SlotBlocks.{PutsSlot}
use Rattle.mb_dirs.specs.Steps.{IsLookedThrough}
use Rattle.mb_dirs.specs.declared.steps.Advanced.TheVariants as advanced
use Rattle.mb_dirs.proofs.LookedThrough.{few, held, on}
use Rattle.mb_dirs.proofs.StoredWays.{no_hole, part_bounded, way_bounded, way_near}

module _ (shown : ℕ → Option (List ℕ)) (old : ChangeList) (dir at : ℕ) (name : List ℕ) (ino : ℕ) where
  pub too_far : 67637568 ≤ at → SetsSlot shown old old dir at name ino advanced.Done
  too_far far = (λ inside. inside, λ image tree chain part stored looks node slots look low. absurd (let f = few (with_changes image old) tree chain looks stored dir node slots look in omega (arith, f, low, far)))

  module _ (near : at < 67637568) where
    below : at / 32 < most_parts
    below = omega (arith, near)

    pub no_block : (level : ℕ) → Locates shown old dir (at / 32) (located.Missing level) → SetsSlot shown old old dir at name ino advanced.Done
    no_block level found = (
      λ inside. inside,
      λ image tree chain part stored looks node slots look low.
          (let blocks = with_changes image old in
          let full = on blocks tree chain looks stored dir node slots look in
          absurd (no_hole blocks tree chain stored dir node look.has full (at / 32) below (held blocks tree chain looks stored dir node slots look at low) level found.0
          (found.1 image.at part (way_bounded blocks tree chain stored dir node look.has full (at / 32) below)))),
    )

    pub way_asked : (need : Need) → Locates shown old dir (at / 32) (located.Need need) → SetsSlot shown old old dir at name ino (advanced.Need need)
    way_asked need found = (
      found.0,
      λ image tree chain part stored looks node slots look low.
          (let blocks = with_changes image old in
          let full = on blocks tree chain looks stored dir node slots look in
          way_near blocks tree chain stored dir node look.has full (at / 32) below looks look.looked_at need.first (found.1 image.at part (way_bounded blocks tree chain stored dir node look.has full (at / 32) below))),
    )

    module _ (block : ℕ) (found : Locates shown old dir (at / 32) (located.At block)) where
      here : (image : Image) (tree : Tree) (chain : List ℕ) → IsPart shown image.at → IsStored (with_changes image old) tree chain → (looks : ℕ → Bool) (node : Node) (slots : List PlainSlot)
          → IsLookedThrough tree looks dir node slots → part_address (over image.at (changed old)) dir (at / 32) ≡ block
      here image tree chain part stored looks node slots look =
          let blocks = with_changes image old in
          found.1 image.at part (way_bounded blocks tree chain stored dir node look.has (on blocks tree chain looks stored dir node slots look) (at / 32) below)

      pub far_block : 262144 ≤ block → SetsSlot shown old old dir at name ino advanced.Done
      far_block far = (
        λ inside. inside,
        λ image tree chain part stored looks node slots look low.
            (let blocks = with_changes image old in
            let e = here image tree chain part stored looks node slots look in
            let b = part_bounded blocks tree chain stored dir node look.has (on blocks tree chain looks stored dir node slots look) (at / 32) below in
            absurd (omega (arith, e, b, far))),
      )

      pub slot_done : (new : ChangeList) → PutsSlot shown old new block (at % 32) name ino edited.Done → SetsSlot shown old new dir at name ino advanced.Done
      slot_done new puts = (
        puts.0,
        λ image tree chain part stored looks node slots look low. (
          chain,
          slot_advances (with_changes image old) tree chain looks stored dir node look.has slots look.body at low (record { ino = ino; name = name }) (over image.at (changed new))
              (subst (λ b. IsSlotSet (over image.at (changed old)) (over image.at (changed new)) b (at % 32) (record { ino = ino; name = name })) (sym (here image tree chain part stored looks node slots look)) (puts.1 image.at part (stored.bytes block))),
        ),
      )

      pub slot_asked : (need : Need) → IsNeed shown need → need.first ≡ block → SetsSlot shown old old dir at name ino (advanced.Need need)
      slot_asked need asks is = (
        asks,
        λ image tree chain part stored looks node slots look low.
            (let blocks = with_changes image old in
            subst (IsNearTo blocks tree looks) (here image tree chain part stored looks node slots look ∙ sym is)
            (part_near blocks tree looks dir (at / 32) node look.has (on blocks tree chain looks stored dir node slots look) look.looked_at below)),
      )
