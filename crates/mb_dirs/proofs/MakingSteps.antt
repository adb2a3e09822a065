-- An inode made, on changes over an image.
use Rattle.std.proofs.Common.{ℕ, ◌≡◌, ◌≢◌, ◌≤◌, ◌⊎◌, inl, inr, Bool, List, Option, refl, sym, subst, arith}
use Rattle.std.specs.Prelude.{bit_or}
use Rattle.mb_kinds.specs.Image.{Image}
use Rattle.mb_layout.specs.declared.dinodes.Dinode.{Dinode}
use Rattle.mb_tree.specs.Effect.{dot, dot_dot, first_slots}
use Rattle.mb_tree.specs.Views.{over, IsPart}
use Rattle.mb_tree.specs.declared.trees.Tree.{Tree}
use Rattle.mb_bmap.specs.Reaching.{ReachesPart}
use Rattle.mb_bmap.specs.declared.reaches.Reached.TheVariants as reached
use Rattle.mb_iface.specs.Acting.{with_changes}
use Rattle.mb_kinds.specs.Changed.{ChangeList, changed}
use Rattle.mb_iface.specs.Needs.{IsNeed}
use Rattle.mb_iface.specs.declared.edits.Edited.TheVariants as edited
use Rattle.mb_iface.specs.declared.replies.Need.{Need}
use Rattle.mb_nodes.specs.Stored.{IsStored}
use Rattle.mb_moves.specs.Advancing.{IsNearTo}
use Rattle.mb_moves.specs.Looking.{and_one, looked_at}
use Rattle.mb_moves.specs.Midway.{IsMidway}
use Rattle.mb_moves.proofs.Asking.{inode_near}
use Rattle.mb_moves.proofs.Within.{midway_near}
use Rattle.mb_dirs.specs.Making.{MakesDirectory, MakesFile, directory_made, file_made, new_inode}
use Rattle.mb_dirs.specs.Rewriting.{WritesBlank}
use Rattle.mb_dirs.specs.SlotBlocks.{PutsSlot}
use Rattle.mb_dirs.specs.Steps.{IsUnusedIn}
use Rattle.mb_dirs.specs.declared.enters.Entered.TheVariants as entered
use Rattle.mb_dirs.specs.declared.makes.NewInode.{NewInode}
use Rattle.mb_dirs.specs.declared.steps.Advanced.{Advanced}
use Rattle.mb_dirs.specs.declared.steps.Advanced.TheVariants as advanced
use Rattle.mb_dirs.proofs.Making.{birth, directory, file, mode_used, refused, says}
use Rattle.mb_dirs.proofs.PartReached.{block_near, in_volume, sized}

pub file_step : (shown : ℕ → Option (List ℕ)) (old now : ChangeList) (ino : ℕ) (new : NewInode) (d : Dinode) (result : Advanced) → d ≡ new_inode new (bit_or 0x8000 new.mode) 1 0
    → WritesBlank shown old now ino d result → MakesFile shown old now ino new result
file_step shown old now ino new d advanced.Done is writes = (
  writes.0,
  λ image tree chain part stored looks free.
      (let blocks = with_changes image old in
      let wrote = (subst (λ (x : Dinode). WritesBlank shown old now ino x advanced.Done) is writes).1 image.at part in
      let used : bit_or 0x8000 new.mode ≢ 0 = mode_used 0x8000 new.mode (omega arith) in (
        chain,
        file blocks tree chain looks stored ino free new (bit_or 0x8000 new.mode) 1 0 used (over image.at (changed now)) wrote (file_made new) refl
            (says blocks tree chain looks stored ino free new (bit_or 0x8000 new.mode) 1 0 used (over image.at (changed now)) wrote (file_made new) refl refl refl refl refl refl refl),
      )),
)
file_step shown old now ino new d (advanced.Need need) is writes = (
  writes.0,
  λ image tree chain part stored looks free.
      (let blocks = with_changes image old in subst (IsNearTo blocks tree looks) (sym writes.1) (inode_near blocks tree chain stored looks ino free.some free.within)),
)
file_step shown old now ino new d advanced.NoMemory is writes = tt

module _ (shown : ℕ → Option (List ℕ)) (old mid : ChangeList) (ino : ℕ) (new : NewInode) (parent : ℕ) (d : Dinode) (is : d ≡ new_inode new (bit_or 0x4000 new.mode) 2 32) (writes : WritesBlank shown old mid ino d advanced.Done) where
  abbrev mode : ℕ
  mode = bit_or 0x4000 new.mode

  used : mode ≢ 0
  used = mode_used 0x4000 new.mode (omega arith)

  wrote : WritesBlank shown old mid ino (new_inode new mode 2 32) advanced.Done
  wrote = subst (λ (x : Dinode). WritesBlank shown old mid ino x advanced.Done) is writes

  begun : (image : Image) (tree : Tree) (chain : List ℕ) → IsPart shown image.at → IsStored (with_changes image old) tree chain → (looks : ℕ → Bool) → IsUnusedIn tree ino
      → IsMidway (with_changes image old) tree looks (and_one (looked_at tree looks) ino) (over image.at (changed mid)) ino
  begun image tree chain part stored looks free = birth (with_changes image old) tree chain looks stored ino free new mode 2 32 used (over image.at (changed mid)) (wrote.1 image.at part)

  pub no_room : (now : ChangeList) → ReachesPart shown mid now ino 0 reached.NoneLeft → MakesDirectory shown old now ino new parent entered.NoneLeft
  no_room now reach = λ image tree chain part stored looks free.
      refused (with_changes image old) tree chain looks stored ino free new mode 2 32 used (over image.at (changed mid)) (wrote.1 image.at part)
      (λ has left ready. reach image.at has left part ready) (directory_made new ino parent) (first_slots ino parent) refl (omega arith)

  pub way_asked : (now : ChangeList) (need : Need) → ReachesPart shown mid now ino 0 (reached.Need need) → MakesDirectory shown old now ino new parent (entered.Need need)
  way_asked now need reach = (
    reach.0,
    λ image tree chain part stored looks free.
        (let blocks = with_changes image old in
        let midway = begun image tree chain part stored looks free in
        (midway_near blocks tree chain looks (and_one (looked_at tree looks) ino) (over image.at (changed mid)) ino stored free.some free.within midway).0 need.first (let some = reach.0.above in omega (arith, some))
        (reach.1 image.at (and_one (looked_at tree looks) ino) midway.left part midway.ready)),
  )

  module _ (one : ChangeList) (block : ℕ) (reach : ReachesPart shown mid one ino 0 (reached.At block)) where
    pub out_of_range : (now : ChangeList) → (block ≡ 0) ⊎ (262144 ≤ block) → MakesDirectory shown old now ino new parent entered.NoneLeft
    out_of_range now off = λ image tree chain part stored looks free.
        (let blocks = with_changes image old in
        let midway = begun image tree chain part stored looks free in
        let way = reach.1 image.at (and_one (looked_at tree looks) ino) midway.left part midway.ready in
        let range = in_volume blocks tree looks (and_one (looked_at tree looks) ino) (over image.at (changed mid)) (over image.at (changed one)) ino 0 midway (omega arith) way.0 block way.1 in
        absurd (elim off [ inl zero_block ↦ omega (arith, zero_block, range.0) | inr far ↦ omega (arith, far, range.1) ]))

    pub block_asked : (now : ChangeList) (need : Need) → IsNeed shown need → need.first ≡ block → MakesDirectory shown old now ino new parent (entered.Need need)
    block_asked now need asks first = (
      asks,
      λ image tree chain part stored looks free.
          (let blocks = with_changes image old in
          let midway = begun image tree chain part stored looks free in
          let way = reach.1 image.at (and_one (looked_at tree looks) ino) midway.left part midway.ready in
          subst (IsNearTo blocks tree looks) (sym first)
          (block_near blocks tree looks (and_one (looked_at tree looks) ino) (over image.at (changed mid)) (over image.at (changed one)) ino 0 midway (omega arith) way.0 block way.1 chain stored free.some free.within)),
    )

    pub all_done : (two now : ChangeList) → PutsSlot shown one two block 0 dot ino edited.Done → PutsSlot shown two now block 1 dot_dot parent edited.Done → MakesDirectory shown old now ino new parent entered.Done
    all_done two now puts more = (
      λ inside. more.0 (puts.0 (reach.0 (writes.0 inside))),
      λ image tree chain part stored looks free.
          (let blocks = with_changes image old in
          let midway = begun image tree chain part stored looks free in
          let way = reach.1 image.at (and_one (looked_at tree looks) ino) midway.left part midway.ready in
          let long = sized blocks tree looks (and_one (looked_at tree looks) ino) (over image.at (changed mid)) (over image.at (changed one)) ino 0 midway (omega arith) way.0 block way.1 block in
          let first = puts.1 image.at part long in
          directory blocks tree chain looks stored ino free new mode 2 32 used (over image.at (changed mid)) (wrote.1 image.at part)
          (over image.at (changed one)) (over image.at (changed two)) (over image.at (changed now)) block parent first.full way.0 way.1 first (more.1 image.at part first.full)
          (directory_made new ino parent) refl
          (says blocks tree chain looks stored ino free new mode 2 32 used (over image.at (changed mid)) (wrote.1 image.at part) (directory_made new ino parent) refl refl refl refl refl refl refl) refl),
    )
