use Rattle.std.proofs.Common.{ℕ, List, ◌≡◌, refl, sym, ap, inl, inr, length, get_or, set, replicate, ◌∙◌, ◌+◌, ◌*◌, arith}
use Rattle.mb_word.specs.Fields.{ninode_of}
use Rattle.mb_word.specs.Numbers.{put_at}
use Rattle.mb_tree.specs.Views.{over}
use Rattle.mb_kinds.specs.Changed.{changed, put_block}
use Rattle.mb_iface.proofs.Editing.{by_patch, by_both}
use Rattle.mb_iface.proofs.TwoBlocks.{still_there}
use Rattle.mb_alloc.proofs.Erasings.{erased_at, cached_more, first_stays}
use Rattle.mb_alloc.proofs.inodes.free_inode.Goals.{then-count-ge100-via-then-count-ge100, then-count-ge100-via-else-count-ge100+then-ino-lt3}
use Rattle.mb_alloc.proofs.inodes.free_inode.Goals as goal

pub returns-in-Done : goal.returns-in-Done
returns-in-Done g c = (
  c.in-Done.ensures.within,
  λ blocks part keeps some.
      (let old = over blocks (changed c.args.changes.now) in
      let new = over blocks (changed c.edit.new.changes) in
      let bytes = c.in-Some.ensures.found blocks part in
      let held = c.in-Some-seen.ensures.found blocks part in
      let wrote = c.in-Done.ensures.wrote blocks part in
      let counted : c.word_at-count.result ≡ ninode_of (new 1) = c.word_at-count.ensures ∙ ap ninode_of (sym bytes) ∙ ap ninode_of (sym (ap (λ f. f 1) wrote ∙ first_stays old c.args.ino c.inode_block-holder.result _ c.inode_block-holder.ensures)) in (
        new,
        erased_at old new c.args.ino _ c.inode_block-holder.result c.inode_place.result _ keeps some c.inode_block-holder.ensures c.inode_place.ensures refl
            (ap (λ b. get_or b (64 * c.inode_place.result + 51) 0) (sym held)) wrote,
        inl (
          elim c.then-count-ge100.branch [
            | then-count-ge100-via-then-count-ge100 w ↦ inl (omega (arith, w.if-count-ge100.true, counted))
            | then-count-ge100-via-else-count-ge100+then-ino-lt3 w ↦ inr (omega (arith, w.if-ino-lt3.true))
          ],
          refl,
        ),
      )),
)

pub returns-in-Done-hold_both : goal.returns-in-Done-hold_both
returns-in-Done-hold_both g c =
    let shown = g.V.View.shown c.args.view.now in
    let held = c.hold_both.new.changes in
    let one = c.patch.new.self in
    let two = c.patch-in-Done-hold_both.new.self in
    let new = c.patch-in-Done-hold_both-2.new.self in
    let holder = c.inode_block-holder.result in
    let place = 210 + 2 * c.word_at-count.result in
    let blank = set (replicate {A = ℕ} 64 0) 51 (get_or c.in-Some-seen.inodes.now (64 * c.inode_place.result + 51) 0) in
    let both = c.in-Done-hold_both.ensures in
    let erases = by_patch shown held one holder (64 * c.inode_place.result) blank both.first c.patch.ensures.each in
    let there = still_there held one holder (64 * c.inode_place.result) blank both.first c.patch.ensures.each 1 both.second in
    let counts = by_patch shown one two 1 208 c.word.result there c.patch-in-Done-hold_both.ensures.each in
    let caches = by_both shown one two new 1 208 place c.word.result c.word-in-Done-hold_both.result counts c.patch-in-Done-hold_both-2.ensures.each in (
      λ within. caches.within (erases.within (both.within within)),
      λ blocks part keeps some.
          (let old = over blocks (changed c.args.changes.now) in
          let mid = over blocks (changed one) in
          let bytes = c.in-Some.ensures.found blocks part in
          let found = c.in-Some-seen.ensures.found blocks part in
          let wrote : mid ≡ put_block old holder (put_at (old holder) (64 * c.inode_place.result) blank) = erases.wrote blocks part ∙ ap (λ (f : ℕ → List ℕ). put_block f holder (put_at (f holder) (64 * c.inode_place.result) blank)) (both.same blocks part) in
          let stays : mid 1 ≡ old 1 = ap (λ f. f 1) wrote ∙ first_stays old c.args.ino holder _ c.inode_block-holder.ensures in
          let counted : c.word_at-count.result ≡ ninode_of (mid 1) = c.word_at-count.ensures ∙ ap ninode_of (sym (stays ∙ bytes)) in (
            mid,
            erased_at old mid c.args.ino _ holder c.inode_place.result _ keeps some c.inode_block-holder.ensures c.inode_place.ensures refl
                (ap (λ b. get_or b (64 * c.inode_place.result + 51) 0) (sym found)) wrote,
            inr (
              omega (arith, c.if-count-ge100.false, counted),
              omega (arith, c.if-ino-lt3.false),
              cached_more mid (over blocks (changed new)) c.word_at-count.result c.args.ino (put_at (mid 1) 208 c.word.result) _ (ap length stays ∙ keeps.sized 1) counted (omega (arith, c.if-count-ge100.false)) c.ranges.ino.fits
                  (ap (put_at (mid 1) 208) c.word.ensures) (ap (put_at (put_at (mid 1) 208 c.word.result) place) c.word-in-Done-hold_both.ensures) (caches.wrote blocks part),
            ),
          )),
    )
