use Rattle.std.proofs.Common.{refl, sym, ap, inr, ◌∙◌}
use Rattle.mb_word.specs.Fields.{inode_block, inode_place, address_of}
use Rattle.mb_tree.specs.Views.{over}
use Rattle.mb_kinds.specs.Changed.{changed}
use Rattle.mb_bmap.proofs.Stepping.{set_top, sized_two}
use Rattle.mb_bmap.proofs.reaches.step_top.Goals as goal

pub returns-in-Done : goal.returns-in-Done
returns-in-Done g c = (
  c.in-Block.ensures.0,
  λ within. c.in-Done.ensures.within (c.in-Block.ensures.2 within),
  λ blocks part keeps fine.
      (let bytes = c.in-Some.ensures.found blocks part in
      let tz = c.in-Block.ensures.3 blocks part keeps in
      let old = over blocks (changed c.args.changes.now) in
      inr (
        ap (λ h. address_of (old h) (inode_place c.args.ino) c.args.place) (sym c.inode_block-holder.ensures) ∙ ap (λ b. address_of b (inode_place c.args.ino) c.args.place) bytes
            ∙ ap (λ s. address_of c.in-Some.bytes.now s c.args.place) (sym c.inode_place.ensures) ∙ sym c.addr_at-address.ensures ∙ c.if-address-ne0.false,
        over blocks (changed c.take_zeroed.new.changes),
        tz,
        set_top (over blocks (changed c.take_zeroed.new.changes)) (over blocks (changed c.edit.new.changes)) c.args.ino c.inode_block-holder.result c.inode_place.result c.args.place c.in-Block.block _ _ (sized_two old (over blocks (changed c.take_zeroed.new.changes)) c.in-Block.block keeps tz (inode_block c.args.ino))
            fine c.inode_block-holder.ensures c.inode_place.ensures c.requires.place c.in-Block.ensures.1 refl c.put_addr.ensures (c.in-Done.ensures.wrote blocks part),
      )),
)
