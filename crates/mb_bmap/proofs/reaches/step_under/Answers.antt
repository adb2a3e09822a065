use Rattle.std.proofs.Common.{refl, sym, ap, inr, ◌∙◌, ◌*◌}
use Rattle.mb_word.specs.Numbers.{long_at}
use Rattle.mb_tree.specs.Views.{over}
use Rattle.mb_kinds.specs.Changed.{changed}
use Rattle.mb_bmap.proofs.Stepping.{set_entry, sized_two}
use Rattle.mb_bmap.proofs.reaches.step_under.Goals as goal

pub returns-in-Done : goal.returns-in-Done
returns-in-Done g c = (
  c.in-Block.ensures.0,
  λ within. c.in-Done.ensures.within (c.in-Block.ensures.2 within),
  λ blocks part keeps fine.
      (let bytes = c.in-Some.ensures.found blocks part in
      let tz = c.in-Block.ensures.3 blocks part keeps in
      inr (
        ap (λ b. long_at b (4 * c.args.place)) bytes ∙ sym c.long_at-address.ensures ∙ c.if-address-ne0.false,
        over blocks (changed c.take_zeroed.new.changes),
        tz,
        set_entry (over blocks (changed c.take_zeroed.new.changes)) (over blocks (changed c.edit.new.changes)) c.args.index c.args.place c.in-Block.block _ _ (sized_two (over blocks (changed c.args.changes.now)) (over blocks (changed c.take_zeroed.new.changes)) c.in-Block.block keeps tz c.args.index)
            c.requires.few c.in-Block.ensures.1 refl c.put_long.ensures (c.in-Done.ensures.wrote blocks part),
      )),
)
