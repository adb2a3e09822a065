use Rattle.std.proofs.Common.{◌∙◌, ap, arith, refl}
use Rattle.mb_word.specs.Numbers.{put_at}
use Rattle.mb_word.proofs.Writes.{put_mid_whole}
use Rattle.mb_dirs.proofs.SlotWriting.{put_done, slot_written}
use Rattle.mb_dirs.proofs.slot_writes.put_slot.Goals as goal

pub returns : goal.returns
returns g c = put_done (g.V.View.shown c.args.view.now) c.args.changes.now c.edit.new.changes c.args.block c.args.place c.args.ino c.args.name.now _ c.edit.result c.requires.place (omega arith) (omega arith)
    (slot_written _ c.put_word.new.b _ (record { ino = c.args.ino; name = c.args.name.now }) refl (omega arith) c.put_word.ensures (put_mid_whole c.put_word.new.b 2 16 c.copy_from_slice.new.self (omega arith) ∙ ap (put_at c.put_word.new.b 2) c.copy_from_slice.ensures.after)) c.edit.ensures
