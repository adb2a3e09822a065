use Rattle.std.proofs.Common.{◌+◌, ◌*◌, ◌∙◌, ap, arith}
use Rattle.mb_word.specs.Numbers.{put_at}
use Rattle.mb_word.proofs.Writes.{put_mid_whole}
use Rattle.mb_layout.specs.SlotEntry.{slot_at, FitsSlot}
use Rattle.mb_layout.proofs.SlotBytes.{slot_put, slot_back, slot_others}
use Rattle.mb_layout.proofs.slots.Slot.write.Goals as goal

pub returns : goal.returns
returns c =
    let b = c.args.b.now in
    let at = 16 * c.args.place in
    let slot = c.args.self.now in
    let last =
    put_mid_whole c.put_word.new.b (at + 2) (at + 16) c.copy_from_slice.new.self (omega arith)
    ∙ ap (put_at c.put_word.new.b (at + 2)) c.copy_from_slice.ensures.after in
    let fits : FitsSlot slot = record { ino = omega arith; name = omega arith } in
    let whole = (slot_put b c.put_word.new.b _ at slot (omega arith) (omega arith) c.put_word.ensures last).put in
    record {
      bytes = whole;
      value = ap (λ z. slot_at z c.args.place) whole ∙ slot_back b c.args.place slot (omega arith) fits;
      others = λ other below apart. ap (λ z. slot_at z other) whole ∙ slot_others b c.args.place other slot (omega arith) (omega arith) fits.name apart;
    }
