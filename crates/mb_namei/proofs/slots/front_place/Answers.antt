use Rattle.std.proofs.Common.{◌≡◌, ◌*◌, ◌+◌, false, nat_eq, sym, ◌∙◌, arith}
use Rattle.std.proofs.lemmas.Bool.Decides.{nat_tests}
use Rattle.mb_namei.proofs.NameWords.{by_front}
use Rattle.mb_namei.proofs.SlotScans.{unnamed_other}
use Rattle.mb_namei.proofs.slots.front_place.Goals as goal

pub loop-place-preserved : goal.loop-place-preserved
loop-place-preserved c =
    let apart = c.if-eight_at-front.false in
    let other : nat_eq c.eight_at.result c.eight_at-front.result ≡ false = grind (arith, nat_tests) in
    let names = by_front c.args.bytes.now c.args.name.now (16 * c.loop-place.place + 2) (let low = c.loop-place-test.true in omega arith) (omega arith) c.eight_at.result c.eight_at-front.result c.eight_at.ensures c.eight_at-front.ensures other in
    unnamed_other c.args.bytes.now c.args.name.now c.loop-place.place (sym names ∙ other) c.loop-place.invariant
