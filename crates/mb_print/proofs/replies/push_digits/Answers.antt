use Rattle.std.proofs.Common.{◌≡◌, ◌++◌, ◌+◌, ◌-◌, ◌*◌, length, take, drop, refl, ap, ◌∙◌, arith}
use Rattle.hex.specs.Hex.{encode_lower}
use Rattle.std.proofs.lemmas.List.{length-append, length-drop, length-take}
use Rattle.mb_print.proofs.Digits.{digits_begin, digits_on, written_front}
use Rattle.mb_print.proofs.replies.push_digits.Goals as goal

pub loop-done-init : goal.loop-done-init
loop-done-init c = record { within = omega arith; room = refl; digits = digits_begin c.args.out.now.items c.reserve.new.self.items c.reserve.ensures.items }

pub loop-done-preserved : goal.loop-done-preserved
loop-done-preserved c =
    let few = c.min-some.ensures in
    let test = c.loop-done-test.true in
    let room = c.loop-done.invariant.room in
    let taken = length-take (2 * c.min-some.result) c.loop-done.digits in
    let same : length c.encode_to_slice.new.output ≡ 2 * c.min-some.result = omega (arith, c.encode_to_slice.auto.output, taken, room, few) in
    let all : c.loop-done.done + c.min-some.result - c.loop-done.done ≡ c.min-some.result = omega arith in
    let written = c.in-Ok.ensures.written ∙ ap (λ n. encode_lower (take n (drop c.loop-done.done c.args.bytes.now))) all in
    record {
      within = omega (arith, few, test);
      room = (let whole = length-append c.encode_to_slice.new.output (drop (2 * c.min-some.result) c.loop-done.digits) in let rest = length-drop (2 * c.min-some.result) c.loop-done.digits in omega (arith, whole, rest, same, room, few));
      digits = digits_on c.args.bytes.now c.args.out.now.items c.loop-done.out.items c.extend_from_slice.new.self.items c.loop-done.done c.min-some.result c.loop-done.invariant.digits
          (c.in_ok-extend_from_slice.ensures.items ∙ ap (λ d. c.loop-done.out.items ++ d) (written_front _ c.encode_to_slice.new.output (drop (2 * c.min-some.result) c.loop-done.digits) c.min-some.result written same));
    }
