use Rattle.std.proofs.Common.{◌∙◌, ◌-◌, ap, take, drop, length, arith}
use Rattle.std.specs.Int.{w64, from_le_bytes}
use Rattle.std.proofs.lemmas.List.{take_all, length-drop}
use Rattle.mb_namei.specs.Slots.{eight_of}
use Rattle.mb_namei.proofs.slots.eight_at.Goals as goal

pub returns : goal.returns
unfolding eight_of
returns c =
    let rest = take_all (length c.args.bytes.now - c.args.at) (drop c.args.at c.args.bytes.now) (omega (arith, length-drop c.args.at c.args.bytes.now)) in
    c.from_le_bytes.ensures ∙ ap (from_le_bytes w64) (c.in-Some.ensures.cases.same ∙ ap (take 8) rest)
