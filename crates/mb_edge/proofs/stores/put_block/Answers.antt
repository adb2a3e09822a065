use Rattle.std.proofs.Common.{ℕ, ◌-◌, ◌*◌, ◌/◌, ◌∙◌, ap, replicate, arith}
use Rattle.mb_edge.proofs.Writes.{puts_inside, puts_past, length-part}
use Rattle.mb_edge.proofs.stores.put_block.Goals as goal

pub returns-then-block-whole-clause-bytes : goal.returns-then-block-whole-clause-bytes
returns-then-block-whole-clause-bytes c =
    puts_inside c.args.bytes.now c.args.used c.args.block _ c.copy_from_slice.new.self c.args.from.now (omega arith) c.copy_from_slice.ensures.after c.requires.size c.requires.used c.if-block-whole.true

pub returns-clause-bytes : goal.returns-clause-bytes
returns-clause-bytes c =
    puts_past c.args.bytes.now c.args.used c.args.block _ c.fill.new.self c.copy_from_slice-2.new.self c.args.from.now c.copy_from_slice-2.ensures.after c.requires.size c.requires.used c.if-block-whole.false
    (c.fill.ensures.after (λ y same. same) ∙ ap (λ (n : ℕ). replicate n 0) (length-part c.args.bytes.now (512 * (c.args.used / 512)) (512 * c.args.block - 512 * (c.args.used / 512)) (omega arith)))
