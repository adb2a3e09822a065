use Rattle.std.proofs.Common.{ℕ, ◌<◌, ◌∙◌, arith}
use Rattle.std.proofs.lemmas.List.Elements.{All-from_get_or}
use Rattle.mb_edge.proofs.Writes.{gives_inside, gives_past}
use Rattle.mb_edge.proofs.stores.give_block.Goals as goal

pub returns-then-block-used-clause-bytes : goal.returns-then-block-used-clause-bytes
returns-then-block-used-clause-bytes c =
    c.copy_from_slice.ensures.after ∙ gives_inside c.args.bytes.now c.args.used c.args.block _ (omega arith) c.requires.used c.if-block-used.true

pub returns-then-block-used-clause-small : goal.returns-then-block-used-clause-small
returns-then-block-used-clause-small c =
    All-from_get_or (λ (byte : ℕ). byte < 256) c.copy_from_slice.new.self 0 (λ i within. omega (arith, c.type_inv.into i))

pub returns-else-block-used-clause-bytes : goal.returns-else-block-used-clause-bytes
returns-else-block-used-clause-bytes c =
    c.fill.ensures.after (λ y same. same) ∙ gives_past c.args.bytes.now c.args.used c.args.block _ c.requires.size c.requires.used c.if-block-used.false
