use Rattle.std.proofs.Common.{rules, ◌≡◌, ◌≢◌, ◌⊎◌, inl, inr, None, IsSome, sym, arith}
use Rattle.mb_kinds.specs.Changed.{changed}
use Rattle.mb_iface.proofs.TwoBlocks.{edited_in_place, edited_in_copy}
use Rattle.mb_iface.proofs.pairs.put_and_edit.Goals.{then-put-block-via-then-put-block, then-put-block-via-else-put-block+then-is_some}
use Rattle.mb_iface.proofs.pairs.put_and_edit.Goals as goal

pub returns-in-Ok : goal.returns-in-Ok
returns-in-Ok g c =
    let has : (c.args.put ≡ c.args.block) ⊎ IsSome (changed c.args.changes.now c.args.block) = elim c.then-put-block.branch [
      | then-put-block-via-then-put-block w ↦ inl (omega (arith, w.if-put-block.true))
      | then-put-block-via-else-put-block+then-is_some w ↦ inr (search rules)
    ] in
    edited_in_place (g.V.View.shown c.args.view.now) c.args.changes.now c.put.new.self c.patch.new.self c.args.put c.args.whole.now c.args.block c.args.at c.args.bytes.now has c.in-Ok.ensures.each c.patch.ensures.each

pub returns-in-Ok-put_both : goal.returns-in-Ok-put_both
returns-in-Ok-put_both g c =
    let apart : c.args.block ≢ c.args.put = omega (arith, c.if-put-block.false) in
    let none : changed c.args.changes.now c.args.block ≡ None = search rules in
    edited_in_copy (g.V.View.shown c.args.view.now) c.args.changes.now c.put_both.new.self c.patch-in-Ok-put_both.new.self c.args.put c.args.whole.now c.args.block c.args.at c.args.bytes.now c.in-Some.found.now
    apart none (sym c.in-Some.ensures) c.in-Ok-put_both.ensures.each c.patch-in-Ok-put_both.ensures.each
