use Rattle.std.proofs.Common.{rules, ◌≡◌, None, sym}
use Rattle.mb_kinds.specs.Changed.{changed}
use Rattle.mb_iface.proofs.TwoBlocks.{both_held_now}
use Rattle.mb_iface.proofs.pairs.hold_both.Goals as goal

pub returns-in-Ok : goal.returns-in-Ok
returns-in-Ok g c =
    let none : changed c.args.changes.now c.args.block ≡ None = search rules in
    let none_then : changed c.args.changes.now c.args.then ≡ None = search rules in
    both_held_now (g.V.View.shown c.args.view.now) c.args.changes.now c.put_both.new.self c.args.block c.in-Some.found.now c.args.then c.in-Some-get.after.now
    none (sym c.in-Some.ensures) none_then (sym c.in-Some-get.ensures) c.in-Ok.ensures.each
