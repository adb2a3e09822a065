use Rattle.std.proofs.Common.{rules, ◌≡◌, None, sym}
use Rattle.mb_kinds.specs.Changed.{changed}
use Rattle.mb_iface.proofs.TwoBlocks.{held_now}
use Rattle.mb_iface.proofs.pairs.hold.Goals as goal

pub returns-in-Ok : goal.returns-in-Ok
returns-in-Ok g c =
    let none : changed c.args.changes.now c.args.block ≡ None = search rules in
    held_now (g.V.View.shown c.args.view.now) c.args.changes.now c.put.new.self c.args.block c.in-Some.found.now none (sym c.in-Some.ensures) c.in-Ok.ensures.each
