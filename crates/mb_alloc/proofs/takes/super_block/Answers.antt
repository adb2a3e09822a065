use Rattle.std.proofs.Common.{rules, ◌≡◌, Some}
use Rattle.mb_alloc.proofs.Supers.{super_changed, super_viewed}
use Rattle.mb_alloc.proofs.takes.super_block.Goals as goal

pub returns-in-Some : goal.returns-in-Some
returns-in-Some g c = super_changed (g.V.View.shown c.args.view.now) c.args.changes.now c.in-Some.place c.at.result.0 c.at.result.1.now c.in-Some.ensures.found c.at.ensures.change

pub returns-in_ok-bytes-in-None : goal.returns-in_ok-bytes-in-None
returns-in_ok-bytes-in-None g c =
    let here : g.V.View.shown c.args.view.now 1 ≡ Some c.in_ok-bytes-in-None.bytes.now = search rules in
    super_viewed (g.V.View.shown c.args.view.now) c.args.changes.now c.in_ok-bytes-in-None.bytes.now c.in-None.ensures.none here
