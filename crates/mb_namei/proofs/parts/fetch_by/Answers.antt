use Rattle.std.proofs.Common.{IfSome, subst, arith}
use Rattle.mb_namei.specs.Addresses.{AreOf}
use Rattle.mb_namei.proofs.Fetching.{found_part}
use Rattle.mb_namei.proofs.parts.fetch_by.Goals as goal

pub returns-in-Some-seen : goal.returns-in-Some-seen
returns-in-Some-seen g c =
    let shown = g.V.View.shown c.args.view.now in
    let of : AreOf shown c.args.changes.now c.args.ino c.in-Some.addresses = subst (λ known. IfSome known (AreOf shown c.args.changes.now c.args.ino)) c.in-Some.is c.requires.known in
    let leads = c.in-Some-near.ensures.leads in
    found_part shown c.args.changes.now c.args.ino c.args.part (omega (arith, c.requires.part, c.requires.few)) c.in-Some-near.block leads.0 (leads.1 shown c.args.changes.now c.args.ino of) c.in-Some-seen.bytes.now c.in-Some-seen.ensures.found
