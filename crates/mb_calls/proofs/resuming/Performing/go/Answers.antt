use Rattle.std.proofs.Common.{subst}
use Rattle.std.specs.Prelude.{IfSome}
use Rattle.mb_calls.specs.Following.{LacksForCall}
use Rattle.mb_calls.proofs.Promising.{needed_asked}
use Rattle.mb_calls.proofs.resuming.Performing.go.Goals as goal

pub returns-in-Some-clause-needed : goal.returns-in-Some-clause-needed
returns-in-Some-clause-needed g c =
    needed_asked (g.V.View.shown c.args.view.now) c.args.sessions.now c.args.opens.now c.args.caller c.args.call.now c.args.moment c.seat_of-seat.result.now c.call_allowed.ensures c.seat_of-seat.ensures c.in-Some.need
    (subst (λ o. IfSome o (LacksForCall (g.V.View.shown c.args.view.now) c.seat_of-seat.result.now c.args.call.now)) c.in-Some.is c.advance.ensures.lacking).near
