use Rattle.std.proofs.Common.{ap, sym, subst, ◌∙◌, Err}
use Rattle.mb_calls.specs.Endings.{Ends, ready_refused}
use Rattle.mb_calls.specs.Following.{IsRowAlone}
use Rattle.mb_calls.specs.Performed.{IsReadyOver}
use Rattle.mb_calls.proofs.Promising.{fit_ended, needed_ended, right_ended, right_refused}
use Rattle.mb_calls.proofs.performing.write_on.Goals as goal

pub returns-in-Ok-clause-right : goal.returns-in-Ok-clause-right
returns-in-Ok-clause-right g c =
    right_ended (g.V.View.shown c.args.view.now) c.args.sessions.now c.args.opens.now c.args.caller c.args.call.now c.args.moment c.seat_of-seat.result.now c.call_allowed.ensures c.seat_of-seat.ensures c.in-Ok.plan c.complete_write.result
    (λ image tree others over alike. c.in-Ok.ensures.row tree.nodes others)
    (subst (λ b. Ends (g.V.View.shown c.args.view.now) c.args.opens.now b c.in-Ok.plan c.complete_write.result) c.is_shared_call-shared.ensures c.complete_write.ensures.ends)

pub returns-in-Ok-clause-needed : goal.returns-in-Ok-clause-needed
returns-in-Ok-clause-needed g c =
    needed_ended (g.V.View.shown c.args.view.now) c.args.sessions.now c.args.opens.now c.args.caller c.args.call.now c.args.moment c.seat_of-seat.result.now c.call_allowed.ensures c.seat_of-seat.ensures c.in-Ok.plan c.complete_write.result
    (λ image tree others over alike. c.in-Ok.ensures.row tree.nodes others) c.complete_write.ensures.near

pub returns-in-Ok-clause-fit : goal.returns-in-Ok-clause-fit
returns-in-Ok-clause-fit g c =
    fit_ended (g.V.View.shown c.args.view.now) c.args.sessions.now c.args.opens.now c.args.caller c.args.call.now c.args.moment c.seat_of-seat.result.now c.call_allowed.ensures c.seat_of-seat.ensures c.in-Ok.plan c.complete_write.result c.in-Ok.ensures.ready
    (subst (λ b. Ends (g.V.View.shown c.args.view.now) c.args.opens.now b c.in-Ok.plan c.complete_write.result) c.is_shared_call-shared.ensures c.complete_write.ensures.ends)

pub returns-in-Refused-clause-right : goal.returns-in-Refused-clause-right
returns-in-Refused-clause-right g c =
    subst (λ r. IsReadyOver (g.V.View.shown c.args.view.now) c.args.sessions.now c.args.opens.now c.args.caller c.args.call.now c.args.moment r) (ap (λ b. ready_refused b c.in-Refused.error) (sym c.is_shared_call-shared.ensures) ∙ sym c.refused.ensures)
    (right_refused (g.V.View.shown c.args.view.now) c.args.sessions.now c.args.opens.now c.args.caller c.args.call.now c.args.moment c.seat_of-seat.result.now c.call_allowed.ensures c.seat_of-seat.ensures c.in-Refused.error
    (λ image tree others over alike. subst (λ s. IsRowAlone c.seat_of-seat.result.now c.args.call.now c.args.moment (Err s)) c.in-Refused.is c.in-Err.ensures.row tree.nodes others))
