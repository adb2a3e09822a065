use Rattle.std.proofs.Common.{Err, ap, refl, sym, subst, ◌∙◌}
use Rattle.mb_calls.specs.Endings.{Ends, ready_refused}
use Rattle.mb_calls.specs.Performed.{IsFit, IsReadyOver}
use Rattle.mb_tree.specs.LocalLaws.{is_shared_call}
use Rattle.mb_tree.specs.declared.plans.CallPlan.{CallPlan}
use Rattle.mb_calls.specs.Halts.{Needs}
use Rattle.mb_calls.specs.Halts.Scope.{around}
use Rattle.mb_calls.proofs.Promising.{Planned, fit_ended, needed_asked, needed_ended, right_ended, right_refused}
use Rattle.mb_calls.proofs.performing.perform_on.Goals as goal

pub returns-in-Ok-clause-right : goal.returns-in-Ok-clause-right
returns-in-Ok-clause-right g c =
    right_ended (g.V.View.shown c.args.view.now) c.args.sessions.now c.args.opens.now c.args.caller c.args.call.now c.args.moment c.seat_of-seat.result.now c.call_allowed.ensures c.seat_of-seat.ensures c.in-Ok.plan c.complete.result c.in-Ok.ensures.says
    (subst (λ b. Ends (g.V.View.shown c.args.view.now) c.args.opens.now b c.in-Ok.plan c.complete.result) c.is_shared_call-shared.ensures c.complete.ensures.ends)

pub returns-in-Refused-clause-right : goal.returns-in-Refused-clause-right
returns-in-Refused-clause-right g c =
    subst (λ r. IsReadyOver (g.V.View.shown c.args.view.now) c.args.sessions.now c.args.opens.now c.args.caller c.args.call.now c.args.moment r) (ap (λ b. ready_refused b c.in-Refused.error) (sym c.is_shared_call-shared.ensures) ∙ sym c.refused.ensures)
    (right_refused (g.V.View.shown c.args.view.now) c.args.sessions.now c.args.opens.now c.args.caller c.args.call.now c.args.moment c.seat_of-seat.result.now c.call_allowed.ensures c.seat_of-seat.ensures c.in-Refused.error
    (subst (λ s. Planned (g.V.View.shown c.args.view.now) c.args.sessions.now c.args.opens.now c.args.caller c.args.call.now c.args.moment c.seat_of-seat.result.now c.call_allowed.ensures c.seat_of-seat.ensures (Err s)) c.in-Refused.is c.in-Err.ensures.says))

pub returns-in-Ok-clause-needed : goal.returns-in-Ok-clause-needed
returns-in-Ok-clause-needed g c =
    needed_ended (g.V.View.shown c.args.view.now) c.args.sessions.now c.args.opens.now c.args.caller c.args.call.now c.args.moment c.seat_of-seat.result.now c.call_allowed.ensures c.seat_of-seat.ensures c.in-Ok.plan c.complete.result c.in-Ok.ensures.says c.complete.ensures.near

pub returns-in-Ok-clause-fit : goal.returns-in-Ok-clause-fit
returns-in-Ok-clause-fit g c =
    fit_ended (g.V.View.shown c.args.view.now) c.args.sessions.now c.args.opens.now c.args.caller c.args.call.now c.args.moment c.seat_of-seat.result.now c.call_allowed.ensures c.seat_of-seat.ensures c.in-Ok.plan c.complete.result c.in-Ok.ensures.ready
    (subst (λ b. Ends (g.V.View.shown c.args.view.now) c.args.opens.now b c.in-Ok.plan c.complete.result) c.is_shared_call-shared.ensures c.complete.ensures.ends)

pub returns-in-Refused-clause-fit : goal.returns-in-Refused-clause-fit
returns-in-Refused-clause-fit g c = λ seat is. subst (IsFit seat (is_shared_call c.args.call.now)) (ap (λ b. ready_refused b c.in-Refused.error) (sym c.is_shared_call-shared.ensures) ∙ sym c.refused.ensures)
    (record { plain = tt; session = tt; range = tt; shared = refl; still = λ none. refl; held = λ ino holds. refl })

pub returns-in-Need-clause-needed : goal.returns-in-Need-clause-needed
returns-in-Need-clause-needed g c =
    needed_asked (g.V.View.shown c.args.view.now) c.args.sessions.now c.args.opens.now c.args.caller c.args.call.now c.args.moment c.seat_of-seat.result.now c.call_allowed.ensures c.seat_of-seat.ensures c.in-Need.need
    (λ image tree over. subst (λ s. Needs {X = CallPlan} (around image tree c.seat_of-seat.result.now c.args.call.now) (Err s)) c.in-Need.is (c.in-Err.ensures.near image tree over))
