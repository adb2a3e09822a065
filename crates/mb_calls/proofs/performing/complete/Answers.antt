use Rattle.std.proofs.Common.{Some, ap, subst, sym}
use Rattle.mb_calls.specs.Endings.IsEndOf.{done, refused}
use Rattle.mb_calls.specs.Endings.{ActsNear}
use Rattle.mb_calls.proofs.Fitting.{near_acted}
use Rattle.mb_calls.proofs.performing.complete.Goals as goal

pub returns-in-Done-clause-ends : goal.returns-in-Done-clause-ends
returns-in-Done-clause-ends g c = done c.in-Some.op c.in-Done.changes c.in-Done.pick c.in-Some.is (λ image tree part volume fits. c.in-Done.ensures.answer image tree part volume fits) c.in-Done.ensures.still
    (ap (λ s. record { reply = c.args.plan.reply; op = Some c.in-Some.op; pick = c.in-Done.pick; changes = c.in-Done.changes; session = s; shared = c.args.shared }) c.fresh_on-session.ensures)

pub returns-in-Refused-clause-ends : goal.returns-in-Refused-clause-ends
returns-in-Refused-clause-ends g c = refused c.in-Some.op c.in-Refused.error c.in-Some.is (λ image tree part volume fits. c.in-Refused.ensures.answer image tree part volume fits) c.refused.ensures

pub returns-in-Need-clause-near : goal.returns-in-Need-clause-near
returns-in-Need-clause-near g c = subst (λ o. ActsNear (g.V.View.shown c.args.view.now) c.args.opens.now o c.in-Need.need) (sym c.in-Some.is)
    (λ image tree part volume fits. near_acted (g.V.View.shown c.args.view.now) image tree c.args.opens.now c.in-Some.op c.in-Need.need (c.in-Need.ensures.answer image tree part volume) fits)
