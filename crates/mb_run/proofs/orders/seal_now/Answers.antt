use Rattle.std.proofs.Common.{◌∙◌, inl, inr, refl, sym}
use Rattle.mb_run.proofs.Ending.{keeps_same, keeps_still, sealed_keeps}
use Rattle.mb_run.proofs.Quiet.{quiet_same, quiet_sealed}
use Rattle.mb_run.proofs.orders.seal_now.Goals as goal

pub returns-in-Ok-clause-quiet : goal.returns-in-Ok-clause-quiet
returns-in-Ok-clause-quiet g c = quiet_sealed _ _ c.in-Ok.ensures.ok

pub returns-in-Err-clause-quiet : goal.returns-in-Err-clause-quiet
returns-in-Err-clause-quiet g c = quiet_same _ _ c.in-Err.ensures.err

pub returns-in-Ok-clause-sealed : goal.returns-in-Ok-clause-sealed
returns-in-Ok-clause-sealed g c = λ so. inl (sym c.stage.ensures ∙ c.in-Running.is, c.in-Ok.ensures.ok)

pub returns-in_default-clause-sealed : goal.returns-in_default-clause-sealed
returns-in_default-clause-sealed g c = λ so. inr ((λ runs. c.in_default.not-Running (c.stage.ensures ∙ runs)), refl)

pub returns-in-Ok-clause-keeps : goal.returns-in-Ok-clause-keeps
returns-in-Ok-clause-keeps g c = sealed_keeps _ _ (inl (sym c.stage.ensures ∙ c.in-Running.is, c.in-Ok.ensures.ok))

pub returns-in-Err-clause-keeps : goal.returns-in-Err-clause-keeps
returns-in-Err-clause-keeps g c = keeps_still _ _ c.in-Err.ensures.err

pub returns-in_default-clause-keeps : goal.returns-in_default-clause-keeps
returns-in_default-clause-keeps g c = keeps_same _
