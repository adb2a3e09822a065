use Rattle.std.proofs.Common.{refl, arith}
use Rattle.mb_session.proofs.Lists.{all_same}
use Rattle.mb_session.proofs.sameness.same_seats.Goals as goal

pub returns : goal.returns
returns c = (λ _. all_same _ _ c.loop-at.invariant.long (λ at within. c.loop-at.invariant.same at (omega (arith, within, c.loop-at.invariant.whole, c.loop-at-test.false))), λ _. refl)
