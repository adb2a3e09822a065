use Rattle.std.proofs.Common.{refl, arith}
use Rattle.mb_session.proofs.Ranges.{same_below}
use Rattle.mb_session.proofs.sameness.have_same_places.Goals as goal

pub returns : goal.returns
returns c = (λ _. same_below 20 _ _ c.requires.fds c.requires.others (λ k low. c.loop-fd.invariant.same k (omega (arith, low, c.loop-fd-test.false))), λ _. refl)
