use Rattle.std.proofs.Common.{refl, arith}
use Rattle.mb_session.proofs.Ranges.{same_below}
use Rattle.mb_session.proofs.sameness.have_same_files.Goals as goal

pub returns : goal.returns
returns c = (λ _. same_below 17 _ _ c.requires.files c.requires.others (λ k low. c.loop-place.invariant.same k (omega (arith, low, c.loop-place-test.false))), λ _. refl)
