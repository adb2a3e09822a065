use Rattle.mb_tree.proofs.FitsUnpicked.{unpicked_fits}
use Rattle.mb_tree.proofs.pick_laws.unpicked_fits.Goals as goal

pub returns : goal.returns
returns c = λ machine caller made moment number planned op valid good h is. unpicked_fits number machine caller made moment planned op valid good h is
