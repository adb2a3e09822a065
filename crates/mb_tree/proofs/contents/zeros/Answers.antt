use Rattle.std.proofs.Common.{refl}
use Rattle.mb_kinds.specs.Image.{zeros}
use Rattle.mb_tree.proofs.contents.zeros.Goals as goal

pub returns : goal.returns
unfolding zeros
returns c = refl
