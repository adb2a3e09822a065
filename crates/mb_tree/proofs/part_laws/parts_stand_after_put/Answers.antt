use Rattle.mb_tree.proofs.PuttingParts.{parts_stand_after_put}
use Rattle.mb_tree.proofs.part_laws.parts_stand_after_put.Goals as goal

pub returns : goal.returns
returns c = parts_stand_after_put
