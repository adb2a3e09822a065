use Rattle.mb_tree.proofs.PuttingParts.{parts_stay_whole}
use Rattle.mb_tree.proofs.part_laws.parts_stay_whole.Goals as goal

pub returns : goal.returns
returns c = parts_stay_whole
