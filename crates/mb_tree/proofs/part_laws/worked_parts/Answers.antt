use Rattle.mb_tree.proofs.PuttingParts.{worked_parts}
use Rattle.mb_tree.proofs.part_laws.worked_parts.Goals as goal

pub returns : goal.returns
returns c = worked_parts
