use Rattle.mb_tree.proofs.PuttingParts.{put_within_part}
use Rattle.mb_tree.proofs.part_laws.put_within_part.Goals as goal

pub returns : goal.returns
returns c = put_within_part
