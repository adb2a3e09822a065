use Rattle.mb_tree.proofs.PuttingParts.{put_splits}
use Rattle.mb_tree.proofs.part_laws.put_splits.Goals as goal

pub returns : goal.returns
returns c = put_splits
