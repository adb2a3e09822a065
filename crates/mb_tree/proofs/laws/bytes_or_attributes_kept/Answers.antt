use Rattle.mb_tree.proofs.BytesOrAttributes.{bytes_or_attributes_kept}
use Rattle.mb_tree.proofs.laws.bytes_or_attributes_kept.Goals as goal

pub returns : goal.returns
returns c = bytes_or_attributes_kept
