use Rattle.mb_tree.proofs.BytesOrAttributesValid.{bytes_or_attributes_valid}
use Rattle.mb_tree.proofs.session_laws.bytes_or_attributes_valid.Goals as goal

pub returns : goal.returns
returns c = bytes_or_attributes_valid
