use Rattle.mb_tree.proofs.ValidStays.{valid_stays}
use Rattle.mb_tree.proofs.session_laws.valid_stays.Goals as goal

pub returns : goal.returns
returns c = valid_stays
