use Rattle.mb_tree.proofs.ReleaseValid.{release_valid}
use Rattle.mb_tree.proofs.session_laws.release_valid.Goals as goal

pub returns : goal.returns
returns c = release_valid
