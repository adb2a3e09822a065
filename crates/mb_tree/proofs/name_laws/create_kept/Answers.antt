use Rattle.mb_tree.proofs.NewInodes.{create_kept}
use Rattle.mb_tree.proofs.name_laws.create_kept.Goals as goal

pub returns : goal.returns
returns c = create_kept
