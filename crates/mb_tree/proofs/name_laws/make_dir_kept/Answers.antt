use Rattle.mb_tree.proofs.NewInodes.{make_dir_kept}
use Rattle.mb_tree.proofs.name_laws.make_dir_kept.Goals as goal

pub returns : goal.returns
returns c = make_dir_kept
