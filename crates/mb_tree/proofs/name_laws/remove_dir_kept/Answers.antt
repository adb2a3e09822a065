use Rattle.mb_tree.proofs.RemovedDirectories.{remove_dir_kept}
use Rattle.mb_tree.proofs.name_laws.remove_dir_kept.Goals as goal

pub returns : goal.returns
returns c = remove_dir_kept
