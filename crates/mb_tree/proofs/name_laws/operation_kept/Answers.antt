use Rattle.mb_tree.proofs.EachOperation.{operation_kept}
use Rattle.mb_tree.proofs.name_laws.operation_kept.Goals as goal

pub returns : goal.returns
returns c = operation_kept
