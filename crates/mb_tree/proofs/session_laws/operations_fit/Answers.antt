use Rattle.mb_tree.proofs.OperationsFit.{operations_fit}
use Rattle.mb_tree.proofs.session_laws.operations_fit.Goals as goal

pub returns : goal.returns
returns c = operations_fit
