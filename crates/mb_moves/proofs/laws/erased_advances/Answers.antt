use Rattle.mb_moves.proofs.Dropping.{erased_advances}
use Rattle.mb_moves.proofs.laws.erased_advances.Goals as goal

pub returns : goal.returns
returns c = λ image tree chain looks stored ino node looked has mid new list lets written freed free wiped.
    erased_advances image tree chain looks stored ino node looked has mid new list lets written freed free wiped
