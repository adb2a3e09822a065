use Rattle.mb_moves.proofs.Dropping.{cleared_advances}
use Rattle.mb_moves.proofs.laws.cleared_advances.Goals as goal

pub returns : goal.returns
returns c = λ image tree chain looks stored ino node left looked has mid new list lets written freed size empty fields sized holes.
    cleared_advances image tree chain looks stored ino node looked has mid new list lets written freed left size empty fields sized holes
