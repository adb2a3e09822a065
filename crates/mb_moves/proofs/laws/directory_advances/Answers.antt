use Rattle.mb_moves.proofs.Making.{directory_advances}
use Rattle.mb_moves.proofs.laws.directory_advances.Goals as goal

pub returns : goal.returns
returns c = λ image tree chain looks stored ino within none mid written holes node slots full fields sized some in_one one new reaches writes.
    directory_advances image tree chain looks stored ino within none mid written holes node slots full fields sized some in_one one new reaches writes
