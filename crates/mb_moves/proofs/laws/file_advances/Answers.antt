use Rattle.mb_moves.proofs.Making.{file_advances}
use Rattle.mb_moves.proofs.laws.file_advances.Goals as goal

pub returns : goal.returns
returns c = λ image tree chain looks stored ino within none new written holes node size empty fields sized.
    file_advances image tree chain looks stored ino within none new written holes node size empty fields sized
