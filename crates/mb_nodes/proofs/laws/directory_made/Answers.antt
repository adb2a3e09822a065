use Rattle.mb_nodes.proofs.Making.{made_directory}
use Rattle.mb_nodes.proofs.laws.directory_made.Goals as goal

pub returns : goal.returns
returns c = λ image tree chain stored ino within none mid written holes node slots full fields sized some in_one one new reaches writes.
    made_directory image tree chain stored ino within none mid written holes node slots full fields sized some in_one one new reaches writes
