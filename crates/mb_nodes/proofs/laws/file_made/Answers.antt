use Rattle.mb_nodes.proofs.Making.{made_file}
use Rattle.mb_nodes.proofs.laws.file_made.Goals as goal

pub returns : goal.returns
returns c = λ image tree chain stored ino within none new written holes node size empty fields sized.
    made_file image tree chain stored ino within none new written holes node size empty fields sized
