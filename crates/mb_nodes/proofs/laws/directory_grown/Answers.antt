use Rattle.mb_nodes.proofs.GrownDirectories.{grown_directory}
use Rattle.mb_nodes.proofs.laws.directory_grown.Goals as goal

pub returns : goal.returns
returns c = λ image tree chain stored ino node changed has slots more body now some_more in_one one two new reaches writes written tops fields sized.
    grown_directory image tree chain stored ino node slots more has body some_more in_one one two new reaches writes written tops changed now fields sized
