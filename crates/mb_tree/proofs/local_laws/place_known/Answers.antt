use Rattle.mb_tree.proofs.KnownPlaces.{known_place}
use Rattle.mb_tree.proofs.local_laws.place_known.Goals as goal

pub returns : goal.returns
returns c = λ tree cred cwd path placed sound d h. known_place tree sound cred cwd path placed d h
