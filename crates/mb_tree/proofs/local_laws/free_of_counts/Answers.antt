use Rattle.mb_tree.proofs.Locality.{free_of_counts}
use Rattle.mb_tree.proofs.local_laws.free_of_counts.Goals as goal

pub returns : goal.returns
returns c = free_of_counts
