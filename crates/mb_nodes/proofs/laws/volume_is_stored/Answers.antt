use Rattle.mb_nodes.proofs.Volumes.{stored_of, volume_of}
use Rattle.mb_nodes.proofs.laws.volume_is_stored.Goals as goal

pub returns : goal.returns
returns c = record { stored = stored_of; volume = volume_of }
