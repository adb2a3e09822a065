use Rattle.mb_nodes.proofs.GrowRefused.{grow_refused, make_refused}
use Rattle.mb_nodes.proofs.laws.directory_refused.Goals as goal

pub returns : goal.returns
returns c = record { grown = grow_refused; made = make_refused }
