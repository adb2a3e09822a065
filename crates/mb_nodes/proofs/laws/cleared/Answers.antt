use Rattle.mb_nodes.proofs.Erasing.{cleared, cleared_kept}
use Rattle.mb_nodes.proofs.laws.cleared.Goals as goal

pub returns : goal.returns
returns c = λ image tree chain stored ino node left has mid new list lets written freed size empty fields long holes. record {
  stored = cleared image tree chain stored ino node has mid new list lets written freed left size empty fields long holes;
  kept = cleared_kept image tree chain stored ino node has mid new list lets written freed left size empty fields long holes;
}
