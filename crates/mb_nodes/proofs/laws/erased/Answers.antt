use Rattle.mb_nodes.proofs.Erasing.{erased, erased_kept}
use Rattle.mb_nodes.proofs.laws.erased.Goals as goal

pub returns : goal.returns
returns c = λ image tree chain stored ino node has mid new list lets written freed free wiped. record {
  stored = erased image tree chain stored ino node has mid new list lets written freed free;
  kept = erased_kept image tree chain stored ino node has mid new list lets written freed free wiped;
}
