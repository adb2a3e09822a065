use Rattle.mb_nodes.proofs.CostGrows.{no_space}
use Rattle.mb_nodes.proofs.Filling.{filled_now, refused}
use Rattle.mb_nodes.proofs.laws.hole_filled.Goals as goal

pub returns : goal.returns
returns c = record {
  filled = λ image tree chain stored ino node has size parts part body none below new reaches.
      filled_now image tree chain stored ino node size parts part has body none below new reaches;
  refused = λ image tree chain stored ino node has size parts part body none below short.
      refused image tree chain stored ino node size parts part has body none below short;
  wanted = λ image tree chain stored ino node has size parts part body none below short wanted other more is there within.
      no_space image tree chain stored ino node has size parts part body none below short wanted other more is there within;
}
