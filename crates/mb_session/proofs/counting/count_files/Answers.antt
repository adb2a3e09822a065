use Rattle.std.proofs.Common.{arith}
use Rattle.std.specs.FinMap as fin
use Rattle.mb_tree.specs.Sessions.{held_by}
use Rattle.mb_tree.proofs.Searches.{sum_more, sum_none}
use Rattle.mb_session.proofs.Held.{at_most_one}
use Rattle.mb_session.proofs.counting.count_files.Goals as goal

pub turns-init : goal.turns-init
turns-init c = record {
  bound = omega arith;
  few = λ ino. omega (arith, c.requires ino);
  so_far = λ ino. let none = sum_none (λ place. held_by ino (fin.get c.args.seat.now.files place)) in omega (arith, none);
}

pub turns-preserved : goal.turns-preserved
turns-preserved c = record {
  bound = omega arith;
  few = λ ino. omega (arith, c.turns.invariant.few ino, c.in_ok-count_file.ensures ino, at_most_one ino (fin.get c.args.seat.now.files c.turns.place));
  so_far = λ ino.
      let more = sum_more (λ place. held_by ino (fin.get c.args.seat.now.files place)) c.turns.place in
      omega (arith, c.turns.invariant.so_far ino, c.in_ok-count_file.ensures ino, more);
}
