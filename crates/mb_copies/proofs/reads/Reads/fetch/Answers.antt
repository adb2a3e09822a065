use Rattle.std.proofs.Common.{rules, arith}
use Rattle.mb_copies.proofs.Numbers.{run_more}
use Rattle.mb_copies.proofs.reads.Reads.fetch.Goals as goal

pub loop-at-preserved : goal.loop-at-preserved
loop-at-preserved g c = record {
  rest = search rules;
  told = search rules;
  later = search rules;
  reads = search rules;
  numbers = run_more _ _ c.args.need.first c.loop-at.at _ c.loop-at.invariant.numbers c.in_ok-read.ensures.numbers (omega arith);
}
