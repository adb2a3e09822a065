use Rattle.std.proofs.Common.{arith}
use Rattle.mb_edge.proofs.Fronts.{front_stuck, front_kept, front_more, front_fits}
use Rattle.mb_edge.proofs.transfers.write_whole.Goals as goal

pub returns-in-Ok-eq0-clause-bytes : goal.returns-in-Ok-eq0-clause-bytes
returns-in-Ok-eq0-clause-bytes g c =
    front_stuck _ _ _ _ _ _ _ c.turns.invariant.so_far c.in-Ok-eq0.ensures.bytes c.in-Ok-eq0.field-0-test

pub turns-preserved : goal.turns-preserved
turns-preserved g c = record {
  bound = front_fits c.args.text.now c.turns.at c.in-Ok.count c.turns.invariant.bound c.in-Ok.ensures.bound;
  so_far = front_more _ _ _ c.args.text.now c.turns.at c.in-Ok.count c.turns.invariant.so_far c.in-Ok.ensures.bytes;
  later = omega (arith, c.write.ensures.cause.later);
}

pub returns-in-Err-clause-bytes : goal.returns-in-Err-clause-bytes
returns-in-Err-clause-bytes g c = front_kept _ _ _ _ _ c.turns.invariant.so_far c.in-Err.ensures.bytes
