use Rattle.std.proofs.Common.{sym, ap, length, arith}
use Rattle.std.proofs.lemmas.List.{nil_from_length}
use Rattle.mb_tree.proofs.Groups.{one_more, none_more, all_counted}
use Rattle.mb_tree.proofs.costs.touched.Goals as goal

pub turns-preserved-then-is_last : goal.turns-preserved-then-is_last
turns-preserved-then-is_last c = record {
  few = omega (arith, ap length c.in-Some.ensures.cases.0);
  so_far = one_more c.args.low c.args.high c.args.size c.in-Some.part.now c.turns.count _ _ c.in-Some.after.now c.in-Some.ensures.cases.0 (sym c.if-is_last.ensures) c.turns.invariant.so_far;
}

pub turns-preserved : goal.turns-preserved
turns-preserved c = record {
  few = omega (arith, ap length c.in-Some.ensures.cases.0);
  so_far = none_more c.args.low c.args.high c.args.size c.in-Some.part.now c.turns.count _ _ c.in-Some.after.now c.in-Some.ensures.cases.0 (sym c.if-is_last.ensures) c.turns.invariant.so_far;
}

pub returns-clause-count : goal.returns-clause-count
returns-clause-count c = all_counted c.args.low c.args.high c.args.size c.turns.count _ c.turns.rest.now (nil_from_length _ c.in_default.ensures.cases) c.turns.invariant.so_far
