use Rattle.std.proofs.Common.{◌+◌, ◌<◌, ap, arith, length}
use Rattle.std.proofs.lemmas.Option.{slice_get_within}
use Rattle.mb_run.proofs.Starting.{lacks_more}
use Rattle.mb_run.proofs.orders.find_letter.Goals as goal

pub loop-caller-preserved : goal.loop-caller-preserved
loop-caller-preserved c = record {
  at = ap (λ n. n + 1) c.loop-caller.invariant.at;
  lacks = lacks_more c.args.callers.now c.args.letter c.loop-caller.caller-index _ c.loop-caller-test.true c.if-caller-letter.false c.loop-caller.invariant.lacks;
}

pub returns-clause-lacks : goal.returns-clause-lacks
returns-clause-lacks c = λ none place caller here.
    let low : place < length c.args.callers.now = slice_get_within c.args.callers.now place caller here in
    c.loop-caller.invariant.lacks place caller (omega (arith, low, c.loop-caller-test.false)) here
