use Rattle.mb_kinds.specs.declared.faults.Kind.TheVariants as kind
use Rattle.mb_recover.proofs.Meeting.{declared_by, meets_call}
use Rattle.mb_recover.proofs.steps.replay.Goals as goal

pub strike-requires-clause-of : goal.strike-requires-clause-of
strike-requires-clause-of g c = meets_call c.args.core.now c.args.by.now _ c.in-Some.at c.requires.by c.in-Some.ensures.met.1

pub replay_one-requires-clause-by : goal.replay_one-requires-clause-by
replay_one-requires-clause-by g c = declared_by c.args.core.now c.args.by.now c.meets.new.by kind.Replay c.caller_of.result c.requires.by c.callers_declared.ensures c.meets.ensures.counted c.caller_of.ensures
