use Rattle.std.proofs.Common.{arith}
use Rattle.mb_jobs.proofs.ExitPlaces.{exits_more}
use Rattle.mb_jobs.proofs.exits.exits_of.Goals as goal

pub places-preserved : goal.places-preserved
places-preserved c = record {
  rest = rw c.in_ok-add_exit.ensures.exact (exits_more c.args.calls.now c.args.callers.now c.places.exits.items c.places.place _ c.places-test.true c.places.invariant.rest);
  few = let more = c.in_ok-add_exit.ensures.few in let before = c.places.invariant.few in omega (arith, more, before);
}
