use Rattle.mb_jobs.proofs.CallPlaces.{Placed}
use Rattle.mb_jobs.proofs.ordinals.ordinals.Given as goal

abbrev pub invariant-calls : goal.invariant-calls
invariant-calls l = Placed l.calls l.counts l.places.items l.call-index
