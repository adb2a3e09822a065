use Rattle.std.proofs.Common.{Ok, sym, subst, ap}
use Rattle.mb_calls.specs.Halts.{Matches}
use Rattle.mb_calls.specs.Spots.{SpotTold, used_at}
use Rattle.mb_calls.specs.Spots.{SpotBeside}
use Rattle.mb_calls.proofs.asks.used.Goals as goal

pub returns-in-Ok-clause-says : goal.returns-in-Ok-clause-says
returns-in-Ok-clause-says g c = λ image tree part volume told.
    subst (λ n. Matches c.used_beside.result (Ok n)) (sym (ap (used_at tree.nodes) c.in-Ok.is)) (c.used_beside.ensures.says image tree part volume (subst (SpotTold tree.nodes) c.in-Ok.is told))

pub returns-in-Ok-clause-near : goal.returns-in-Ok-clause-near
returns-in-Ok-clause-near g c = λ image tree seat made part volume told beside.
    c.used_beside.ensures.near image tree seat made part volume (subst (SpotTold tree.nodes) c.in-Ok.is told) (subst (SpotBeside tree.nodes seat made) c.in-Ok.is beside)
