use Rattle.std.proofs.Common.{refl}
use Rattle.mb_bmap.proofs.Walking.{route_is}
use Rattle.mb_bmap.proofs.laws.ways_lead.Goals as goal

pub returns-clause-places : goal.returns-clause-places
returns-clause-places c = λ ino part low. (route_is part low).leads ino

pub returns-clause-worked : goal.returns-clause-worked
returns-clause-worked c = record { first = refl; last_own = refl; first_single = refl; last_single = refl; first_double = refl; last_double = refl; first_triple = refl; last_triple = refl }
