use Rattle.std.proofs.Common.{length}
use Rattle.mb_namei.proofs.Answering.{HasPlaced}
use Rattle.mb_namei.proofs.queries.place.Given as goal

abbrev pub invariant-names : goal.invariant-names
invariant-names g l = HasPlaced (g.V.View.shown l.view) l.fn.cwd l.cred l.path l.dir l.here.name l.here.rest.now

abbrev pub decreases-names : goal.decreases-names
decreases-names g l = length l.here.rest.now
