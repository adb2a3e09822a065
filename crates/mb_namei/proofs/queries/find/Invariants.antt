use Rattle.std.proofs.Common.{length}
use Rattle.mb_namei.proofs.Answering.{HasWalked}
use Rattle.mb_namei.proofs.queries.find.Given as goal

abbrev pub invariant-names : goal.invariant-names
invariant-names g l = HasWalked (g.V.View.shown l.view) l.fn.cwd l.cred l.path l.ino l.rest

abbrev pub decreases-names : goal.decreases-names
decreases-names g l = length l.rest
