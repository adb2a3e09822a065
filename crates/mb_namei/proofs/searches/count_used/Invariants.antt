use Rattle.mb_namei.proofs.Searching.{HasCounted}
use Rattle.mb_namei.proofs.searches.count_used.Given as goal

abbrev pub invariant-loop-part : goal.invariant-loop-part
invariant-loop-part g l = HasCounted (g.V.View.shown l.view) l.changes l.dir l.part l.count l.used
