use Rattle.mb_namei.proofs.Searching.{HasPassed}
use Rattle.mb_namei.proofs.searches.search_by.Given as goal

abbrev pub invariant-loop-part : goal.invariant-loop-part
invariant-loop-part g l = HasPassed (g.V.View.shown l.view) l.changes l.dir l.part l.count l.empty l.name
