use Rattle.std.proofs.Common.{rules, tests, nat_eq}
use Rattle.std.proofs.lemmas.Iterator.{YieldsList-from_slice}
use Rattle.std.proofs.lemmas.Iterator.Search.{position_from_yields_List}
use Rattle.mb_jobs.specs.declared.jobs.Caller.{Caller}
use Rattle.mb_jobs.proofs.calls.first_of.Goals as goal

pub returns-clause-exact : goal.returns-clause-exact
returns-clause-exact c = position_from_yields_List (λ (caller : Caller). nat_eq caller.letter c.args.letter) _ _ _ c.position.ensures.ran (YieldsList-from_slice c.args.callers.now cc) (λ x b q k. search (rules, tests))
