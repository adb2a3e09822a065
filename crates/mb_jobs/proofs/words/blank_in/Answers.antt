use Rattle.std.proofs.Common.{rules, tests}
use Rattle.std.proofs.lemmas.Iterator.{YieldsList-from_slice}
use Rattle.std.proofs.lemmas.Iterator.Search.{position_from_yields_List}
use Rattle.mb_jobs.specs.Words.{is_blank}
use Rattle.mb_jobs.proofs.words.blank_in.Goals as goal

pub returns-clause-exact : goal.returns-clause-exact
returns-clause-exact c = position_from_yields_List (is_blank) _ _ _ c.position.ensures.ran (YieldsList-from_slice c.args.line.now cc) (λ x b q k. search (rules, tests))
