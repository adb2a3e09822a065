use Rattle.std.proofs.Common.{Ok, ap, ◌∙◌}
use Rattle.mb_tree.specs.Rows.{base_of}
use Rattle.mb_calls.proofs.Asking.{size_told, stat_there}
use Rattle.mb_calls.proofs.planning.base_of.Goals as goal

pub returns-in-Ok-clause-says : goal.returns-in-Ok-clause-says
returns-in-Ok-clause-says g c = λ image tree part volume there. ap (λ w. Ok (base_of tree.nodes c.args.file w)) c.in-End.is ∙ ap Ok (size_told tree.nodes c.args.file.ino c.in-Ok.stat (c.in-Ok.ensures.says image tree part volume there))

pub returns-in-Err-clause-says : goal.returns-in-Err-clause-says
returns-in-Err-clause-says g c = λ image tree part volume there. stat_there tree.nodes c.args.file.ino c.in-Err.stop there (c.in-Err.ensures.says image tree part volume there) _
