use Rattle.std.proofs.Common.{Ok, ap, ◌∙◌}
use Rattle.mb_tree.specs.Lookup.{stat_in}
use Rattle.mb_calls.proofs.Asking.{found_stat, refused_any}
use Rattle.mb_iface.specs.declared.replies.Answer.TheVariants as answer
use Rattle.mb_iface.specs.Near.{IsPassed}
use Rattle.mb_calls.specs.Looked.{IsLooked}
use Rattle.mb_iface.specs.declared.queries.Query.TheVariants as query
use Rattle.mb_calls.proofs.Nearby.{named_looked, near_asked, near_more}
use Rattle.mb_calls.proofs.asks.info.Goals as goal

pub returns-in-Found-Node-clause-says : goal.returns-in-Found-Node-clause-says
returns-in-Found-Node-clause-says g c = λ image tree part volume there. found_stat (stat_in tree.nodes c.args.ino) c.in-Found-Node.stat (c.in-Found-Node.ensures.answer image tree part volume there ∙ ap Ok c.in-Found-Node.field-0-is)

pub returns-in-Refused-clause-says : goal.returns-in-Refused-clause-says
returns-in-Refused-clause-says g c = λ image tree part volume there. refused_any (stat_in tree.nodes c.args.ino) answer.Node c.in-Refused.error (c.in-Refused.ensures.answer image tree part volume there)

pub returns-in-Need-clause-near : goal.returns-in-Need-clause-near
returns-in-Need-clause-near g c = λ image tree seat made part volume there looks. near_more image tree (IsPassed tree (query.Info c.args.ino)) (IsLooked tree.nodes seat made) _ (named_looked tree.nodes seat made c.args.ino looks)
    (near_asked image tree (query.Info c.args.ino) c.in-Need.need (c.in-Need.ensures.answer image tree part volume) there)
