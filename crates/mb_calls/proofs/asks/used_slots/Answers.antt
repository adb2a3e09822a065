use Rattle.std.proofs.Common.{Ok, ap, ◌∙◌}
use Rattle.mb_calls.proofs.Asking.{found_used, refused_used}
use Rattle.mb_iface.specs.Near.{IsPassed}
use Rattle.mb_calls.specs.Looked.{IsLooked}
use Rattle.mb_iface.specs.declared.queries.Query.TheVariants as query
use Rattle.mb_calls.proofs.Nearby.{named_looked, near_asked, near_more}
use Rattle.mb_calls.proofs.asks.used_slots.Goals as goal

pub returns-in-Found-Used-clause-says : goal.returns-in-Found-Used-clause-says
returns-in-Found-Used-clause-says g c = λ image tree part volume there. found_used _ c.in-Found-Used.count (c.in-Found-Used.ensures.answer image tree part volume there ∙ ap Ok c.in-Found-Used.field-0-is)

pub returns-in-Refused-clause-says : goal.returns-in-Refused-clause-says
returns-in-Refused-clause-says g c = λ image tree part volume there. absurd (refused_used _ c.in-Refused.error (c.in-Refused.ensures.answer image tree part volume there))

pub returns-in-Need-clause-near : goal.returns-in-Need-clause-near
returns-in-Need-clause-near g c = λ image tree seat made part volume there looks. near_more image tree (IsPassed tree (query.Used c.args.ino)) (IsLooked tree.nodes seat made) _ (named_looked tree.nodes seat made c.args.ino looks)
    (near_asked image tree (query.Used c.args.ino) c.in-Need.need (c.in-Need.ensures.answer image tree part volume) there)
