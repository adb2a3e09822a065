use Rattle.std.proofs.Common.{Ok, ap, ◌∙◌}
use Rattle.std.specs.FinMap as fin
use Rattle.mb_calls.proofs.Asking.{found_bytes, refused_bytes}
use Rattle.mb_iface.specs.Near.{IsPassed}
use Rattle.mb_calls.specs.Looked.{IsLooked}
use Rattle.mb_iface.specs.declared.queries.Query.TheVariants as query
use Rattle.mb_calls.proofs.Nearby.{named_looked, near_asked, near_more}
use Rattle.mb_calls.proofs.asks.bytes.Goals as goal

pub returns-in-Found-Bytes-clause-says : goal.returns-in-Found-Bytes-clause-says
returns-in-Found-Bytes-clause-says g c = λ image tree part volume opened. found_bytes (fin.get tree.nodes c.args.file.ino) c.args.file.offset c.args.count c.in-Found-Bytes.bytes (c.in-Found-Bytes.ensures.answer image tree part volume opened ∙ ap Ok c.in-Found-Bytes.field-0-is)

pub returns-in-Refused-clause-says : goal.returns-in-Refused-clause-says
returns-in-Refused-clause-says g c = λ image tree part volume opened. absurd (refused_bytes tree.nodes c.args.file.ino c.args.file.offset c.args.count c.in-Refused.error opened (c.in-Refused.ensures.answer image tree part volume opened))

pub returns-in-Need-clause-near : goal.returns-in-Need-clause-near
returns-in-Need-clause-near g c = λ image tree seat made part volume there looks. near_more image tree (IsPassed tree (query.Bytes c.args.file.ino c.args.file.offset c.args.count)) (IsLooked tree.nodes seat made) _ (named_looked tree.nodes seat made c.args.file.ino looks)
    (near_asked image tree (query.Bytes c.args.file.ino c.args.file.offset c.args.count) c.in-Need.need (c.in-Need.ensures.answer image tree part volume) there)
