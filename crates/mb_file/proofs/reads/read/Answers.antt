use Rattle.std.proofs.Common.{◌≡◌, ◌∙◌, subst}
use Rattle.mb_iface.specs.Asking.{Finds}
use Rattle.mb_iface.specs.declared.queries.Query.TheVariants.{Bytes}
use Rattle.mb_iface.specs.declared.replies.Answer.TheVariants as answer
use Rattle.mb_iface.specs.declared.replies.Asked.TheVariants as asked
use Rattle.mb_file.proofs.Answering.{found_bytes, found_nothing, asked_reading}
use Rattle.mb_file.proofs.reads.read.Goals as goal

pub returns-then-most-eq0-clause-answer : goal.returns-then-most-eq0-clause-answer
returns-then-most-eq0-clause-answer g c = λ image tree part volume.
    found_nothing (g.V.View.shown c.args.view.now) c.new-changes.result c.new-changes.ensures image tree part volume c.args.ino c.args.offset c.args.count c.in-Here.inode c.readable-most.ensures.small c.in-Here.ensures c.readable-most.result c.readable-most.ensures.most c.if-most-eq0.true
    c.from_vec.result (c.from_vec.ensures ∙ c.new.ensures.items)

pub returns-in-Need-look-clause-answer : goal.returns-in-Need-look-clause-answer
returns-in-Need-look-clause-answer g c = λ image tree part volume.
    asked_reading (g.V.View.shown c.args.view.now) c.new-changes.result c.new-changes.ensures image tree part volume c.args.ino c.args.offset c.args.count c.in-Need-look.need c.in-Need-look.ensures

pub returns-in-Bytes-clause-answer : goal.returns-in-Bytes-clause-answer
returns-in-Bytes-clause-answer g c = λ image tree part volume.
    subst (λ items. Finds image tree (Bytes c.args.ino c.args.offset c.args.count) (asked.Found (answer.Bytes items))) (let e : c.in-Bytes.bytes.items ≡ c.from_vec-in-Bytes.result = cc in e)
    (found_bytes (g.V.View.shown c.args.view.now) c.new-changes.result c.new-changes.ensures image tree part volume c.args.ino c.args.offset c.args.count c.in-Here.inode c.readable-most.ensures.small c.in-Here.ensures c.readable-most.result c.readable-most.ensures.most
    c.in-Bytes.bytes.items c.in-Bytes.ensures.1)

pub returns-in-Need-copy-clause-answer : goal.returns-in-Need-copy-clause-answer
returns-in-Need-copy-clause-answer g c = λ image tree part volume.
    asked_reading (g.V.View.shown c.args.view.now) c.new-changes.result c.new-changes.ensures image tree part volume c.args.ino c.args.offset c.args.count c.in-Need-copy.need c.in-Need-copy.ensures
