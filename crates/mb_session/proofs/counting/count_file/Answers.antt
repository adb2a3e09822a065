use Rattle.std.proofs.Common.{◌+◌, ◌∙◌, ap, sym}
use Rattle.mb_iface.specs.OpenCounts.{count_of}
use Rattle.mb_tree.specs.Sessions.{held_by}
use Rattle.mb_session.proofs.Held.{file_counted}
use Rattle.mb_session.proofs.counting.count_file.Goals as goal

pub returns : goal.returns
returns c = λ ino.
    ap (λ opens. count_of opens ino) c.in_ok-set.ensures.ok
    ∙ file_counted c.args.opens.now c.in-Some.file c.count-count.result c.count-count.ensures.count ino
    ∙ ap (λ file. count_of c.args.opens.now ino + held_by ino file) (sym c.in-Some.is ∙ c.get.ensures.file)
