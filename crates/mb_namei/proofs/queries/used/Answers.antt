use Rattle.mb_namei.proofs.Answering.{used_asks, used_counted, used_needs}
use Rattle.mb_namei.proofs.queries.used.Goals as goal

pub returns-in-Need-clause-answer : goal.returns-in-Need-clause-answer
returns-in-Need-clause-answer g c = (let e = c.in-Need.ensures in used_asks (g.V.View.shown c.args.view.now) c.new-none.result c.new-none.ensures c.args.ino c.in-Need.need e.1)

pub returns-in-Used-clause-answer : goal.returns-in-Used-clause-answer
returns-in-Used-clause-answer g c = used_counted (g.V.View.shown c.args.view.now) c.new-none.result c.new-none.ensures c.args.ino c.in-Inode.inode c.in-Inode.ensures c.in-Used.count c.in-Used.ensures

pub returns-clause-answer : goal.returns-clause-answer
returns-clause-answer g c =
    (let e = c.in-Need-count_used.ensures in used_needs (g.V.View.shown c.args.view.now) c.new-none.result c.new-none.ensures c.args.ino c.in-Inode.inode c.in-Inode.ensures c.in-Need-count_used.need e.1)
