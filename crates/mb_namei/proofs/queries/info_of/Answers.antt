use Rattle.mb_namei.proofs.Answering.{info_found, info_asks}
use Rattle.mb_namei.proofs.queries.info_of.Goals as goal

pub returns-in-Inode-clause-answer : goal.returns-in-Inode-clause-answer
returns-in-Inode-clause-answer g c = info_found (g.V.View.shown c.args.view.now) c.new.result c.new.ensures c.args.ino c.in-Inode.inode c.stat_by.result c.in-Inode.ensures c.stat_by.ensures

pub returns-clause-answer : goal.returns-clause-answer
returns-clause-answer g c = (let e = c.in-Need.ensures in info_asks (g.V.View.shown c.args.view.now) c.new.result c.new.ensures c.args.ino c.in-Need.need e.1)
