use Rattle.mb_dirs.proofs.MakingSteps.{file_step}
use Rattle.mb_dirs.proofs.makes.make_file.Goals as goal

pub returns : goal.returns
returns g c = file_step (g.V.View.shown c.args.view.now) c.args.changes.now c.write_blank.new.changes c.args.ino c.args.new.now c.inode_of.result c.write_blank.result c.inode_of.ensures c.write_blank.ensures
