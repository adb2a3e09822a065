use Rattle.std.proofs.Common.{refl}
use Rattle.mb_tree.specs.declared.operations.FsOp.TheVariants.{SetTimes}
use Rattle.mb_fsops.proofs.attributes.set_times.Goals as goal

pub returns : goal.returns
returns g c = c.set.ensures (SetTimes c.args.ino c.args.atime c.args.mtime c.args.moment) refl
