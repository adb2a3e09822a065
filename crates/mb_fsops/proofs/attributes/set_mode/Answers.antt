use Rattle.std.proofs.Common.{refl}
use Rattle.mb_tree.specs.declared.operations.FsOp.TheVariants.{SetMode}
use Rattle.mb_fsops.proofs.attributes.set_mode.Goals as goal

pub returns : goal.returns
returns g c = c.set.ensures (SetMode c.args.ino c.args.mode c.args.moment) refl
