use Rattle.std.proofs.Common.{refl}
use Rattle.mb_tree.specs.declared.operations.FsOp.TheVariants.{SetOwner}
use Rattle.mb_fsops.proofs.attributes.set_owner.Goals as goal

pub returns : goal.returns
returns g c = c.set.ensures (SetOwner c.args.ino c.args.uid c.args.gid c.args.moment) refl
