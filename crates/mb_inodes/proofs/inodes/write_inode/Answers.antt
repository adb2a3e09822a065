use Rattle.std.proofs.Common.{refl}
use Rattle.mb_inodes.proofs.Writing.{written}
use Rattle.mb_inodes.proofs.inodes.write_inode.Goals as goal

pub returns-clause-written : goal.returns-clause-written
returns-clause-written g c = written (g.V.View.shown c.args.view.now) c.args.changes.now c.edit.new.changes c.args.ino c.inode_block.result c.inode_place.result c.args.inode.now c.put_inode.new.bytes c.edit.result c.inode_block.ensures c.inode_place.ensures c.put_inode.ensures.bytes c.put_inode.ensures.fits c.edit.ensures
