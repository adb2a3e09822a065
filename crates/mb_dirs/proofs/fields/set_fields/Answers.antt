use Rattle.mb_dirs.proofs.FieldSetting.{set_done}
use Rattle.mb_dirs.proofs.fields.set_fields.Goals as goal

pub returns-in-Done : goal.returns-in-Done
returns-in-Done g c = set_done (g.V.View.shown c.args.view.now) c.args.changes.now c.write_inode.new.changes c.args.ino c.args.change.now c.in-Here.inode c.with_fields-inode.result c.in-Here.ensures c.with_fields-inode.ensures c.in-Done.ensures.bytes.within c.in-Done.ensures.written
