use Rattle.mb_dirs.proofs.Rewriting.{written_with}
use Rattle.mb_dirs.proofs.rewrites.rewrite.Goals as goal

pub returns-in-Done : goal.returns-in-Done
returns-in-Done g c = written_with (λ area. area) (g.V.View.shown c.args.view.now) c.args.changes.now c.write_inode.new.changes c.args.ino c.args.fields.now c.in-Here.now c.in-Here.ensures c.in-Done.ensures.bytes.within c.in-Done.ensures.written
