use Rattle.std.proofs.Common.{subst}
use Rattle.mb_tree.specs.Views.{over}
use Rattle.mb_kinds.specs.Changed.{changed}
use Rattle.mb_blocks.specs.Inodes.{IsDinodeWritten}
use Rattle.mb_file.proofs.PuttingBytes.{asked_own, size_set}
use Rattle.mb_file.proofs.puts.grow.Goals as goal

pub returns-in-Need : goal.returns-in-Need
returns-in-Need g c = asked_own (g.V.View.shown c.args.view.now) c.args.changes.now c.args.changes.now c.args.ino c.args.end c.args.moment c.in-Need.need c.in-Need.ensures.0 c.in-Need.ensures.1

pub returns-in-Done : goal.returns-in-Done
returns-in-Done g c = size_set (g.V.View.shown c.args.view.now) c.args.changes.now c.write_inode.new.changes c.args.ino c.args.end c.args.moment c.in-Here.inode c.in-Here.ensures c.in-Done.ensures.bytes.within
    (λ blocks part. subst (IsDinodeWritten (over blocks (changed c.args.changes.now)) (over blocks (changed c.write_inode.new.changes)) c.args.ino) c.grown.ensures (c.in-Done.ensures.written blocks part))
