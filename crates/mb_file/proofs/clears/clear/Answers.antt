use Rattle.std.proofs.Common.{◌≡◌, List, ℕ, subst}
use Rattle.mb_tree.specs.Views.{over}
use Rattle.mb_kinds.specs.Changed.{changed}
use Rattle.mb_blocks.specs.Inodes.{IsDinodeWritten}
use Rattle.mb_file.specs.Freeing.{PutsAllBack}
use Rattle.mb_file.proofs.Clearing.{asked_listing, clears_by}
use Rattle.mb_file.proofs.clears.clear.Goals as goal

pub returns-in-Need-blocks_to_free : goal.returns-in-Need-blocks_to_free
returns-in-Need-blocks_to_free g c = asked_listing (g.V.View.shown c.args.view.now) c.args.changes.now c.args.changes.now c.args.ino c.args.moment c.in-Here.inode c.in-Here.ensures c.in-Need-blocks_to_free.need c.in-Need-blocks_to_free.ensures.0 c.in-Need-blocks_to_free.ensures.1

pub returns-in-Done : goal.returns-in-Done
returns-in-Done g c =
    let same : c.deref.result.now ≡ c.in-Blocks.list.items = cc in
    clears_by (g.V.View.shown c.args.view.now) c.args.changes.now c.put_all_back.new.changes c.args.ino c.args.moment c.in-Here.inode c.in-Here.ensures c.write_inode.new.changes c.in-Blocks.list.items c.in-Done.ensures.bytes.within
    (λ blocks part. subst (IsDinodeWritten (over blocks (changed c.args.changes.now)) (over blocks (changed c.write_inode.new.changes)) c.args.ino) c.without_parts-holes.ensures (c.in-Done.ensures.written blocks part))
    c.in-Blocks.ensures c.put_all_back.result
    (subst (λ (xs : List ℕ). PutsAllBack (g.V.View.shown c.args.view.now) c.write_inode.new.changes c.put_all_back.new.changes xs c.put_all_back.result) same c.put_all_back.ensures)
