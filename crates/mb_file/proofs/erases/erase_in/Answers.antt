use Rattle.std.proofs.Common.{◌≡◌, List, ℕ, subst}
use Rattle.mb_file.specs.Freeing.{PutsAllBack}
use Rattle.mb_file.proofs.ErasingSteps.{asked_held, erases_by}
use Rattle.mb_file.proofs.erases.erase_in.Goals as goal

pub returns-in-Need-held : goal.returns-in-Need-held
returns-in-Need-held g c = asked_held (g.V.View.shown c.args.view.now) c.args.changes.now c.args.changes.now c.args.ino c.in-Here.inode c.in-Here.ensures c.in-Need-held.need c.in-Need-held.ensures.0 c.in-Need-held.ensures.1

pub returns-in-Done : goal.returns-in-Done
returns-in-Done g c =
    let same : c.deref.result.now ≡ c.in-Blocks.list.items = cc in
    erases_by (g.V.View.shown c.args.view.now) c.args.changes.now c.put_all_back.new.changes c.args.ino c.in-Here.inode c.in-Here.ensures c.free_inode.new.changes c.in-Blocks.list.items c.in-Done.ensures c.in-Blocks.ensures c.put_all_back.result
    (subst (λ (xs : List ℕ). PutsAllBack (g.V.View.shown c.args.view.now) c.free_inode.new.changes c.put_all_back.new.changes xs c.put_all_back.result) same c.put_all_back.ensures)
