use Rattle.std.proofs.Common.{refl, sym, ap, subst, Option, List, ℕ}
use Rattle.std.specs.Prelude.{is_some}
use Rattle.mb_word.specs.Numbers.{put_at}
use Rattle.mb_iface.proofs.Editing.{Patches, by_put, put_patched}
use Rattle.mb_iface.proofs.edits.edit_copy.Goals as goal

pub returns-in-Ok : goal.returns-in-Ok
returns-in-Ok g c =
    by_put (g.V.View.shown c.args.view.now) c.args.changes.now c.args.changes.now c.patch.new.self c.args.block c.args.at c.args.bytes.now c.in-Some.found.now (put_at c.in-Some.found.now c.args.at c.args.bytes.now) (ap is_some c.requires.unchanged)
    (subst (λ (o : Option (List ℕ)). Patches o c.args.changes.now c.args.changes.now c.args.block c.args.at c.args.bytes.now) (sym c.requires.unchanged) refl)
    (sym c.in-Some.ensures) refl
    (put_patched c.args.changes.now c.put.new.self c.patch.new.self c.args.block c.args.at c.args.bytes.now c.in-Some.found.now c.in-Ok.ensures.each c.patch.ensures.each)
