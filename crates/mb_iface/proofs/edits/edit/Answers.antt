use Rattle.std.proofs.Common.{sym, ap, subst, ◌∙◌}
use Rattle.mb_kinds.specs.Changed.{changed}
use Rattle.mb_iface.specs.Edits.{Edits}
use Rattle.mb_iface.proofs.Editing.{by_patch, unpatched, none_told}
use Rattle.mb_iface.proofs.edits.edit.Goals as goal

pub returns-then-patch : goal.returns-then-patch
returns-then-patch g c = by_patch (g.V.View.shown c.args.view.now) c.args.changes.now c.patch.new.self c.args.block c.args.at c.args.bytes.now (sym c.patch.ensures.told ∙ c.if-patch.true) c.patch.ensures.each

pub edit_copy-requires-clause-unchanged : goal.edit_copy-requires-clause-unchanged
edit_copy-requires-clause-unchanged g c =
    let told = sym c.patch.ensures.told ∙ c.if-patch.false in
    ap (λ es. changed es c.args.block) (unpatched c.args.changes.now c.patch.new.self c.args.block c.args.at c.args.bytes.now told c.patch.ensures.each)
    ∙ none_told (changed c.args.changes.now c.args.block) told

pub returns : goal.returns
returns g c =
    let told = sym c.patch.ensures.told ∙ c.if-patch.false in
    subst (λ es. Edits (g.V.View.shown c.args.view.now) es c.edit_copy.new.changes c.args.block c.args.at c.args.bytes.now c.edit_copy.result)
    (unpatched c.args.changes.now c.patch.new.self c.args.block c.args.at c.args.bytes.now told c.patch.ensures.each)
    c.edit_copy.ensures
