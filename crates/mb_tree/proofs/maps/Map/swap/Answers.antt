use Rattle.std.proofs.Common.{◌∙◌, sym, ap, subst, IsSome, Some, refl}
use Rattle.std.specs.FinMap as fin
use Rattle.mb_tree.proofs.FiniteMaps.{get_view, given_view, none_there}
use Rattle.mb_tree.proofs.maps.Map.swap.Goals as goal

pub returns-in_default-clause-put : goal.returns-in_default-clause-put
returns-in_default-clause-put g c = absurd (none_there _ (ap (λ m. fin.get m c.args.key) (sym c.self.view_is) ∙ get_view c.self.inside.inner.entries c.args.key ∙ sym c.in_default.ensures.value) c.requires)

pub returns-in_default-clause-taken : goal.returns-in_default-clause-taken
returns-in_default-clause-taken g c = absurd (none_there _ (ap (λ m. fin.get m c.args.key) (sym c.self.view_is) ∙ get_view c.self.inside.inner.entries c.args.key ∙ sym c.in_default.ensures.value) c.requires)

pub returns-clause-put : goal.returns-clause-put
returns-clause-put g c =
    let h = c.get_mut.follows.holds c.swap.new.x in
    given_view c.self.inside.inner.entries _ c.args.key c.swap.new.x (h.3 (subst IsSome c.in-Some.ensures.value refl)).0
    ∙ ap (λ m. fin.insert m c.args.key c.swap.new.x) c.self.view_is ∙ ap (fin.insert c.args.self.now c.args.key) c.swap.ensures.x_after

pub returns-clause-taken : goal.returns-clause-taken
returns-clause-taken g c = ap (λ m. fin.get m c.args.key) (sym c.self.view_is) ∙ get_view c.self.inside.inner.entries c.args.key ∙ sym c.in-Some.ensures.value ∙ ap Some (sym c.swap.ensures.y_after)

pub returns-clause-there : goal.returns-clause-there
returns-clause-there g c =
    let h = c.get_mut.follows.holds c.swap.new.x in
    subst IsSome (sym (get_view (c.get_mut.follows.lender c.swap.new.x).entries c.args.key ∙ (h.3 (subst IsSome c.in-Some.ensures.value refl)).1)) refl
