use Rattle.std.proofs.Common.{◌∙◌, sym, ap}
use Rattle.std.specs.FinMap as fin
use Rattle.mb_tree.proofs.FiniteMaps.{get_view, taken_view}
use Rattle.mb_tree.proofs.maps.Map.remove.Goals as goal

pub returns-clause-before : goal.returns-clause-before
returns-clause-before g c = c.remove.ensures.value ∙ sym (get_view c.self.inside.inner.entries c.args.key) ∙ ap (λ m. fin.get m c.args.key) c.self.view_is

pub returns-clause-removed : goal.returns-clause-removed
returns-clause-removed g c = taken_view c.self.inside.inner.entries c.remove.new.self.entries c.args.key c.remove.ensures.updates.0 ∙ ap (λ m. fin.remove m c.args.key) c.self.view_is
