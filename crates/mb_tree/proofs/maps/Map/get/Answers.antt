use Rattle.std.proofs.Common.{◌∙◌, sym, ap}
use Rattle.std.specs.FinMap as fin
use Rattle.mb_tree.proofs.FiniteMaps.{get_view, seen}
use Rattle.mb_tree.proofs.maps.Map.get.Goals as goal

pub returns : goal.returns
returns g c = seen c.get.result _ (c.get.ensures.value ∙ sym (get_view c.self.inside.inner.entries c.args.key) ∙ ap (λ m. fin.get m c.args.key) c.self.view_is)
