use Rattle.std.proofs.Common.{◌∙◌, sym, ap, is_some}
use Rattle.std.specs.FinMap as fin
use Rattle.mb_tree.proofs.FiniteMaps.{get_view}
use Rattle.mb_tree.proofs.maps.Map.has.Goals as goal

pub returns : goal.returns
returns g c = c.contains_key.ensures ∙ ap is_some (sym (get_view c.self.inside.inner.entries c.args.key) ∙ ap (λ m. fin.get m c.args.key) c.self.view_is)
