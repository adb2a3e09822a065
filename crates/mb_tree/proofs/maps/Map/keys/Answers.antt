use Rattle.mb_tree.proofs.MapCopies.{keys_view}
use Rattle.mb_tree.proofs.maps.Map.keys.Goals as goal

pub returns : goal.returns
returns g c = keys_view c.self.inside.inner.entries c.in_ok-keys.keys.items _ c.self.view_is c.in_ok-keys.ensures.ordered c.in_ok-keys.ensures.keys
