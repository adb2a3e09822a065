use Rattle.std.proofs.Common.{◌∙◌, sym, ap}
use Rattle.std.specs.FinMap as fin
use Rattle.mb_tree.proofs.FiniteMaps.{get_view, given_view, none_there}
use Rattle.mb_tree.proofs.maps.Map.insert.Goals as goal

pub returns-in_err-insert-clause-sure : goal.returns-in_err-insert-clause-sure
returns-in_err-insert-clause-sure g c = λ some. absurd (none_there _ (ap (λ m. fin.get m c.args.key) (sym c.self.view_is) ∙ get_view c.self.inside.inner.entries c.args.key ∙ c.in_err-insert.ensures.absent) some)

pub returns-clause-ok : goal.returns-clause-ok
returns-clause-ok g c = given_view c.self.inside.inner.entries c.insert.new.self.entries c.args.key c.args.value c.in_ok-insert.ensures.updates.0 ∙ ap (λ m. fin.insert m c.args.key c.args.value) c.self.view_is
