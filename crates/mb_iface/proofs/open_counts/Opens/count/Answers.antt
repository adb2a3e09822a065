use Rattle.std.proofs.Common.{◌∙◌, sym, ap}
use Rattle.std.specs.FinMap as fin
use Rattle.mb_tree.proofs.FiniteMaps.{get_view}
use Rattle.mb_iface.proofs.CountMaps.{count_seen, no_count_seen}
use Rattle.mb_iface.proofs.open_counts.Opens.count.Goals as goal

pub returns-in-Some-clause-count : goal.returns-in-Some-clause-count
returns-in-Some-clause-count c = count_seen _ c.get.result (c.get.ensures.value ∙ sym (get_view c.self.inside.counts.entries c.args.ino) ∙ ap (λ m. fin.get m c.args.ino) c.self.view_is) c.in-Some.count c.in-Some.is

pub returns-in-None-clause-count : goal.returns-in-None-clause-count
returns-in-None-clause-count c = no_count_seen _ c.get.result (c.get.ensures.value ∙ sym (get_view c.self.inside.counts.entries c.args.ino) ∙ ap (λ m. fin.get m c.args.ino) c.self.view_is) c.in-None.is
