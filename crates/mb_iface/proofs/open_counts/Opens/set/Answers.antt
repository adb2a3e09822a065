use Rattle.std.proofs.Common.{◌∙◌, ap, subst, sym, arith}
use Rattle.std.specs.FinMap as fin
use Rattle.mb_tree.proofs.FiniteMaps.{get_view, given_view, taken_view}
use Rattle.mb_iface.specs.OpenCounts.{AreCounts}
use Rattle.mb_iface.proofs.CountMaps.{counted_more, counted_less, with_none, with_some, on_err}
use Rattle.mb_iface.proofs.open_counts.Opens.set.Goals as goal

pub invariant_of-self : goal.invariant_of-self
invariant_of-self c = subst AreCounts (sym (taken_view c.self.inside.counts.entries c.remove.new.self.entries c.args.ino c.remove.ensures.updates.0)) (counted_less (fin.from_entries c.self.inside.counts.entries) c.args.ino c.self.invariant)

pub returns-then-count-eq0-clause-ok : goal.returns-then-count-eq0-clause-ok
returns-then-count-eq0-clause-ok c =
    taken_view c.self.inside.counts.entries c.remove.new.self.entries c.args.ino c.remove.ensures.updates.0
    ∙ ap (λ m. fin.remove m c.args.ino) c.self.view_is
    ∙ sym (with_none c.args.self.now c.args.ino c.args.count c.if-count-eq0.true)

pub invariant_of-self-2 : goal.invariant_of-self-2
invariant_of-self-2 c = subst AreCounts (sym (given_view c.self.inside.counts.entries c.insert.new.self.entries c.args.ino c.args.count c.in_ok-insert.ensures.updates.0)) (counted_more (fin.from_entries c.self.inside.counts.entries) c.args.ino c.args.count c.self.invariant (omega arith))

pub returns-clause-ok : goal.returns-clause-ok
returns-clause-ok c =
    given_view c.self.inside.counts.entries c.insert.new.self.entries c.args.ino c.args.count c.in_ok-insert.ensures.updates.0
    ∙ ap (λ m. fin.insert m c.args.ino c.args.count) c.self.view_is
    ∙ sym (with_some c.args.self.now c.args.ino c.args.count c.if-count-eq0.false)

pub returns-in_err-insert-clause-absent : goal.returns-in_err-insert-clause-absent
returns-in_err-insert-clause-absent c = on_err c.from_residual.result (ap (λ m. fin.get m c.args.ino) (sym c.self.view_is) ∙ get_view c.self.inside.counts.entries c.args.ino ∙ c.in_err-insert.ensures.absent)
