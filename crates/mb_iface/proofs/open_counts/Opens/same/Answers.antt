use Rattle.std.proofs.Common.{◌∙◌, sym, subst}
use Rattle.std.specs.Cmp.{unsigned_Decides}
use Rattle.std.proofs.lemmas.Map.Lookups.{btree_map_eq-Decides}
use Rattle.mb_iface.specs.OpenCounts.{AreCounts}
use Rattle.mb_iface.proofs.CountMaps.{same_maps, other_lengths, same_counts}
use Rattle.mb_iface.proofs.open_counts.Opens.same.Goals as goal

pub returns-then-len-clause-maps : goal.returns-then-len-clause-maps
returns-then-len-clause-maps c = same_maps _ c.self.inside.counts c.other.inside.counts c.args.self.now c.args.other.now c.self.view_is c.other.view_is c.len.ensures.ordered c.len-2.ensures.ordered
    (other_lengths c.self.inside.counts c.other.inside.counts (λ same. c.if-len.true (c.len.ensures.len ∙ same ∙ sym c.len-2.ensures.len)))

pub returns-then-len-clause-counts : goal.returns-then-len-clause-counts
returns-then-len-clause-counts c = same_counts _ c.args.self.now c.args.other.now (subst AreCounts c.self.view_is c.self.invariant) (subst AreCounts c.other.view_is c.other.invariant) (returns-then-len-clause-maps c)

pub returns-clause-maps : goal.returns-clause-maps
returns-clause-maps c = same_maps _ c.self.inside.counts c.other.inside.counts c.args.self.now c.args.other.now c.self.view_is c.other.view_is c.len.ensures.ordered c.len-2.ensures.ordered
    (btree_map_eq-Decides unsigned_Decides unsigned_Decides c.self.inside.counts c.other.inside.counts c.eq.result c.eq.ensures)

pub returns-clause-counts : goal.returns-clause-counts
returns-clause-counts c = same_counts _ c.args.self.now c.args.other.now (subst AreCounts c.self.view_is c.self.invariant) (subst AreCounts c.other.view_is c.other.invariant) (returns-clause-maps c)
