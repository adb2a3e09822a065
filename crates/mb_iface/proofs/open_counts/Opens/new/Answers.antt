use Rattle.std.proofs.Common.{subst, sym}
use Rattle.std.specs.FinMap as fin
use Rattle.mb_iface.specs.OpenCounts.{AreCounts}
use Rattle.mb_iface.proofs.CountMaps.{none_counted}
use Rattle.mb_iface.proofs.open_counts.Opens.new.Goals as goal

pub invariant_of-result : goal.invariant_of-result
invariant_of-result c = subst (λ es. AreCounts (fin.from_entries es)) (sym c.new.ensures.empty) none_counted
