use Rattle.std.proofs.Common.{◌≡◌, ◌++◌, ◌+◌, ◌-◌, List, length}
use Rattle.mb_cache.specs.Kept.{KeptBlock}
use Rattle.mb_copies.proofs.copies.lengthen.Given as goal

abbrev pub invariant-copies : goal.invariant-copies
invariant-copies l = (blank : List KeptBlock) × (l.copies.items ≡ l.fn.copies.items ++ blank)

abbrev pub decreases-copies : goal.decreases-copies
decreases-copies l = l.used + l.more - length l.copies.items
