use Rattle.std.proofs.Common.{◌≡◌, drop}
use Rattle.mb_tables.specs.Follows.{counts_damaged}
use Rattle.mb_tables.proofs.counting.damage_counts.Given as goal

abbrev pub invariant-loop-stroke : goal.invariant-loop-stroke
invariant-loop-stroke l = counts_damaged l.opens (drop l.stroke-index l.damage) ≡ counts_damaged l.fn.opens l.damage
