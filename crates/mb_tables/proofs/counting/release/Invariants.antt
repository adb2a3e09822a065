use Rattle.std.proofs.Common.{◌≡◌, drop}
use Rattle.mb_tables.specs.Follows.{released_each}
use Rattle.mb_tables.proofs.counting.release.Given as goal

abbrev pub invariant-loop-ino : goal.invariant-loop-ino
invariant-loop-ino l = released_each l.opens (drop l.ino-index l.inos) ≡ released_each l.fn.opens l.inos
