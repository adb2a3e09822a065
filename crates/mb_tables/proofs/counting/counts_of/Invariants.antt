use Rattle.std.proofs.Common.{◌≡◌, ℕ, ◌+◌, drop, nat_eq}
use Rattle.std.specs.Prelude.{count_by}
use Rattle.mb_iface.specs.OpenCounts.{count_of}
use Rattle.mb_tables.proofs.counting.counts_of.Given as goal

abbrev pub invariant-loop-ino : goal.invariant-loop-ino
invariant-loop-ino l = (ino : ℕ) → count_of l.opens ino + count_by (nat_eq ino) (drop l.ino-index l.inos) ≡ count_by (nat_eq ino) l.inos
