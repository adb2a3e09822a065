use Rattle.std.proofs.Common.{◌≡◌, drop, fold, length}
use Rattle.mb_copies.specs.Stale.{stale_step, least_stale}
use Rattle.mb_copies.proofs.copies.Copies.least_stale.Given as goal

abbrev pub invariant-loop-at : goal.invariant-loop-at
invariant-loop-at g l = record {
  least : fold (stale_step l.self.items l.cache.stamps) l.least (drop l.at l.pages.items) ≡ least_stale l.self.items l.cache.stamps l.pages.items;
  whole : l.at-end ≡ length l.pages.items;
}
