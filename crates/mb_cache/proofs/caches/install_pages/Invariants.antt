use Rattle.std.proofs.Common.{◌≡◌, ◌+◌, ◌≤◌, drop, length}
use Rattle.mb_cache.specs.Pages.{installed}
use Rattle.mb_cache.proofs.caches.install_pages.Given as goal

abbrev pub invariant-loop-at : goal.invariant-loop-at
invariant-loop-at l = record {
  pages : installed l.layers.current (drop l.at l.changes) ≡ installed l.fn.layers.current l.changes;
  sealed : l.layers.sealed ≡ l.fn.layers.sealed;
  room : l.fn.layers.spare ≤ l.layers.spare + l.at;
  within : l.at-end ≡ length l.changes;
}
