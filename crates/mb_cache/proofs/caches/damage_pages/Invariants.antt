use Rattle.std.proofs.Common.{◌≡◌, drop}
use Rattle.mb_cache.specs.Pages.{pages_damaged}
use Rattle.mb_cache.proofs.caches.damage_pages.Given as goal

abbrev pub invariant-loop-stroke : goal.invariant-loop-stroke
invariant-loop-stroke l = record {
  items : l.stroke-items ≡ l.damage;
  rest : l.layers ≡ record l.fn.layers { current = l.layers.current };
  done : pages_damaged l.layers.current (drop l.stroke-index l.damage) ≡ pages_damaged l.fn.layers.current l.damage;
}
