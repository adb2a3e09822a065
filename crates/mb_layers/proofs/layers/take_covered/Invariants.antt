use Rattle.std.proofs.Common.{◌≡◌, ◌≤◌, ◌+◌, ◌*◌}
use Rattle.std.specs.Prelude.{vec_len, vec_capacity}
use Rattle.indexmap.specs.IndexMap.{spare}
use Rattle.mb_kinds.specs.Image.{Image}
use Rattle.mb_frames.specs.Pages.{ring_at, contents}
use Rattle.mb_layers.specs.Pages.{under, count_covered}
use Rattle.mb_layers.specs.State.{AreRings, AreTied, ListsBoth}
use Rattle.mb_layers.specs.Tokens.{SameAges}
use Rattle.mb_layers.proofs.layers.take_covered.Given as goal

abbrev pub invariant-both : goal.invariant-both
invariant-both l = record {
  rings : AreRings l.rings.rings;
  tied : AreTied l.rings.rings l.tokens;
  lists : ListsBoth l.rings.rings l.both.items;
  current : ring_at l.rings.rings 1 ≡ ring_at l.fn.rings.rings 1;
  view : (image : Image)
      → under (under image (contents (ring_at l.rings.rings 0))) (contents (ring_at l.rings.rings 1)) ≡ under (under image (contents (ring_at l.fn.rings.rings 0))) (contents (ring_at l.fn.rings.rings 1));
  capacity : vec_capacity l.fn.both ≤ vec_capacity l.both;
  ages : SameAges l.fn.tokens l.tokens;
  room : l.fn.rings.spare ≤ l.rings.spare;
  map : spare l.fn.tokens.map ≤ spare l.tokens.map;
  later : l.fn.rings.writes ≤ l.rings.writes;
  writes : l.rings.writes + 8 * count_covered (contents (ring_at l.rings.rings 0)) (contents (ring_at l.rings.rings 1)) ≤ l.fn.rings.writes + 8 * count_covered (contents (ring_at l.fn.rings.rings 0)) (contents (ring_at l.fn.rings.rings 1));
}

abbrev pub decreases-both : goal.decreases-both
decreases-both l = vec_len l.both
