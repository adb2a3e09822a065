use Rattle.std.proofs.Common.{◌≡◌, map, reverse}
use Rattle.mb_frames.specs.Cells.{places}
use Rattle.mb_frames.proofs.rings.Rings.drop.Given as goal

abbrev pub invariant-all : goal.invariant-all
invariant-all l = places l.nodes.cells ≡ reverse (map (λ n. n.ptr) l.all.items)

abbrev pub decreases-all : goal.decreases-all
decreases-all l = goal.left-all l
