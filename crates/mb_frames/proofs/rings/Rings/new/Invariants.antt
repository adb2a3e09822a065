use Rattle.std.proofs.Common.{◌≡◌, ◌+◌, ◌≤◌, ◌∷◌, map}
use Rattle.std.specs.Prelude.{vec_len, vec_capacity}
use Rattle.mb_frames.proofs.Heads.{Made}
use Rattle.mb_frames.proofs.rings.Rings.new.Given as goal

abbrev pub invariant-heads : goal.invariant-heads
invariant-heads l =
    Made l.links.nodes.cells (l.spare.ptr ∷ map (λ n. n.ptr) l.heads.items) (map (λ n. n.ptr) l.all.items) × (vec_len l.heads + vec_len l.nodes ≡ l.rings) × (l.rings ≤ vec_capacity l.heads)
    × (vec_len l.all + vec_len l.nodes ≡ l.rings + 1) × (l.rings + 1 ≤ vec_capacity l.all)

abbrev pub decreases-heads : goal.decreases-heads
decreases-heads l = goal.left-heads l
