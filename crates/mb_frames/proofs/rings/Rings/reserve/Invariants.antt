use Rattle.std.proofs.Common.{◌≡◌, ◌+◌, ◌-◌, ◌*◌, ◌^◌, ◌≤◌, map, max, length}
use Rattle.std.specs.Prelude.{vec_len, vec_capacity}
use Rattle.mb_frames.specs.Walks.{pages_at, Sound}
use Rattle.mb_frames.proofs.rings.Rings.reserve.Given as goal

abbrev pub invariant-pages : goal.invariant-pages
invariant-pages l =
    let r = l.self-inside in let heads = map (λ n. n.ptr) r.heads.items in
    Sound r.links.nodes.cells r.spare.ptr heads (map (λ n. n.ptr) r.all.items) × (map (pages_at r.links.nodes.cells) heads ≡ l.fn.self.rings)
    × (length (pages_at r.links.nodes.cells r.spare.ptr) + vec_len l.nodes ≡ max l.fn.self.spare l.fn.pages) × (vec_len r.all + vec_len l.nodes ≤ vec_capacity r.all)
    × (l.fn.self.writes ≤ r.links.writes) × (r.links.writes ≤ 2 ^ 64 - 1) × (r.links.writes + 4 * l.fn.self.spare ≤ l.fn.self.writes + 4 * length (pages_at r.links.nodes.cells r.spare.ptr))

abbrev pub decreases-pages : goal.decreases-pages
decreases-pages l = goal.left-pages l
