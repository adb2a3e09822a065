use Rattle.std.proofs.Common.{◌≡◌, length}
use Rattle.mb_frames.specs.Walks.{follow}
use Rattle.mb_frames.proofs.Filling.{Filling}
use Rattle.mb_frames.proofs.links.Links.fill.Given as goal

abbrev pub invariant-pages : goal.invariant-pages
invariant-pages l = Filling l.fn.self.nodes.cells l.self.nodes.cells l.fn.head.ptr l.at.ptr l.bytes × (l.self.writes ≡ l.fn.self.writes)

abbrev pub decreases-pages : goal.decreases-pages
decreases-pages l = length (follow (length l.self.nodes.cells) l.self.nodes.cells l.at.ptr)
