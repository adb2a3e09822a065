use Rattle.std.proofs.Common.{refl, true}
use Rattle.mb_frames.proofs.Added.{adopts, there_new}
use Rattle.mb_frames.proofs.links.Links.add_head.Goals as goal

pub link-requires : goal.link-requires
link-requires c =
    let A = adopts c.args.self.now.nodes.cells c.adopt-at.new.self.cells c.adopt-at.result.ptr _ _ true c.adopt-at.ensures.cells refl c.adopt-at.ensures.fresh in (there_new _ _ _ _ A, there_new _ _ _ _ A)
