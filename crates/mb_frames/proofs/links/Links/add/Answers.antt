use Rattle.std.proofs.Common.{refl, sym, subst, false}
use Rattle.std.specs.Prelude.{IsTrue}
use denote.RawPtr.{Ptr}
use Rattle.mb_frames.specs.Cells.{is_at, Links}
use Rattle.mb_frames.proofs.Cells.{is_kept}
use Rattle.mb_frames.proofs.Added.{adopts, there_old, there_new}
use Rattle.mb_frames.proofs.links.Links.add.Goals as goal

pub link-requires : goal.link-requires
link-requires c =
    let A = adopts c.args.self.now.nodes.cells c.adopt-at.new.self.cells c.adopt-at.result.ptr _ _ false c.adopt-at.ensures.cells refl c.adopt-at.ensures.fresh in
    (there_old _ _ _ _ A c.prev-tail.result.ptr (subst (λ (q : Ptr). IsTrue (is_at q c.args.self.now.nodes.cells)) (sym c.prev-tail.ensures) c.requires.1), there_new _ _ _ _ A)

pub link-requires-2 : goal.link-requires-2
link-requires-2 c =
    let A = adopts c.args.self.now.nodes.cells c.adopt-at.new.self.cells c.adopt-at.result.ptr _ _ false c.adopt-at.ensures.cells refl c.adopt-at.ensures.fresh in
    (is_kept _ _ _ c.link.ensures.cells.keeps (there_new _ _ _ _ A), is_kept _ _ _ c.link.ensures.cells.keeps (there_old _ _ _ _ A c.args.target.ptr c.requires.0))

pub returns-clause-cells : goal.returns-clause-cells
returns-clause-cells c =
    let A = adopts c.args.self.now.nodes.cells c.adopt-at.new.self.cells c.adopt-at.result.ptr _ _ false c.adopt-at.ensures.cells refl c.adopt-at.ensures.fresh in
    record { one = c.adopt-at.new.self.cells; two = c.link.new.self.nodes.cells; adopted = A; begins = subst (λ (q : Ptr). Links c.adopt-at.new.self.cells c.link.new.self.nodes.cells q c.adopt-at.result.ptr) c.prev-tail.ensures c.link.ensures.cells; ends = c.link-2.ensures.cells }
