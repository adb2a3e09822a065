use Rattle.std.proofs.Common.{refl, sym, ◌∙◌}
use Rattle.mb_frames.proofs.Walks.{ring_head}
use Rattle.mb_frames.proofs.Cells.{is_kept}
use Rattle.mb_frames.proofs.Filling.{fill_starts, fill_there, fill_steps, fill_fewer, fill_ends}
use Rattle.mb_frames.proofs.links.Links.fill.Goals as goal

pub next-at-requires : goal.next-at-requires
next-at-requires c = ring_head _ _ c.requires

pub pages-init : goal.pages-init
pages-init c = (fill_starts _ _ _ _ c.requires c.next-at.ensures, refl)

pub is_head-requires : goal.is_head-requires
is_head-requires c = fill_there _ _ _ c.pages.at.ptr _ c.pages.invariant.0

pub write-requires : goal.write-requires
write-requires c = fill_there _ _ _ c.pages.at.ptr _ c.pages.invariant.0

pub next-at-requires-in-pages : goal.next-at-requires-in-pages
next-at-requires-in-pages c = is_kept _ _ c.pages.at.ptr c.write.ensures.cells.stays.keeps (fill_there _ _ _ c.pages.at.ptr _ c.pages.invariant.0)

pub pages-smaller : goal.pages-smaller
pages-smaller c = fill_fewer _ _ _ _ c.pages.at.ptr _ c.pages.invariant.0 (sym c.is_head.ensures ∙ c.pages-test.true) c.write.ensures.cells c.next-at-in-pages.result.ptr c.next-at-in-pages.ensures

pub pages-preserved : goal.pages-preserved
pages-preserved c =
    (fill_steps _ _ _ c.pages.at.ptr _ c.pages.invariant.0 (sym c.is_head.ensures ∙ c.pages-test.true) _ c.write.ensures.cells c.next-at-in-pages.result.ptr c.next-at-in-pages.ensures, c.write.ensures.writes ∙ c.pages.invariant.1)

pub returns-clause-cells : goal.returns-clause-cells
returns-clause-cells c = fill_ends _ _ _ c.pages.at.ptr _ c.pages.invariant.0 (sym c.is_head.ensures ∙ c.pages-test.false)
