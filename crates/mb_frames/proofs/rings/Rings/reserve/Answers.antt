use Rattle.std.proofs.Common.{rules, arith, sym, ap, ◌∙◌, subst, ◌≡◌, ◌++◌, ◌∷◌, [], List, length, map}
use Rattle.mb_frames.specs.Pages.{Shelf}
use Rattle.mb_frames.specs.Walks.{pages_at, Sound}
use Rattle.mb_frames.specs.declared.node.NodePtr.{NodePtr}
use Rattle.mb_frames.proofs.Stock.{spare_sides, stocked_sound, stocked_rings, stocked_spare}
use Rattle.mb_frames.proofs.rings.Rings.reserve.Goals as goal

pub pages-init : goal.pages-init
pages-init c =
    let spare : length (pages_at c.self.inside.links.nodes.cells c.self.inside.spare.ptr) ≡ c.args.self.now.spare = ap (λ (v : Shelf). v.spare) c.self.view_is in
    let writes : c.self.inside.links.writes ≡ c.args.self.now.writes = ap (λ (v : Shelf). v.writes) c.self.view_is in (
      subst (λ (items : List NodePtr). Sound c.self.inside.links.nodes.cells c.self.inside.spare.ptr (map (λ n. n.ptr) c.self.inside.heads.items) (map (λ n. n.ptr) items)) (sym c.reserve.ensures.items) c.self.invariant,
      ap (λ (v : Shelf). v.rings) c.self.view_is,
      search rules,
      search rules,
      omega (arith, writes),
      search rules,
      omega (arith, writes, spare),
    )

pub add-page-requires : goal.add-page-requires
add-page-requires c = spare_sides _ _ _ c.pages.invariant.0.shaped

pub pages-preserved : goal.pages-preserved
pages-preserved c =
    let all : c.push.new.self.items ≡ c.pages.self-inside.all.items ++ c.add-page.result ∷ [] = search rules in let I = c.pages.invariant in
    let rose = c.add-page.ensures.writes in
    let one = stocked_spare _ _ _ I.0.shaped _ _ c.add-page.ensures.cells in
    (stocked_sound _ _ _ _ c.pages.self-inside.all.items _ c.add-page.result I.0 c.add-page.ensures.cells all, stocked_rings _ _ _ I.0.shaped _ _ c.add-page.ensures.cells ∙ I.1, search rules, search rules, omega (arith, rose, I.4, I.5), omega (arith, rose), omega (arith, rose, one, I.6))
