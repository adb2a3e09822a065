-- Pages over the blocks of an image, and how they change.
use Rattle.std.specs.Prelude.{List, [], ◌∷◌, nat_eq, map, slice_get}
use Rattle.indexmap.specs.IndexMap.{insert_all}
use Rattle.mb_edge.specs.Damage.{wiped, page_replaced}
use Rattle.mb_edge.specs.declared.strokes.Stroke.{Stroke}
use Rattle.mb_edge.specs.declared.strokes.Stroke.TheVariants.{Wipe, Page, Count}
pub use Rattle.mb_layers.specs.Pages.{PageList, WritesAtMost, page_at, under, count_covered}

-- pages installed one after another: each in the place of its block's page where it has one, else behind the others
abbrev pub installed : PageList → PageList → PageList
installed pages later = insert_all nat_eq pages later

-- what a stroke of a fault leaves of pages: a stroke of an open count leaves them all
abbrev pub page_stroke : PageList → Stroke → PageList
page_stroke pages (Wipe byte) = map (λ page. (page.0, wiped byte)) pages
page_stroke pages (Page nth bytes) = page_replaced pages nth bytes (slice_get pages nth)
page_stroke pages (Count ino count) = pages

-- what the strokes of a fault leave, done in order
abbrev pub pages_damaged : PageList → List Stroke → PageList
pages_damaged pages [] = pages
pages_damaged pages (stroke ∷ strokes) = pages_damaged (page_stroke pages stroke) strokes
