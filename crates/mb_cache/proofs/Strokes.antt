-- The strokes of a fault do to the pages what they do to pages alone.
use Rattle.std.proofs.Common.{◌≡◌, List, [], ◌∷◌, refl}
use Rattle.mb_edge.specs.Damage.{OpenCounts, damaged}
use Rattle.mb_edge.specs.declared.strokes.Stroke.{Stroke}
use Rattle.mb_edge.specs.declared.strokes.Stroke.TheVariants.{Wipe, Page, Count}
use Rattle.mb_cache.specs.Pages.{PageList, pages_damaged}

pub damaged_pages : (strokes : List Stroke) (pages : PageList) (opens : OpenCounts) → (damaged (record { pages = pages; opens = opens }) strokes).pages ≡ pages_damaged pages strokes
damaged_pages [] pages opens = refl
damaged_pages (Wipe byte ∷ strokes) pages opens = damaged_pages strokes _ _
damaged_pages (Page nth bytes ∷ strokes) pages opens = damaged_pages strokes _ _
damaged_pages (Count ino count ∷ strokes) pages opens = damaged_pages strokes _ _
