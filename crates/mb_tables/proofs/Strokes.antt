-- The strokes of a fault do to the counts what they do to counts alone.
use Rattle.std.proofs.Common.{◌≡◌, List, [], ◌∷◌, refl}
use Rattle.mb_edge.specs.Damage.{OpenCounts, damaged}
use Rattle.mb_edge.specs.declared.strokes.Stroke.{Stroke}
use Rattle.mb_edge.specs.declared.strokes.Stroke.TheVariants.{Wipe, Page, Count}
use Rattle.mb_cache.specs.Pages.{PageList}
use Rattle.mb_tables.specs.Follows.{counts_damaged}

pub damaged_counts : (strokes : List Stroke) (pages : PageList) (opens : OpenCounts) → (damaged (record { pages = pages; opens = opens }) strokes).opens ≡ counts_damaged opens strokes
damaged_counts [] pages opens = refl
damaged_counts (Wipe byte ∷ strokes) pages opens = damaged_counts strokes _ _
damaged_counts (Page nth bytes ∷ strokes) pages opens = damaged_counts strokes _ _
damaged_counts (Count ino count ∷ strokes) pages opens = damaged_counts strokes _ _
