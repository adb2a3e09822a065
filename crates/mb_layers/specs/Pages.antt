-- Pages over the blocks of an image.
use Rattle.std.specs.Prelude.{List, [], ◌∷◌, ℕ, ◌+◌, ◌≤◌, cond, nat_eq, Option, is_some}
use Rattle.std.specs.Map.{lookup}
use Rattle.mb_kinds.specs.Image.{Image, put}

-- pages, each a block's number and its 512 bytes
abbrev pub PageList : Type 0
PageList = List (ℕ × List ℕ)

-- the page of a block, where it has one
abbrev pub page_at : PageList → ℕ → Option (List ℕ)
page_at pages block = lookup (nat_eq block) pages

-- an image as it reads under pages; where a block has two, the first one counts
abbrev pub under : Image → PageList → Image
under image [] = image
under image (page ∷ pages) = put (under image pages) page.0 page.1

-- how many of the pages below have a page of their block over them
abbrev pub count_covered : PageList → PageList → ℕ
count_covered [] over = 0
count_covered (page ∷ below) over = cond (is_some (page_at over page.0)) 1 0 + count_covered below over

-- links of pages were written so often at most
abbrev pub WritesAtMost : ℕ → ℕ → ℕ → Type 0
WritesAtMost before now most = (before ≤ now) × (now ≤ before + most)

-- the pages that wait to be written back, those over them, how many more current pages are taken without memory, and how
-- often a link of a page was written
pub record LayerState : Type 0 where
  pub sealed : PageList
  pub current : PageList
  pub spare : ℕ
  pub writes : ℕ
