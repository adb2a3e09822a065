-- What the strokes of a fault leave of the current pages and of the counts of open files.
use Rattle.std.specs.Prelude.{ℕ, ◌==◌, if◌then◌else◌, List, [], ◌∷◌, map, replicate, slice_get, slice_set, Option, None, Some}
use Rattle.std.specs.Ordering.{nat_cmp}
use Rattle.std.specs.FinMap as finite
use Rattle.mb_edge.specs.declared.strokes.Stroke.{Stroke}
use Rattle.mb_edge.specs.declared.strokes.Stroke.TheVariants.{Wipe, Page, Count}

-- how many open files an inode has, above 0
abbrev pub OpenCounts : Type 0
OpenCounts = finite.FinMap nat_cmp ℕ

-- the current pages, each a block and its bytes, and the counts of open files
pub record Volatile : Type 0 where
  pub pages : List (ℕ × List ℕ)
  pub opens : OpenCounts

unfoldable pub wiped : ℕ → List ℕ
wiped byte = replicate 512 byte

-- the pages with other bytes for the page at that place
abbrev pub page_replaced : List (ℕ × List ℕ) → ℕ → List ℕ → Option (ℕ × List ℕ) → List (ℕ × List ℕ)
page_replaced pages nth bytes None = pages
page_replaced pages nth bytes (Some page) = slice_set pages nth (page.0, bytes)

-- the counts with another count for an inode that has one
abbrev pub count_replaced : OpenCounts → ℕ → ℕ → Option ℕ → OpenCounts
count_replaced opens ino count None = opens
count_replaced opens ino count (Some old) = if count == 0 then finite.remove opens ino else finite.insert opens ino count

abbrev pub stroke_done : Volatile → Stroke → Volatile
stroke_done state (Wipe byte) = record state { pages = map (λ page. (page.0, wiped byte)) state.pages }
stroke_done state (Page nth bytes) = record state { pages = page_replaced state.pages nth bytes (slice_get state.pages nth) }
stroke_done state (Count ino count) = record state { opens = count_replaced state.opens ino count (finite.get state.opens ino) }

-- after all strokes, in order
abbrev pub damaged : Volatile → List Stroke → Volatile
damaged state [] = state
damaged state (stroke ∷ strokes) = damaged (stroke_done state stroke) strokes
