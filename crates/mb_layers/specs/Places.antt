-- Where the page of a block lies.
use Rattle.std.specs.Prelude.{List, ℕ, nat_eq, Option, map}
use Rattle.std.specs.Map.{lookup}
use denote.RawPtr.{Ptr}
use Rattle.mb_frames.specs.Pages.{Page}

-- the blocks of pages, each with the place of its page
abbrev pub placed : List Page → List (ℕ × Ptr)
placed = map (λ g. (g.block, g.place))

-- the place of the page of a block, where it has one
abbrev pub place_at : List Page → ℕ → Option Ptr
place_at ring block = lookup (nat_eq block) (placed ring)
