-- The rings as the links make them: each from its head along the links forward.
use Rattle.std.specs.Prelude.{◌≡◌, ℕ, zero, suc, ◌<◌, ◌≤◌, cond, List, [], ◌∷◌, ◌++◌, length, map, reverse, IsTrue}
use denote.RawPtr.{Ptr}
use Rattle.mb_frames.specs.Counts.{times}
use Rattle.mb_frames.specs.Cells.{Cell, is_at, next_at, prev_at, head_at, block_at, bytes_at, places}
use Rattle.mb_frames.specs.Pages.{Page, page, Shelf}
use Rattle.mb_frames.specs.Shape.{Round, Headed, Shaped}

abbrev pub page_of : List Cell → Ptr → Page
page_of cs p = page p (block_at cs p) (bytes_at cs p)

-- the pages from p on, up to a head
unfoldable pub follow : ℕ → List Cell → Ptr → List Page
follow zero cs p = []
follow (suc n) cs p = cond (head_at cs p) [] (page_of cs p ∷ follow n cs (next_at cs p))

-- the pages of the ring with the head h
unfoldable pub pages_at : List Cell → Ptr → List Page
pages_at cs h = follow (length cs) cs (next_at cs h)

abbrev pub row_at : List Cell → Ptr → List Ptr
row_at cs h = h ∷ map (λ g. g.place) (pages_at cs h)

-- with the head of the spare pages and those of the rings
abbrev pub shelf : List Cell → Ptr → List Ptr → ℕ → Shelf
shelf cs s hs w = record { rings = map (pages_at cs) hs; spare = length (pages_at cs s); writes = w }

-- the links make rings of all pages, and each node stands once in the list by which it is freed
pub record Sound (cs : List Cell) (s : Ptr) (hs owned : List Ptr) : Type 0 where
  pub shaped : Shaped cs (map (row_at cs) (s ∷ hs))
  pub freed : places cs ≡ reverse owned

-- the links lead from the head h through its pages and back
pub record IsRing (cs : List Cell) (h : Ptr) : Type 0 where
  pub pages : List Ptr
  pub round : Round (next_at cs) (prev_at cs) (h ∷ pages)
  pub headed : Headed cs (h ∷ pages)
  pub here : (q : Ptr) → 0 < times q (h ∷ pages) → IsTrue (is_at q cs)
  pub bounded : length pages ≤ length cs

-- the first place, or the head
abbrev pub first_or_head : List Ptr → Ptr → Ptr
first_or_head [] h = h
first_or_head (p ∷ ps) h = p

-- n steps led to p, past the pages before
pub record Walked (cs : List Cell) (h : Ptr) (most : ℕ) (p : Ptr) (n : ℕ) : Type 0 where
  pub before : List Ptr
  pub after : List Ptr
  pub cut : map (λ g. g.place) (pages_at cs h) ≡ before ++ after
  pub count : length before ≡ n
  pub there : p ≡ first_or_head after h
  pub within : n ≤ most
  pub stop : n < most → after ≡ []
