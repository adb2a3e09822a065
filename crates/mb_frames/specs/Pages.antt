-- The rings as callers see them: lists of pages.
use Rattle.std.specs.Prelude.{◌≡◌, ℕ, zero, suc, Bool, true, false, cond, List, [], ◌∷◌, map, replicate, get_or, slice_set}
use denote.RawPtr.{Ptr}
use Rattle.mb_frames.specs.Pointers.{same_ptr}
use Rattle.mb_frames.specs.Counts.{total, times}

-- a page: the place that its token names, the number of its block, and its bytes
pub record Page : Type 0 where
  pub place : Ptr
  pub block : ℕ
  pub bytes : List ℕ

abbrev pub page : Ptr → ℕ → List ℕ → Page
page p k b = record { place = p; block = k; bytes = b }

-- the rings by their numbers, how many pages are spare, and the count of link writes
pub record Shelf : Type 0 where
  pub rings : List (List Page)
  pub spare : ℕ
  pub writes : ℕ

-- the pages of the ring k, in order
abbrev pub ring_at : List (List Page) → ℕ → List Page
ring_at rings k = get_or rings k []

-- the blocks of pages, each with its bytes
abbrev pub contents : List Page → List (ℕ × List ℕ)
contents = map (λ g. (g.block, g.bytes))

-- the rings, with other pages in the ring k
abbrev pub with_ring : List (List Page) → ℕ → List Page → List (List Page)
with_ring rings k pages = slice_set rings k pages

-- how often the place p stands in a ring
unfoldable pub stands_in : Ptr → List Page → ℕ
stands_in p ring = times p (map (λ g. g.place) ring)

-- how often it stands in any ring
unfoldable pub standing : Ptr → List (List Page) → ℕ
standing p rings = total (stands_in p) rings

-- the token of the place p names one page of a ring
abbrev pub Stands : List (List Page) → Ptr → Type 0
Stands rings p = standing p rings ≡ 1

-- what f reads of the page at p, or else d
unfoldable pub read_in : {X : Type 0} → (Page → X) → X → Ptr → List Page → X
read_in f d p [] = d
read_in f d p (g ∷ gs) = cond (same_ptr g.place p) (f g) (read_in f d p gs)

-- whether a count is more than none
abbrev pub any : ℕ → Bool
any zero = false
any (suc n) = true

unfoldable pub read_of : {X : Type 0} → (Page → X) → X → Ptr → List (List Page) → X
read_of f d p [] = d
read_of f d p (r ∷ rs) = cond (any (stands_in p r)) (read_in f d p r) (read_of f d p rs)

abbrev pub block_of : Ptr → List (List Page) → ℕ
block_of = read_of (λ g. g.block) 0

abbrev pub bytes_of : Ptr → List (List Page) → List ℕ
bytes_of = read_of (λ g. g.bytes) []

-- the ring with the page at p left out
unfoldable pub without : Ptr → List Page → List Page
without p [] = []
without p (g ∷ gs) = cond (same_ptr g.place p) (without p gs) (g ∷ without p gs)

-- the page with other bytes, if it is the one at p
unfoldable pub rewritten : Ptr → List ℕ → Page → Page
rewritten p b g = cond (same_ptr p g.place) (page g.place g.block b) g

-- the page with 512 times one byte
unfoldable pub filled : ℕ → Page → Page
filled byte g = page g.place g.block (replicate 512 byte)

-- the ring with other bytes in the page at an index, where it has so many
abbrev pub replaced : List Page → ℕ → List ℕ → List Page
replaced [] nth b = []
replaced (g ∷ gs) zero b = page g.place g.block b ∷ gs
replaced (g ∷ gs) (suc nth) b = g ∷ replaced gs nth b

-- the token of the place p names a page of the same block, where it names one
pub record NamedAt (old new : List (List Page)) (p : Ptr) : Type 0 where
  pub stands : standing p new ≡ standing p old
  pub block : block_of p new ≡ block_of p old

-- what is known of the token of the place p stays known
pub record SameAt (old new : List (List Page)) (p : Ptr) : Type 0 where
  pub stands : standing p new ≡ standing p old
  pub block : block_of p new ≡ block_of p old
  pub bytes : bytes_of p new ≡ bytes_of p old
