-- How the tokens tell the rings' pages.
use Rattle.std.specs.Prelude.{◌≡◌, ◌≤◌, ◌+◌, ◌-◌, ◌^◌, ℕ, true, List, length, min, is_some, vec_len, vec_capacity, nat_eq}
use Rattle.std.specs.List.{list_any}
use denote.RawPtr.{Ptr}
use Rattle.mb_frames.specs.Pages.{Page, Shelf, standing, ring_at, contents}
use Rattle.indexmap.specs.IndexMap.{spare}
use Rattle.mb_kinds.specs.Changed.{AreChanges}
use Rattle.mb_kinds.specs.Image.{Image}
use Rattle.mb_layers.specs.Pages.{under}
use Rattle.mb_layers.specs.Places.{place_at}
use Rattle.mb_layers.specs.declared.tokens.Tokens.{Tokens}
use Rattle.mb_layers.specs.Tokens.{current_in, sealed_in, IsAged}

-- the two rings
abbrev pub sealed_ring : Shelf → List Page
sealed_ring shelf = ring_at shelf.rings 0

abbrev pub current_ring : Shelf → List Page
current_ring shelf = ring_at shelf.rings 1

-- an image as it reads under the pages of both rings
abbrev pub under_both : Image → List (List Page) → Image
under_both image rings = under (under image (contents (ring_at rings 0))) (contents (ring_at rings 1))

-- 1 where there is a current page: a seal or a drop then takes a number of a generation
abbrev pub begun : List Page → ℕ
begun pages = min 1 (length pages)

-- two rings of pages of different blocks, and no place in both
pub record AreRings (rings : List (List Page)) : Type 0 where
  pub two : length rings ≡ 2
  pub sealed : AreChanges (contents (ring_at rings 0))
  pub current : AreChanges (contents (ring_at rings 1))
  pub once : (p : Ptr) → standing p rings ≤ 1

-- the tokens name the pages of the rings
pub record AreTied (rings : List (List Page)) (tokens : Tokens) : Type 0 where
  pub current : (block : ℕ) → current_in tokens block ≡ place_at (ring_at rings 1) block
  pub sealed : (block : ℕ) → sealed_in tokens block ≡ place_at (ring_at rings 0) block
  pub aged : IsAged tokens

-- the block has a current page
abbrev pub IsOver : List (List Page) → ℕ → Type 0
IsOver rings block = is_some (place_at (ring_at rings 1) block) ≡ true

-- the list has the blocks of current pages over sealed ones, and else blocks of current pages alone
pub record ListsBoth (rings : List (List Page)) (both : List ℕ) : Type 0 where
  pub each : (block : ℕ) → IsOver rings block → is_some (place_at (ring_at rings 0) block) ≡ true → list_any (nat_eq block) both ≡ true
  pub over : (block : ℕ) → list_any (nat_eq block) both ≡ true → IsOver rings block

-- how many more current pages are taken without memory, and with a number of a generation for a drop or a seal after them
abbrev pub spare_of : Shelf → Tokens → ℕ → ℕ
spare_of shelf tokens room =
    min (min (2 ^ 32 - 1) shelf.spare)
    (min (min (spare tokens.map) room)
    (min (vec_capacity tokens.dropped - vec_len tokens.dropped) (2 ^ 64 - 1 - tokens.present) - begun (current_ring shelf)))

pub record IsSound (shelf : Shelf) (tokens : Tokens) (both : List ℕ) : Type 0 where
  pub rings : AreRings shelf.rings
  pub tied : AreTied shelf.rings tokens
  pub lists : ListsBoth shelf.rings both
  pub drops : vec_len tokens.dropped + begun (current_ring shelf) ≤ vec_capacity tokens.dropped
  pub seals : tokens.present + begun (current_ring shelf) ≤ 2 ^ 64 - 1
