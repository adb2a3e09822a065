-- The pick of a number: when there is none, and worked examples of the cache and of a scan.
use Rattle.std.specs.Prelude.{List, [], ◌∷◌, ◌++◌, ℕ, ◌≡◌, ◌↔◌, Some, None, false, cond, nat_eq, nat_lt, replicate}
use Rattle.mb_alloc.specs.Numbers.{is_free_number, cached_below, pick_from, free_below, pick_of}

-- no number is picked exactly where none is free
abbrev pub NoneFree : Type 0
NoneFree = (blocks : ℕ → List ℕ) → (pick_of blocks ≡ None) ↔ ((ino : ℕ) → is_free_number blocks ino ≡ false)

-- a super-block whose cache has the numbers 7 and 9, 9 the last
abbrev pub some_cache : List ℕ
some_cache = replicate 208 0 ++ 2 ∷ 0 ∷ 7 ∷ 0 ∷ 9 ∷ 0 ∷ []

-- an i-list of one block in which inodes 1, 2 and 4 are in use
abbrev pub in_use : ℕ → List ℕ
in_use mode = mode ∷ replicate 63 0

abbrev pub some_inodes : ℕ → List ℕ
some_inodes block = cond (nat_eq block 1) (3 ∷ 0 ∷ []) (cond (nat_eq block 2) (in_use 1 ++ in_use 1 ++ in_use 0 ++ in_use 1 ++ replicate 256 0) [])

pub record PickWorked : Type 0 where
  -- the last cached number first; one that is not free leaves the cache with those behind it
  pub cached : cached_below some_cache 2 ≡ 9 ∷ 7 ∷ []
  pub last : pick_from (λ n. nat_lt 4 n) (9 ∷ 7 ∷ []) ≡ Some (9, 7 ∷ [])
  pub passed : pick_from (λ n. nat_lt n 9) (9 ∷ 7 ∷ 5 ∷ []) ≡ Some (7, 5 ∷ [])
  pub used_up : pick_from (λ n. false) (9 ∷ 7 ∷ []) ≡ None
  -- numbers below 3, in use and above the last are not free
  pub listed : free_below some_inodes 12 ≡ 3 ∷ 5 ∷ 6 ∷ 7 ∷ 8 ∷ []
