-- How often each block was installed, and how many calls in flight pin it.
use Rattle.std.specs.Prelude.{List, [], ◌∷◌, ℕ, ◌≡◌, ◌+◌, ◌-◌, ◌^◌, cond, min, nat_eq, unwrap_or}
use Rattle.std.specs.Map.{lookup}
use Rattle.indexmap.specs.IndexMap.{insert_entry}

-- blocks, each with a number that is not 0
abbrev pub Stamps : Type 0
Stamps = List (ℕ × ℕ)

-- the number of a block, 0 where the list has none
abbrev pub stamp_of : Stamps → ℕ → ℕ
stamp_of stamps block = unwrap_or (lookup (nat_eq block) stamps) 0

-- one install more of a block; a stamp has 64 bits and stays at the greatest
abbrev pub raised : Stamps → ℕ → Stamps
raised stamps block = insert_entry nat_eq stamps block (min (stamp_of stamps block + 1) (2 ^ 64 - 1))

-- one install more of each block of a list
abbrev pub raised_by : Stamps → List (ℕ × List ℕ) → Stamps
raised_by stamps [] = stamps
raised_by stamps (change ∷ changes) = raised_by (raised stamps change.0) changes

-- one more for a block, and for each other one as before
abbrev pub RaisesOne : Stamps → Stamps → ℕ → Type 0
RaisesOne old new block = (other : ℕ) → stamp_of new other ≡ cond (nat_eq block other) (stamp_of old other + 1) (stamp_of old other)

-- one less for a block, and for each other one as before
abbrev pub LowersOne : Stamps → Stamps → ℕ → Type 0
LowersOne old new block = (other : ℕ) → stamp_of new other ≡ cond (nat_eq block other) (stamp_of old other - 1) (stamp_of old other)
