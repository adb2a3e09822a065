-- The ways to parts, against the places of their addresses and on worked numbers (V7 filsys(5)).
use Rattle.std.specs.Prelude.{ℕ, [], ◌∷◌, ◌<◌, ◌≡◌}
use Rattle.mb_tree.specs.Places.{place_of}
use Rattle.mb_bmap.specs.Ways.{route_of, way}

-- a way leads to the place at which its part's address stands
abbrev pub WaysLead : Type 0
WaysLead = (ino part : ℕ) → part < 2113674 → way ino (route_of part).places (route_of part).depth ≡ place_of ino part

-- the first and the last part under the inode's own addresses, and under the single, double and triple index block
pub record WorkedWays : Type 0 where
  pub first : route_of 0 ≡ record { depth = 0; places = 0 ∷ 0 ∷ 0 ∷ 0 ∷ [] }
  pub last_own : route_of 9 ≡ record { depth = 0; places = 9 ∷ 0 ∷ 0 ∷ 0 ∷ [] }
  pub first_single : route_of 10 ≡ record { depth = 1; places = 10 ∷ 0 ∷ 0 ∷ 0 ∷ [] }
  pub last_single : route_of 137 ≡ record { depth = 1; places = 10 ∷ 127 ∷ 0 ∷ 0 ∷ [] }
  pub first_double : route_of 138 ≡ record { depth = 2; places = 11 ∷ 0 ∷ 0 ∷ 0 ∷ [] }
  pub last_double : route_of 16521 ≡ record { depth = 2; places = 11 ∷ 127 ∷ 127 ∷ 0 ∷ [] }
  pub first_triple : route_of 16522 ≡ record { depth = 3; places = 12 ∷ 0 ∷ 0 ∷ 0 ∷ [] }
  pub last_triple : route_of 2113673 ≡ record { depth = 3; places = 12 ∷ 127 ∷ 127 ∷ 127 ∷ [] }
