-- The place of a path together with what stat tells of the inodes beside it.
use Rattle.std.specs.Prelude.{ℕ, ◌≡◌, Some, None, Result, Ok, Err}
use Rattle.mb_kinds.specs.declared.calls.Call.{Call}
use Rattle.mb_tree.specs.Answers.{Answer}
use Rattle.mb_tree.specs.Lookup.{stat_in, used_in}
use Rattle.mb_tree.specs.Maps.{Numbered}
use Rattle.mb_tree.specs.declared.lookups.Placed.{Placed}
use Rattle.mb_tree.specs.declared.lookups.Placed.TheVariants as placed
use Rattle.mb_tree.specs.declared.nodes.Node.{Node}
use Rattle.mb_tree.specs.declared.seats.Seat.{Seat}
use Rattle.mb_calls.specs.Halts.{HaltMatches, Matches, Needs, NeedsOf, Scope}
use Rattle.mb_calls.specs.Looked.{IsLooked}
use Rattle.mb_calls.specs.declared.halts.Halt.{Halt}
use Rattle.mb_calls.specs.declared.spots.Spot.{Spot}
use Rattle.mb_calls.specs.declared.spots.Spot.TheVariants as spot

-- the place alone
abbrev pub placed_of : Spot → Placed
placed_of (spot.Itself ino stat) = placed.Itself ino
placed_of (spot.Missing dir name parent) = placed.At dir name None
placed_of (spot.Present dir name ino stat parent) = placed.At dir name (Some ino)

-- what is told beside it is stat's
abbrev pub AreTold : Numbered Node → Spot → Type 0
AreTold nodes (spot.Itself ino stat) = Matches stat (stat_in nodes ino)
AreTold nodes (spot.Missing dir name parent) = Matches parent (stat_in nodes dir)
AreTold nodes (spot.Present dir name ino stat parent) = Matches stat (stat_in nodes ino) × Matches parent (stat_in nodes dir)

-- both
pub record IsSpot (nodes : Numbered Node) (place : Answer Placed) (spot : Spot) : Type 0 where
  pub is : place ≡ Ok (placed_of spot)
  pub told : AreTold nodes spot

abbrev pub MatchesPlace : Result Spot Halt → Numbered Node → Answer Placed → Type 0
MatchesPlace (Ok spot) nodes place = IsSpot nodes place spot
MatchesPlace (Err why) nodes place = HaltMatches why place

abbrev pub SpotTold : Numbered Node → Result Spot Halt → Type 0
SpotTold nodes (Ok spot) = AreTold nodes spot
SpotTold nodes (Err why) = Unit {0}

-- each block that is asked for beside a place is such
abbrev pub SpotNeeds : Scope → Spot → Type 0
SpotNeeds scope (spot.Itself ino stat) = Needs scope stat
SpotNeeds scope (spot.Missing dir name parent) = Needs scope parent
SpotNeeds scope (spot.Present dir name ino stat parent) = Needs scope stat × Needs scope parent

abbrev pub SpotWants : Scope → Result Spot Halt → Type 0
SpotWants scope (Ok spot) = SpotNeeds scope spot
SpotWants scope (Err why) = NeedsOf scope why

-- the call looks at the inodes beside a place
abbrev pub IsBeside : Numbered Node → Seat → Call → Placed → Type 0
IsBeside nodes seat made (placed.Itself ino) = IsLooked nodes seat made ino
IsBeside nodes seat made (placed.At dir name None) = IsLooked nodes seat made dir
IsBeside nodes seat made (placed.At dir name (Some ino)) = IsLooked nodes seat made ino × IsLooked nodes seat made dir

abbrev pub SpotBeside : Numbered Node → Seat → Call → Result Spot Halt → Type 0
SpotBeside nodes seat made (Ok spot) = IsBeside nodes seat made (placed_of spot)
SpotBeside nodes seat made (Err why) = Unit {0}

-- the used slots of the inode to which a name leads; 0 stands where it leads to none
abbrev pub used_by : Numbered Node → Spot → ℕ
used_by nodes (spot.Present dir name ino stat parent) = used_in nodes ino
used_by nodes _ = 0

abbrev pub used_at : Numbered Node → Result Spot Halt → ℕ
used_at nodes (Ok spot) = used_by nodes spot
used_at nodes (Err why) = 0
