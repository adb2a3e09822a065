-- What each question of a call comes to: the model's answer, and where the blocks are for which it asks. Both
-- are said of each volume of which the view is a part, where the question can be asked of its tree.
use Rattle.std.specs.Prelude.{List, ℕ, ◌≡◌, Err, Ok, Option, Result, Some}
use Rattle.std.specs.List.{Contains}
use Rattle.mb_kinds.specs.Image.{Image}
use Rattle.mb_kinds.specs.declared.calls.Call.{Call}
use Rattle.mb_kinds.specs.declared.calls.Whence.{Whence}
use Rattle.mb_kinds.specs.declared.credentials.Cred.{Cred}
use Rattle.mb_kinds.specs.declared.replies.Stat.{Stat}
use Rattle.mb_iface.specs.Near.{IsNear}
use Rattle.mb_tree.specs.Fits.{IsOpenable}
use Rattle.mb_tree.specs.LocalLaws.{IsKnown}
use Rattle.mb_tree.specs.Lookup.{find_path, find_place, stat_in, used_in}
use Rattle.mb_tree.specs.Rows.{base_of, row}
use Rattle.mb_tree.specs.Trees.{IsDirectoryAt, IsThere}
use Rattle.mb_tree.specs.Views.{IsPart}
use Rattle.mb_tree.specs.Volume.{IsVolume}
use Rattle.mb_tree.specs.declared.lookups.Placed.{Placed}
use Rattle.mb_tree.specs.declared.plans.CallPlan.{CallPlan}
use Rattle.mb_tree.specs.declared.seats.PlainFile.{PlainFile}
use Rattle.mb_tree.specs.declared.seats.Seat.{Seat}
use Rattle.mb_tree.specs.declared.trees.Tree.{Tree}
use Rattle.mb_calls.specs.Continuing.{BusyAlike, CountMap, bytes_in}
use Rattle.mb_calls.specs.Following.{AsksNear}
use Rattle.mb_calls.specs.Halts.{IsViewOf, Matches, Needs, SaysOnEach}
use Rattle.mb_calls.specs.Halts.Scope.{around}
use Rattle.mb_calls.specs.Looked.{IsLooked, paths_of}
use Rattle.mb_calls.specs.Spots.{AreTold, IsBeside, MatchesPlace, SpotBeside, SpotNeeds, SpotTold, SpotWants, placed_of, used_at, used_by}
use Rattle.mb_calls.specs.declared.halts.Halt.{Halt}
use Rattle.mb_calls.specs.declared.halts.Halt.TheVariants as why
use Rattle.mb_calls.specs.declared.spots.Spot.{Spot}

-- what a view shows of its blocks
abbrev pub Shown : Type 0
Shown = ℕ → Option (List ℕ)

-- ---- of a session's path

-- the inode to which it leads
abbrev pub FindsInode : Shown → Seat → List ℕ → Result Stat Halt → Type 0
FindsInode shown seat path result = SaysOnEach shown seat result (λ tree. find_path tree.nodes seat.cred seat.cwd path)

-- its place
abbrev pub FindsPlace : Shown → Seat → List ℕ → Result Placed Halt → Type 0
FindsPlace shown seat path result = SaysOnEach shown seat result (λ tree. find_place tree.nodes seat.cred seat.cwd path)

-- its place, with what stat tells beside it
abbrev pub FindsSpot : Shown → Seat → List ℕ → Result Spot Halt → Type 0
FindsSpot shown seat path result = (image : Image) (tree : Tree) → IsViewOf shown seat image tree → MatchesPlace result tree.nodes (find_place tree.nodes seat.cred seat.cwd path)

-- a block near the inodes of every call that has this path
abbrev pub NearPath : {X : Type 0} → Shown → Seat → List ℕ → Result X Halt → Type 0
NearPath shown seat path result = (image : Image) (tree : Tree) (made : Call) → IsViewOf shown seat image tree → Contains (paths_of made) path → Needs (around image tree seat made) result

abbrev pub NearSpot : Shown → Seat → List ℕ → Result Spot Halt → Type 0
NearSpot shown seat path result = (image : Image) (tree : Tree) (made : Call) → IsViewOf shown seat image tree → Contains (paths_of made) path → SpotWants (around image tree seat made) result

-- ---- of an inode

-- what stat tells of it, where it is there
abbrev pub TellsInode : Shown → ℕ → Result Stat Halt → Type 0
TellsInode shown ino result = (image : Image) (tree : Tree) → IsPart shown image.at → IsVolume image tree → IsThere tree.nodes ino → Matches result (stat_in tree.nodes ino)

-- a block of the inode itself
abbrev pub HaltsItself : Image → Tree → ℕ → Halt → Type 0
HaltsItself image tree ino (why.Need need) = IsNear image tree (λ passed. passed ≡ ino) need.first
HaltsItself image tree ino _ = Unit {0}

abbrev pub AsksItself : {X : Type 0} → Image → Tree → ℕ → Result X Halt → Type 0
AsksItself image tree ino (Ok x) = Unit {0}
AsksItself image tree ino (Err stop) = HaltsItself image tree ino stop

abbrev pub NearItself : {X : Type 0} → Shown → ℕ → Result X Halt → Type 0
NearItself shown ino result = (image : Image) (tree : Tree) → IsPart shown image.at → IsVolume image tree → IsThere tree.nodes ino → AsksItself image tree ino result

-- its used slots, where it is a directory
abbrev pub TellsUsed : Shown → ℕ → Result ℕ Halt → Type 0
TellsUsed shown ino result = (image : Image) (tree : Tree) → IsPart shown image.at → IsVolume image tree → IsDirectoryAt tree.nodes ino → Matches result (Ok (used_in tree.nodes ino))

-- the bytes that a read of an open file on it gets
abbrev pub TellsBytes : Shown → PlainFile → ℕ → Result (List ℕ) Halt → Type 0
TellsBytes shown file count result = (image : Image) (tree : Tree) → IsPart shown image.at → IsVolume image tree → IsOpenable tree.nodes file.ino → Matches result (bytes_in tree.nodes file count)

-- where an offset of an open file on it counts from
abbrev pub TellsBase : Shown → PlainFile → Whence → Result ℕ Halt → Type 0
TellsBase shown file whence result = (image : Image) (tree : Tree) → IsPart shown image.at → IsVolume image tree → IsThere tree.nodes file.ino → Matches result (Ok (base_of tree.nodes file whence))

-- a block near the inodes of every call that looks at this one, where that can be asked
abbrev pub NearInode : {X : Type 0} → Shown → ℕ → (Tree → Type 0) → Result X Halt → Type 0
NearInode shown ino CanAsk result = (image : Image) (tree : Tree) (seat : Seat) (made : Call) → IsPart shown image.at → IsVolume image tree → CanAsk tree → IsLooked tree.nodes seat made ino → Needs (around image tree seat made) result

-- ---- beside a place

-- what stat tells of the inodes beside a place
abbrev pub TellsBeside : Shown → Placed → Spot → Type 0
TellsBeside shown placed spot = (image : Image) (tree : Tree) → IsPart shown image.at → IsVolume image tree → IsKnown tree.nodes placed → AreTold tree.nodes spot

abbrev pub NearBeside : Shown → Placed → Spot → Type 0
NearBeside shown placed spot = (image : Image) (tree : Tree) (seat : Seat) (made : Call) → IsPart shown image.at → IsVolume image tree → IsKnown tree.nodes placed → IsBeside tree.nodes seat made placed → SpotNeeds (around image tree seat made) spot

-- the used slots of a directory that is to be removed
abbrev pub TellsUsedBy : Shown → Spot → Result ℕ Halt → Type 0
TellsUsedBy shown spot result = (image : Image) (tree : Tree) → IsPart shown image.at → IsVolume image tree → AreTold tree.nodes spot → Matches result (Ok (used_by tree.nodes spot))

abbrev pub NearUsedBy : Shown → Spot → Result ℕ Halt → Type 0
NearUsedBy shown spot result = (image : Image) (tree : Tree) (seat : Seat) (made : Call) → IsPart shown image.at → IsVolume image tree → AreTold tree.nodes spot → IsBeside tree.nodes seat made (placed_of spot) → Needs (around image tree seat made) result

abbrev pub TellsUsedAt : Shown → Result Spot Halt → Result ℕ Halt → Type 0
TellsUsedAt shown asked result = (image : Image) (tree : Tree) → IsPart shown image.at → IsVolume image tree → SpotTold tree.nodes asked → Matches result (Ok (used_at tree.nodes asked))

abbrev pub NearUsedAt : Shown → Result Spot Halt → Result ℕ Halt → Type 0
NearUsedAt shown asked result = (image : Image) (tree : Tree) (seat : Seat) (made : Call) → IsPart shown image.at → IsVolume image tree → SpotTold tree.nodes asked → SpotBeside tree.nodes seat made asked → Needs (around image tree seat made) result

-- ---- of a path from a directory

abbrev pub PlacesFrom : Shown → Cred → ℕ → List ℕ → Result Placed Halt → Type 0
PlacesFrom shown cred dir path result = (image : Image) (tree : Tree) → IsPart shown image.at → IsVolume image tree → IsDirectoryAt tree.nodes dir → Matches result (find_place tree.nodes cred dir path)

abbrev pub NearFrom : {X : Type 0} → Shown → Cred → ℕ → List ℕ → Result X Halt → Type 0
NearFrom shown cred dir path result = (image : Image) (tree : Tree) → IsPart shown image.at → IsVolume image tree → IsDirectoryAt tree.nodes dir → AsksNear image tree cred dir path result

-- ---- of the rest of a walk

-- a block on the way of the path
abbrev pub NearWay : {X : Type 0} → Shown → Seat → List ℕ → Result X Halt → Type 0
NearWay shown seat path result = (image : Image) (tree : Tree) → IsViewOf shown seat image tree → AsksNear image tree seat.cred seat.cwd path result

-- ---- of a call

-- its plan is the row's, with the number 0 where an inode is made, for all sessions for which the row is the same
abbrev pub PlansRow : Shown → CountMap → List Seat → Seat → Call → ℕ → Result CallPlan Halt → Type 0
PlansRow shown opens given seat made moment result = (image : Image) (tree : Tree) (others : List Seat) → IsViewOf shown seat image tree → BusyAlike made opens given others
    → Matches result (row tree.nodes others seat made moment (Some 0))

-- for all sessions whatever
abbrev pub PlansAlone : Shown → Seat → Call → ℕ → Result CallPlan Halt → Type 0
PlansAlone shown seat made moment result = (image : Image) (tree : Tree) (others : List Seat) → IsViewOf shown seat image tree → Matches result (row tree.nodes others seat made moment (Some 0))

-- a block near its inodes
abbrev pub NearCall : {X : Type 0} → Shown → Seat → Call → Result X Halt → Type 0
NearCall shown seat made result = (image : Image) (tree : Tree) → IsViewOf shown seat image tree → Needs (around image tree seat made) result

-- near those of every call, as it is on an open file of the session
abbrev pub NearFile : {X : Type 0} → Shown → Seat → Result X Halt → Type 0
NearFile shown seat result = (image : Image) (tree : Tree) (made : Call) → IsViewOf shown seat image tree → Needs (around image tree seat made) result
