-- A path that is followed a component at a time, while the view grows.
use Rattle.std.specs.Prelude.{List, [], ℕ, ◌++◌, ◌⊎◌, Some, ◌+◌, ◌-◌, ◌<◌, ◌≤◌, ◌≡◌, ◌≢◌, Option, IfSome, slice_get, Result, Ok, Err, length, drop, take, slice_index}
use Rattle.mb_kinds.specs.Image.{Image}
use Rattle.mb_kinds.specs.declared.calls.Call.{Call}
use Rattle.mb_kinds.specs.declared.credentials.Cred.{Cred}
use Rattle.mb_iface.specs.Near.{IsNear, IsOnWay}
use Rattle.mb_iface.specs.Needs.{IsNeed}
use Rattle.mb_iface.specs.declared.replies.Need.{Need}
use Rattle.mb_tree.specs.Lookup.{components, find_place, start_of, walk}
use Rattle.mb_tree.specs.Maps.{Numbered}
use Rattle.mb_tree.specs.Plans.{IsPlanFor}
use Rattle.mb_tree.specs.Results.{Gives}
use Rattle.mb_tree.specs.Rows.{row}
use Rattle.mb_tree.specs.Trees.{IsDirectoryAt, IsThere}
use Rattle.mb_tree.specs.declared.lookups.Placed.{Placed}
use Rattle.mb_tree.specs.declared.lookups.Placed.TheVariants as placed
use Rattle.mb_tree.specs.declared.nodes.Node.{Node}
use Rattle.mb_tree.specs.declared.plans.CallPlan.{CallPlan}
use Rattle.mb_tree.specs.declared.seats.Seat.{Seat}
use Rattle.mb_tree.specs.declared.stops.Stop.{Stop}
use Rattle.mb_tree.specs.declared.trees.Tree.{Tree}
use Rattle.mb_calls.specs.Halts.{IsViewOf}
use Rattle.mb_calls.specs.Looked.{IsFirst, IsLooked, IsSecond}
use Rattle.mb_calls.specs.declared.halts.Halt.{Halt}
use Rattle.mb_calls.specs.declared.halts.Halt.TheVariants as why
use Rattle.mb_calls.specs.declared.performing.KeptPlan.{KeptPlan}
use Rattle.mb_calls.specs.declared.resuming.Performing.{Performing}
use Rattle.mb_calls.specs.declared.walks.Ahead.{Ahead}
use Rattle.mb_calls.specs.declared.walks.PathWalk.{PathWalk}
use Rattle.mb_calls.specs.declared.walks.PathWalks.{PathWalks}
use Rattle.mb_calls.specs.declared.walks.Stepped.{Stepped}
use Rattle.mb_calls.specs.declared.walks.Stepped.TheVariants as stepped

-- a directory on the way of a path from which the rest of the path is still to be followed
pub record IsFollowed (nodes : Numbered Node) (cred : Cred) (cwd : ℕ) (path : List ℕ) (dir : ℕ) (rest : List ℕ) : Type 0 where
  pub front : List (List ℕ)
  pub names : components path ≡ front ++ components rest
  pub walked : walk nodes cred (start_of cwd path) front ≡ Ok (start_of dir rest)
  pub directory : IsDirectoryAt nodes dir
  -- so that the place of a path keeps its last component
  pub more : (front ≡ []) ⊎ (0 < length (components rest))

-- on each volume a path has this place
abbrev pub IsPlaceOf : (ℕ → Option (List ℕ)) → Seat → List ℕ → Placed → Type 0
IsPlaceOf shown seat path placed = (image : Image) (tree : Tree) → IsViewOf shown seat image tree → find_place tree.nodes seat.cred seat.cwd path ≡ Ok placed

-- the inode to which a place leads
abbrev pub led_by : Placed → Option ℕ
led_by (placed.Itself ino) = Some ino
led_by (placed.At dir name found) = found

-- a path from a directory leads to an inode
pub record IsLed (nodes : Numbered Node) (cred : Cred) (dir : ℕ) (path : List ℕ) (ino : ℕ) : Type 0 where
  pub walked : walk nodes cred (start_of dir path) (components path) ≡ Ok ino
  pub there : IsThere nodes ino

-- a component ends before the slash, and another begins after it
pub record IsCut (path : List ℕ) (from : ℕ) (next : ℕ) : Type 0 where
  pub some : from + 2 ≤ next
  pub within : next < length path
  pub ends : slice_index path (next - 1) ≡ 47
  pub begins : slice_index path next ≢ 47

-- what stands before that slash
abbrev pub piece_of : List ℕ → ℕ → ℕ → List ℕ
piece_of path from next = take (next - 1 - from) (drop from path)

-- on each volume the piece of the path leads to the inode
pub record IsAhead (shown : ℕ → Option (List ℕ)) (seat : Seat) (path : List ℕ) (dir from : ℕ) (ahead : Ahead) : Type 0 where
  pub cut : IsCut path from ahead.next
  pub led : (image : Image) (tree : Tree) → IsViewOf shown seat image tree → IsLed tree.nodes seat.cred dir (piece_of path from ahead.next) ahead.ino

-- on each volume the walk is at a directory on the way of the path, what is ahead is what the next component leads to, and its end is
-- the place of the path
pub record IsKept (shown : ℕ → Option (List ℕ)) (seat : Seat) (path : List ℕ) (walk : PathWalk) : Type 0 where
  pub within : walk.from ≤ length path
  pub followed : (image : Image) (tree : Tree) → IsViewOf shown seat image tree → IsFollowed tree.nodes seat.cred seat.cwd path walk.dir (drop walk.from path)
  pub ahead : IfSome walk.ahead (IsAhead shown seat path walk.dir walk.from)
  pub place : IfSome walk.end (IsPlaceOf shown seat path)

-- the block of a Need is on the way of the path
abbrev pub HaltsNear : Image → Tree → Cred → ℕ → List ℕ → Halt → Type 0
HaltsNear image tree cred dir path (why.Need need) = IsNear image tree (IsOnWay tree.nodes cred (start_of dir path) (components path)) need.first
HaltsNear image tree cred dir path _ = Unit {0}

abbrev pub AsksNear : {X : Type 0} → Image → Tree → Cred → ℕ → List ℕ → Result X Halt → Type 0
AsksNear image tree cred dir path (Ok x) = Unit {0}
AsksNear image tree cred dir path (Err stop) = HaltsNear image tree cred dir path stop

-- blocks that the view lacks, the first of them on the way of the path
pub record LacksOnWay (shown : ℕ → Option (List ℕ)) (seat : Seat) (path : List ℕ) (need : Need) : Type 0 where
  pub lacking : IsNeed shown need
  pub near : (image : Image) (tree : Tree) → IsViewOf shown seat image tree → IsNear image tree (IsOnWay tree.nodes seat.cred (start_of seat.cwd path) (components path)) need.first

-- one component further, or what is lacking for it
abbrev pub StepsOn : (ℕ → Option (List ℕ)) → Seat → List ℕ → Stepped → Type 0
StepsOn shown seat path (stepped.On walk) = IsKept shown seat path walk
StepsOn shown seat path (stepped.Need need) = LacksOnWay shown seat path need
StepsOn shown seat path stepped.Stopped = Unit {0}

-- blocks that the view lacks, the first of them near the inodes of the call
pub record LacksForCall (shown : ℕ → Option (List ℕ)) (seat : Seat) (made : Call) (need : Need) : Type 0 where
  pub lacking : IsNeed shown need
  pub near : (image : Image) (tree : Tree) → IsViewOf shown seat image tree → IsNear image tree (IsLooked tree.nodes seat made) need.first

-- the walks of a call's paths: the first of each call that has one, and the second of link(2)
pub record AreWalks (shown : ℕ → Option (List ℕ)) (seat : Seat) (made : Call) (walks : PathWalks) : Type 0 where
  pub first : (path : List ℕ) → IsFirst made path → IsKept shown seat path walks.first
  pub second : (path : List ℕ) → IsSecond made path → IsKept shown seat path walks.second

-- those of a caller's call, if the caller is one of them
abbrev pub AreWalksFor : (ℕ → Option (List ℕ)) → List Seat → ℕ → Call → PathWalks → Type 0
AreWalksFor shown given caller made walks = (seat : Seat) → slice_get given caller ≡ Some seat → AreWalks shown seat made walks

-- what a row comes to that looks at no tree and at no other session
abbrev pub IsRowAlone : Seat → Call → ℕ → Result CallPlan Stop → Type 0
IsRowAlone seat made moment result = (nodes : Numbered Node) (others : List Seat) → Gives (λ plan. plan) result (row nodes others seat made moment (Some 0))

-- a plan that is kept is the one of the call's row, at its moment, for all trees and all other sessions
pub record IsPlanKept (seat : Seat) (made : Call) (kept : KeptPlan) : Type 0 where
  pub plans : IsRowAlone seat made kept.moment (Ok kept.plan)
  pub ready : IsPlanFor seat kept.plan

abbrev pub KeepsPlan : Seat → Call → Option KeptPlan → Type 0
KeepsPlan seat made kept = IfSome kept (IsPlanKept seat made)

abbrev pub KeepsPlanFor : List Seat → ℕ → Call → Option KeptPlan → Type 0
KeepsPlanFor given caller made kept = (seat : Seat) → slice_get given caller ≡ Some seat → KeepsPlan seat made kept

-- a call that goes on: the walks of its paths, and the plan that it keeps
pub record IsGoing (shown : ℕ → Option (List ℕ)) (seat : Seat) (made : Call) (on : Performing) : Type 0 where
  pub walks : AreWalks shown seat made on.walks
  pub kept : KeepsPlan seat made on.kept

-- that of a caller, if the caller is one of them
abbrev pub IsGoingFor : (ℕ → Option (List ℕ)) → List Seat → ℕ → Call → Performing → Type 0
IsGoingFor shown given caller made on = (seat : Seat) → slice_get given caller ≡ Some seat → IsGoing shown seat made on

-- the walk of a path, the walks of a call, and a call, that are just begun: on every view
abbrev pub BeginsWalk : Seat → PathWalk → Type 0
BeginsWalk seat walk = (shown : ℕ → Option (List ℕ)) (path : List ℕ) → IsKept shown seat path walk

abbrev pub BeginsPaths : Seat → PathWalks → Type 0
BeginsPaths seat walks = (shown : ℕ → Option (List ℕ)) (made : Call) → AreWalks shown seat made walks

abbrev pub BeginsWalks : Seat → Performing → Type 0
BeginsWalks seat on = (shown : ℕ → Option (List ℕ)) (made : Call) → IsGoing shown seat made on

-- the walk of the first or second path of a call, where there is one
abbrev pub KeepsFirst : (ℕ → Option (List ℕ)) → Seat → Call → PathWalk → Type 0
KeepsFirst shown seat made walk = (path : List ℕ) → IsFirst made path → IsKept shown seat path walk

abbrev pub KeepsSecond : (ℕ → Option (List ℕ)) → Seat → Call → PathWalk → Type 0
KeepsSecond shown seat made walk = (path : List ℕ) → IsSecond made path → IsKept shown seat path walk

-- a view that has all that it had, with the same bytes
abbrev pub ViewGrows : (ℕ → Option (List ℕ)) → (ℕ → Option (List ℕ)) → Type 0
ViewGrows shown later = (block : ℕ) → IfSome (shown block) (λ bytes. later block ≡ Some bytes)

-- as long as the view only grows a call can go on where it stopped
abbrev pub WalksGoOn : Type 0
WalksGoOn = (shown later : ℕ → Option (List ℕ)) (seat : Seat) (made : Call) (on : Performing) → ViewGrows shown later → IsGoing shown seat made on → IsGoing later seat made on
