-- Laws of what a call looks at: its own session, the inodes to which its paths lead, and of the other sessions
-- at most the counts of open files and the current directories.
use Rattle.std.specs.Prelude.{List, ℕ, ◌≡◌, Bool, true, false, Option, Some, None, Ok, map, slice_get}
use Rattle.mb_kinds.specs.declared.calls.Call.{Call}
use Rattle.mb_kinds.specs.declared.calls.Call.TheVariants as call
use Rattle.mb_kinds.specs.declared.credentials.Cred.{Cred}
use Rattle.mb_tree.specs.Effect.{tree_after}
use Rattle.mb_tree.specs.Fits.{Fits}
use Rattle.mb_tree.specs.Lookup.{find_place}
use Rattle.mb_tree.specs.Maps.{Numbered}
use Rattle.mb_tree.specs.Rows.{plan}
use Rattle.mb_tree.specs.Sessions.{Counts, counts}
use Rattle.mb_tree.specs.Trees.{IsDirectoryAt, IsSound, IsThere}
use Rattle.mb_tree.specs.declared.lookups.Placed.{Placed}
use Rattle.mb_tree.specs.declared.lookups.Placed.TheVariants.{Itself, At}
use Rattle.mb_tree.specs.declared.machines.Machine.{Machine}
use Rattle.mb_tree.specs.declared.nodes.Node.{Node}
use Rattle.mb_tree.specs.declared.operations.FsOp.{FsOp}
use Rattle.mb_tree.specs.declared.plans.CallPlan.{CallPlan}
use Rattle.mb_tree.specs.declared.seats.Seat.{Seat}
use Rattle.mb_tree.specs.declared.trees.Tree.{Tree}

-- the inodes of a place are there
abbrev pub IsKnown : Numbered Node → Placed → Type 0
IsKnown nodes (Itself ino) = IsThere nodes ino
IsKnown nodes (At dir name None) = IsThere nodes dir
IsKnown nodes (At dir name (Some ino)) = IsThere nodes ino × IsThere nodes dir

-- on a sound tree those of every place of a path are
abbrev pub PlaceKnown : Type 0
PlaceKnown = (tree : Tree) (cred : Cred) (cwd : ℕ) (path : List ℕ) (placed : Placed) → IsSound tree → IsDirectoryAt tree.nodes cwd → find_place tree.nodes cred cwd path ≡ Ok placed → IsKnown tree.nodes placed

-- the calls that look at other sessions: whether an inode is open that may be dropped, and for rmdir(1) also
-- whether a directory is a caller's current one
abbrev pub is_shared_call : Call → Bool
is_shared_call (call.Close fd) = true
is_shared_call (call.Unlink path) = true
is_shared_call (call.Rmdir path) = true
is_shared_call call.Exit = true
is_shared_call _ = false

-- an operation that looks at no count
pub record IsFreeOfCounts (tree : Tree) (op : FsOp) : Type 0 where
  pub fits : (opens others : Counts) (pick : Option ℕ) → Fits tree opens op pick → Fits tree others op pick
  pub effect : (opens others : Counts) (pick : Option ℕ) → tree_after tree opens op pick ≡ tree_after tree others op pick

-- that of a call which looks at no other session is such
abbrev pub FreeOfCounts : Type 0
FreeOfCounts = (machine : Machine) (caller : ℕ) (made : Call) (moment : ℕ) (pick : Option ℕ) (planned : CallPlan) (op : FsOp)
    → plan machine caller made moment pick ≡ Ok planned → planned.op ≡ Some op → is_shared_call made ≡ false → IsFreeOfCounts machine.tree op

-- the current directories
abbrev pub cwds : List Seat → List ℕ
cwds seats = map (λ (seat : Seat). seat.cwd) seats

-- sessions with the same counts of open files and the same current directories
pub record AgreeOnAll (seats others : List Seat) : Type 0 where
  pub counted : (ino : ℕ) → counts seats ino ≡ counts others ino
  pub directories : cwds seats ≡ cwds others

abbrev pub AgreeOn : Bool → List Seat → List Seat → Type 0
AgreeOn false seats others = Unit {0}
AgreeOn true seats others = AgreeOnAll seats others

-- the sessions that a caller's call cannot tell apart
pub record AgreeFor (made : Call) (caller : ℕ) (seats others : List Seat) : Type 0 where
  pub own : slice_get seats caller ≡ slice_get others caller
  pub rest : AgreeOn (is_shared_call made) seats others

-- it is planned alike with them
abbrev pub PlannedAlike : Type 0
PlannedAlike = (tree : Tree) (seats others : List Seat) (caller : ℕ) (made : Call) (moment : ℕ) (pick : Option ℕ) → AgreeFor made caller seats others
    → plan (record { tree = tree; seats = seats }) caller made moment pick ≡ plan (record { tree = tree; seats = others }) caller made moment pick

-- an operation that fits and acts alike with two counts
pub record ActsAlike (tree : Tree) (opens others : Counts) (op : FsOp) (pick : Option ℕ) : Type 0 where
  pub fits : Fits tree opens op pick → Fits tree others op pick
  pub effect : tree_after tree opens op pick ≡ tree_after tree others op pick

-- and so does its operation
abbrev pub ActedAlike : Type 0
ActedAlike = (tree : Tree) (seats others : List Seat) (caller : ℕ) (made : Call) (moment : ℕ) (pick : Option ℕ) (planned : CallPlan) (op : FsOp) → AgreeFor made caller seats others
    → plan (record { tree = tree; seats = seats }) caller made moment pick ≡ Ok planned → planned.op ≡ Some op → ActsAlike tree (counts seats) (counts others) op pick
