-- How a row is decided from the results of its questions. A decision takes them as they are, refusals, Needs
-- and want of memory among them, and looks at each only where its line of the row is reached. So all questions
-- are asked at once, and the refusals and the first Need still come in the row's order.
use Rattle.std.specs.Prelude.{List, ℕ, ◌≡◌, Bool, ◌||◌, ◌==◌, IfOk, IsSome, Ok, Result, nat_lt}
use Rattle.std.specs.List.{list_any}
use Rattle.std.specs.FinMap as fin
use Rattle.std.specs.Ordering.{nat_cmp}
use Rattle.mb_kinds.specs.declared.calls.Call.{Call}
use Rattle.mb_kinds.specs.declared.calls.Call.TheVariants as call
use Rattle.mb_kinds.specs.declared.errors.Errno.TheVariants.{EBADF}
use Rattle.mb_kinds.specs.declared.replies.Stat.{Stat}
use Rattle.mb_iface.specs.OpenCounts.{count_of}
use Rattle.mb_tree.specs.Answers.{Answer, ◌>>=◌, some}
use Rattle.mb_tree.specs.Inodes.{read_at}
use Rattle.mb_tree.specs.Maps.{Numbered}
use Rattle.mb_tree.specs.Plans.{IsPlanFor}
use Rattle.mb_tree.specs.Results.{Gives}
use Rattle.mb_tree.specs.Rows.{is_busy, link_found, rmdir_at}
use Rattle.mb_tree.specs.Sessions.{file_on}
use Rattle.mb_tree.specs.declared.stops.Stop.{Stop}
use Rattle.mb_tree.specs.declared.lookups.Placed.{Placed}
use Rattle.mb_tree.specs.declared.nodes.Node.{Node}
use Rattle.mb_tree.specs.declared.plans.CallPlan.{CallPlan}
use Rattle.mb_tree.specs.declared.seats.PlainFile.{PlainFile}
use Rattle.mb_tree.specs.declared.seats.Seat.{Seat}
use Rattle.mb_calls.specs.Halts.{Matches, Needs, Scope}
use Rattle.mb_calls.specs.Spots.{MatchesPlace, SpotWants, used_at}
use Rattle.mb_calls.specs.declared.halts.Halt.{Halt}
use Rattle.mb_calls.specs.declared.spots.Spot.{Spot}

-- a row that asks nothing
pub record PlansUnasked (result : Result CallPlan Halt) (row : Answer CallPlan) : Type 0 where
  pub gives : Matches result row
  pub need : (scope : Scope) → Needs scope result

-- and stands for the model's
abbrev pub StandsFor : Result CallPlan Stop → Result CallPlan Halt → Type 0
StandsFor planned result = (row : Answer CallPlan) → Gives (λ plan. plan) planned row → PlansUnasked result row

-- a row that goes on from one answer: whatever the model's answer is, the rest is done on it, and what is
-- asked for was asked for there
pub record Continues {X Y : Type 0} (asked : Result X Halt) (result : Result Y Halt) (rest : X → Answer Y) : Type 0 where
  pub gives : (r : Answer X) → Matches asked r → Matches result (r >>= rest)
  pub need : (scope : Scope) → Needs scope asked → Needs scope result

-- that of bytes
pub record ContinuesBytes (asked : Result (List ℕ) Halt) (result : Result CallPlan Halt) (rest : List ℕ → Answer CallPlan) : Type 0 where
  pub gives : (r : Answer (List ℕ)) → Matches asked r → Matches result (r >>= rest)
  pub need : (scope : Scope) → Needs scope asked → Needs scope result

-- from two answers
pub record ContinuesTwo (asked beside : Result Stat Halt) (result : Result CallPlan Halt) (rest : Answer Stat → Stat → Answer CallPlan) : Type 0 where
  pub gives : (r s : Answer Stat) → Matches asked r → Matches beside s → Matches result (r >>= rest s)
  pub need : (scope : Scope) → Needs scope asked → Needs scope beside → Needs scope result

-- from three
pub record ContinuesThree (asked beside : Result Stat Halt) (used : Result ℕ Halt) (result : Result CallPlan Halt) (rest : Answer Stat → Answer ℕ → Stat → Answer CallPlan) : Type 0 where
  pub gives : (r s : Answer Stat) (t : Answer ℕ) → Matches asked r → Matches beside s → Matches used t → Matches result (r >>= rest s t)
  pub need : (scope : Scope) → Needs scope asked → Needs scope beside → Needs scope used → Needs scope result

-- a row that goes on from a place
pub record ContinuesSpot {Y : Type 0} (asked : Result Spot Halt) (result : Result Y Halt) (rest : Numbered Node → Placed → Answer Y) : Type 0 where
  pub gives : (nodes : Numbered Node) (place : Answer Placed) → MatchesPlace asked nodes place → Matches result (place >>= rest nodes)
  pub need : (scope : Scope) → SpotWants scope asked → Needs scope result

-- link(2) goes on from an inode and a place
pub record ContinuesLink (seat : Seat) (moment : ℕ) (asked : Result Stat Halt) (spot : Result Spot Halt) (result : Result CallPlan Halt) : Type 0 where
  pub gives : (r : Answer Stat) (nodes : Numbered Node) (place : Answer Placed) → Matches asked r → MatchesPlace spot nodes place → Matches result (r >>= link_found nodes seat moment place)
  pub need : (scope : Scope) → Needs scope asked → SpotWants scope spot → Needs scope result

-- the plan is one for every session with the descriptor
abbrev pub PlansOnFile : ℕ → Result CallPlan Halt → Type 0
PlansOnFile fd result = (seat : Seat) → IsSome (file_on seat fd) → IfOk result (λ plan. IsPlanFor seat plan)

-- what a read of an open file gets
abbrev pub bytes_in : Numbered Node → PlainFile → ℕ → Answer (List ℕ)
bytes_in nodes file count = do
  node ← some (fin.get nodes file.ino) EBADF
  Ok (read_at node.body file.offset count)

-- ---- what looks at other callers

abbrev pub CountMap : Type 0
CountMap = fin.FinMap nat_cmp ℕ

-- the root, a directory with open files, and any caller's current directory
abbrev pub busy_by : CountMap → List Seat → ℕ → Bool
busy_by opens given ino = ino == 2 || nat_lt 0 (count_of opens ino) || list_any (λ (seat : Seat). seat.cwd == ino) given

-- rmdir(1) looks at all callers, but whether a directory is busy is all that it sees of them
pub record ContinuesRemoval (opens : CountMap) (given : List Seat) (seat : Seat) (moment : ℕ) (asked : Result Spot Halt) (used : Result ℕ Halt) (result : Result CallPlan Halt) : Type 0 where
  pub gives : (nodes : Numbered Node) (seats : List Seat) (place : Answer Placed) → ((ino : ℕ) → busy_by opens given ino ≡ is_busy seats ino) → MatchesPlace asked nodes place → Matches used (Ok (used_at nodes asked))
      → Matches result (place >>= rmdir_at nodes seats seat moment)
  pub need : (scope : Scope) → SpotWants scope asked → Needs scope used → Needs scope result

-- the sessions for which the row of a call is the same
abbrev pub BusyAlike : Call → CountMap → List Seat → List Seat → Type 0
BusyAlike (call.Rmdir path) opens given others = (ino : ℕ) → busy_by opens given ino ≡ is_busy others ino
BusyAlike _ opens given others = Unit {0}
