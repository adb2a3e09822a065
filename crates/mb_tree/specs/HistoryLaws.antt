-- Laws of histories and of the operations in them.
use Rattle.std.specs.Prelude.{List, [], ◌∷◌, ◌++◌, ℕ, ◌+◌, ◌*◌, ◌≤◌, ◌≡◌, Some, length, take, drop, slice_get, None, ◌==◌, if◌then◌else◌}
use Rattle.std.specs.List.{AllByRecursion}
use Rattle.mb_kinds.specs.declared.entries.Entry.{Entry}
use Rattle.mb_tree.specs.Sessions.{counts}
use Rattle.mb_tree.specs.Effect.{TreeAndOpens}
use Rattle.mb_tree.specs.Machines.{IsValid}
use Rattle.mb_tree.specs.History.{after, Legal}
use Rattle.mb_tree.specs.SessionLaws.{IsCall}
use Rattle.mb_tree.specs.CarriedOut.{PickedOp, IsCarriedOut, AreCarriedOut, FindFewOpens, tree_and_opens, operations}
use Rattle.mb_tree.specs.declared.machines.Machine.{Machine}
use Rattle.mb_tree.specs.declared.seats.Seat.{Seat}
use Rattle.mb_tree.specs.declared.operations.FsOp.TheVariants.{Hold}
use Rattle.mb_tree.specs.declared.trees.Tree.{Tree}
use Rattle.mb_tree.specs.Trees.{IsRegularAt}

-- the callers stay the same through a history
abbrev pub CallersStay : Type 0
CallersStay = (machine : Machine) (history : List Entry) → length (after machine history).seats ≡ length machine.seats

-- n sessions have at most 17 n open files on an inode
abbrev pub FewOpens : Type 0
FewOpens = (seats : List Seat) (ino : ℕ) → counts seats ino ≤ 17 * length seats

-- the operations of a legal history of a valid machine lead from its tree and counts to those of the machine after it
abbrev pub HistoryCarriesOut : Type 0
HistoryCarriesOut = (machine : Machine) (start : ℕ) (history : List Entry) → IsValid machine → AllByRecursion (λ (entry : Entry). IsCall entry.call) history → Legal machine start history
    → AreCarriedOut (tree_and_opens machine) (operations machine history) (tree_and_opens (after machine history))

-- no operation of such a history finds more open files on an inode than 17 for each session
abbrev pub HistoryFindsFewOpens : Type 0
HistoryFindsFewOpens = (machine : Machine) (start : ℕ) (history : List Entry) → IsValid machine → AllByRecursion (λ (entry : Entry). IsCall entry.call) history → Legal machine start history
    → FindFewOpens (17 * length machine.seats) (tree_and_opens machine) (operations machine history)

-- the operations of two histories in a row
abbrev pub OperationsAppend : Type 0
OperationsAppend = (machine : Machine) (front back : List Entry) → operations machine (front ++ back) ≡ operations machine front ++ operations (after machine front) back

-- a front of the operations is carried out, and so is the rest from there on
abbrev pub CarriedOutSplits : Type 0
CarriedOutSplits = (held last : TreeAndOpens) (front back : List PickedOp) → AreCarriedOut held (front ++ back) last
    → (middle : TreeAndOpens) × AreCarriedOut held front middle × AreCarriedOut middle back last

-- two lists in a row
abbrev pub CarriedOutAppends : Type 0
CarriedOutAppends = (held middle last : TreeAndOpens) (front back : List PickedOp) → AreCarriedOut held front middle → AreCarriedOut middle back last → AreCarriedOut held (front ++ back) last

-- they lead to one end
abbrev pub CarriedOutOnce : Type 0
CarriedOutOnce = (held last other : TreeAndOpens) (made : List PickedOp) → AreCarriedOut held made last → AreCarriedOut held made other → last ≡ other

-- the operation that comes next once some are carried out: what it leads to, and the rest from there
pub record GoesOn (held : TreeAndOpens) (made : List PickedOp) (last : TreeAndOpens) (done : ℕ) (now : TreeAndOpens) (op : PickedOp) : Type 0 where
  pub next : TreeAndOpens
  pub one : IsCarriedOut now op next
  pub so_far : AreCarriedOut held (take (done + 1) made) next
  pub rest : AreCarriedOut next (drop (done + 1) made) last

abbrev pub CarriedOutGoesOn : Type 0
CarriedOutGoesOn = (held last now : TreeAndOpens) (made : List PickedOp) (done : ℕ) (op : PickedOp) → AreCarriedOut held made last → AreCarriedOut held (take done made) now
    → slice_get made done ≡ Some op → GoesOn held made last done now op

-- a worked example: a regular file with the number 3 on which nobody has an open file, held twice
abbrev pub WorkedOperations : Type 0
WorkedOperations = (tree : Tree) → IsRegularAt tree.nodes 3
    → AreCarriedOut (record { tree = tree; opens = λ ino. 0 }) ((record { op = Hold 3; pick = None }) ∷ (record { op = Hold 3; pick = None }) ∷ [])
    (record { tree = tree; opens = λ ino. if ino == 3 then 2 else 0 })
