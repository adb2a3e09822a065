-- Operations carried out one after another: from which tree, with which counts of open files, to which.
use Rattle.std.specs.Prelude.{List, [], ◌∷◌, ◌++◌, ℕ, ◌≤◌, ◌≡◌, Option, Some, None, Ok, Err}
use Rattle.mb_kinds.specs.declared.entries.Entry.{Entry}
use Rattle.mb_kinds.specs.declared.replies.Reply.{Reply}
use Rattle.mb_kinds.specs.declared.replies.Reply.TheVariants.{Num, Got, Info, Refused, Restart, Device, Failed}
use Rattle.mb_tree.specs.Answers.{Answer}
use Rattle.mb_tree.specs.Sessions.{counts}
use Rattle.mb_tree.specs.Effect.{TreeAndOpens, effect}
use Rattle.mb_tree.specs.Fits.{Fits}
use Rattle.mb_tree.specs.History.{past}
use Rattle.mb_tree.specs.Rows.{plan}
use Rattle.mb_tree.specs.declared.machines.Machine.{Machine}
use Rattle.mb_tree.specs.declared.operations.FsOp.{FsOp}
use Rattle.mb_tree.specs.declared.plans.CallPlan.{CallPlan}

-- an operation with the number that was picked for it
pub record PickedOp : Type 0 where
  pub op : FsOp
  pub pick : Option ℕ

-- one operation: it fits, and its effect is not refused
pub record IsCarriedOut (held : TreeAndOpens) (made : PickedOp) (next : TreeAndOpens) : Type 0 where
  pub fits : Fits held.tree held.opens made.op made.pick
  pub leads : effect held.tree held.opens made.op made.pick ≡ Ok next

-- one after another
abbrev pub AreCarriedOut : TreeAndOpens → List PickedOp → TreeAndOpens → Type 0
AreCarriedOut held [] last = held ≡ last
AreCarriedOut held (made ∷ later) last = (next : TreeAndOpens) × IsCarriedOut held made next × AreCarriedOut next later last

-- at most so many open files on each inode, before each operation and at the end
abbrev pub FindFewOpens : ℕ → TreeAndOpens → List PickedOp → Type 0
FindFewOpens most held [] = (ino : ℕ) → held.opens ino ≤ most
FindFewOpens most held (made ∷ later) = ((ino : ℕ) → held.opens ino ≤ most) × ((next : TreeAndOpens) → IsCarriedOut held made next → FindFewOpens most next later)

-- a machine's tree with the counts of its sessions' open files
abbrev pub tree_and_opens : Machine → TreeAndOpens
tree_and_opens machine = record { tree = machine.tree; opens = counts machine.seats }

-- the operation of a plan with its pick, where it has one; a refused call has none
abbrev pub picked_op : Option FsOp → Option ℕ → List PickedOp
picked_op None pick = []
picked_op (Some op) pick = (record { op = op; pick = pick }) ∷ []

abbrev pub planned_op : Answer CallPlan → Option ℕ → List PickedOp
planned_op (Ok planned) pick = picked_op planned.op pick
planned_op (Err e) pick = []

-- the operation of an entry with that reply: a call that was refused, or that a fault or the disk ended, has none
abbrev pub op_replied : Machine → Entry → Reply → List PickedOp
op_replied machine entry (Num number) = planned_op (plan machine entry.caller entry.call entry.moment entry.pick) entry.pick
op_replied machine entry (Got bytes) = planned_op (plan machine entry.caller entry.call entry.moment entry.pick) entry.pick
op_replied machine entry (Info stat) = planned_op (plan machine entry.caller entry.call entry.moment entry.pick) entry.pick
op_replied machine entry (Refused e) = []
op_replied machine entry (Restart first second) = []
op_replied machine entry Device = []
op_replied machine entry (Failed faults) = []

-- the operations of a history, in order
abbrev pub operations : Machine → List Entry → List PickedOp
operations machine [] = []
operations machine (entry ∷ entries) = op_replied machine entry entry.reply ++ operations (past machine entry) entries
