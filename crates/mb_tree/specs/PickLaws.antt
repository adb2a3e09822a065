-- Laws of the free number that is picked for a call: how a plan and an effect depend on it, and which pick is
-- lawful. A number is looked at by creat alone in its plan, and by the two operations that make an inode.
use Rattle.std.specs.Prelude.{ℕ, ◌≡◌, Bool, true, false, Option, Some, None, Ok, Err, IfSome, IsSome}
use Rattle.std.specs.FinMap as fin
use Rattle.mb_kinds.specs.declared.calls.Call.{Call}
use Rattle.mb_kinds.specs.declared.errors.Errno.{Errno}
use Rattle.mb_kinds.specs.declared.errors.Errno.TheVariants.{ENOSPC}
use Rattle.mb_tree.specs.Answers.{Answer}
use Rattle.mb_tree.specs.Effect.{TreeAndOpens, effect}
use Rattle.mb_tree.specs.Fits.{Fits}
use Rattle.mb_tree.specs.Machines.{IsValidFor}
use Rattle.mb_tree.specs.Rows.{plan}
use Rattle.mb_tree.specs.SessionLaws.{IsCall}
use Rattle.mb_tree.specs.Sessions.{Counts, counts}
use Rattle.mb_tree.specs.Step.{IsFreeNumber, IsLawful, serve}
use Rattle.mb_tree.specs.Trees.{IsSound}
use Rattle.mb_tree.specs.declared.machines.Machine.{Machine}
use Rattle.mb_tree.specs.declared.operations.FsOp.{FsOp}
use Rattle.mb_tree.specs.declared.operations.FsOp.TheVariants.{Create, MakeDir}
use Rattle.mb_tree.specs.declared.plans.CallPlan.{CallPlan}
use Rattle.mb_tree.specs.declared.seats.SessionChange.{SessionChange}
use Rattle.mb_tree.specs.declared.seats.SessionChange.TheVariants.{Fresh}
use Rattle.mb_tree.specs.declared.trees.Tree.{Tree}

-- the operations that make an inode
abbrev pub makes_inode : FsOp → Bool
makes_inode (Create dir name mode uid gid moment) = true
makes_inode (MakeDir dir name mode uid gid moment) = true
makes_inode _ = false

-- a plan that makes one
abbrev pub plan_makes : Option FsOp → Bool
plan_makes None = false
plan_makes (Some op) = makes_inode op

-- a new open file on another inode
abbrev pub on_number : ℕ → SessionChange → SessionChange
on_number ino (Fresh fd old how) = Fresh fd ino how
on_number ino change = change

-- the session change of an operation for the number that is picked: a file that was created is opened
abbrev pub fresh_on : FsOp → Option ℕ → SessionChange → SessionChange
fresh_on (Create dir name mode uid gid moment) (Some ino) change = on_number ino change
fresh_on _ pick change = change

-- a plan with its operation for the number that is picked
abbrev pub with_pick : FsOp → Option ℕ → CallPlan → CallPlan
with_pick op pick planned = record planned { session = fresh_on op pick planned.session }

-- what a call is planned to do with another pick than the number that its plan was made for: a file is not
-- created where no number is free
abbrev pub repicked : Option FsOp → Option ℕ → CallPlan → Answer CallPlan
repicked (Some (Create dir name mode uid gid moment)) None planned = Err ENOSPC
repicked (Some op) pick planned = Ok (with_pick op pick planned)
repicked None pick planned = Ok planned

-- the plan for one number gives that for every pick
abbrev pub PlanRepicked : Type 0
PlanRepicked = (machine : Machine) (caller : ℕ) (made : Call) (moment number : ℕ) (pick : Option ℕ) (planned : CallPlan)
    → plan machine caller made moment (Some number) ≡ Ok planned → plan machine caller made moment pick ≡ repicked planned.op pick planned

-- a call that is not planned for one number is planned for no pick
abbrev pub RefusalRepicked : Type 0
RefusalRepicked = (machine : Machine) (caller : ℕ) (made : Call) (moment number : ℕ) (pick : Option ℕ) (e : Errno)
    → plan machine caller made moment (Some number) ≡ Err e → plan machine caller made moment pick ≡ Err e

-- the operation of a plan fits without a demanded number
abbrev pub UnpickedFits : Type 0
UnpickedFits = (machine : Machine) (caller : ℕ) (made : Call) (moment number : ℕ) (planned : CallPlan) (op : FsOp) → IsValidFor machine caller → IsCall made
    → plan machine caller made moment (Some number) ≡ Ok planned → planned.op ≡ Some op → Fits machine.tree (counts machine.seats) op None

-- an operation that makes no inode looks at no number, and adds none
abbrev pub EffectUnpicked : Type 0
EffectUnpicked = (tree : Tree) (opens : Counts) (op : FsOp) (pick : Option ℕ) → makes_inode op ≡ false → effect tree opens op pick ≡ effect tree opens op None

abbrev pub AddsNone : Type 0
AddsNone = (tree : Tree) (opens : Counts) (op : FsOp) (pick : Option ℕ) (held : TreeAndOpens) (ino : ℕ) → makes_inode op ≡ false → effect tree opens op pick ≡ Ok held
    → fin.get tree.nodes ino ≡ None → fin.get held.tree.nodes ino ≡ None

-- one that makes an inode adds that with the number, and none is made without a number
abbrev pub AddsOne : Type 0
AddsOne = (tree : Tree) (opens : Counts) (op : FsOp) (held : TreeAndOpens) (ino : ℕ) → makes_inode op ≡ true → effect tree opens op (Some ino) ≡ Ok held → IsSome (fin.get held.tree.nodes ino)

abbrev pub MakesByNumber : Type 0
MakesByNumber = (tree : Tree) (opens : Counts) (op : FsOp) (held : TreeAndOpens) → makes_inode op ≡ true → effect tree opens op None ≡ Ok held → ⊥

-- what is refused with one free number is refused with every other, and without one
abbrev pub RefusedAlike : Type 0
RefusedAlike = (tree : Tree) (opens : Counts) (op : FsOp) (number other : ℕ) (e : Errno) → IsSound tree → Fits tree opens op None → IsFreeNumber tree number → IsFreeNumber tree other
    → effect tree opens op (Some number) ≡ Err e → effect tree opens op (Some other) ≡ Err e

abbrev pub RefusedUnpicked : Type 0
RefusedUnpicked = (tree : Tree) (opens : Counts) (op : FsOp) (number : ℕ) (e : Errno) → makes_inode op ≡ true → effect tree opens op (Some number) ≡ Err e → effect tree opens op None ≡ Err e

-- a plan for a free number, whose operation is refused with that number
pub record IsRefusedWith (machine : Machine) (caller : ℕ) (made : Call) (moment number : ℕ) (e : Errno) : Type 0 where
  pub planned : CallPlan
  pub op : FsOp
  pub plans : plan machine caller made moment (Some number) ≡ Ok planned
  pub operation : planned.op ≡ Some op
  pub fits : Fits machine.tree (counts machine.seats) op None
  pub free : IsFreeNumber machine.tree number
  pub stops : effect machine.tree (counts machine.seats) op (Some number) ≡ Err e

-- then the call is refused whatever free number is picked, and where none is
abbrev pub RefusedWithAll : Type 0
RefusedWithAll = (machine : Machine) (caller : ℕ) (made : Call) (moment number : ℕ) (e : Errno) → IsSound machine.tree → IsRefusedWith machine caller made moment number e
    → (pick : Option ℕ) → IfSome pick (IsFreeNumber machine.tree) → serve machine caller made moment pick ≡ Err e

-- a plan for a free number, whose operation makes an inode with it
pub record IsMadeWith (machine : Machine) (caller : ℕ) (made : Call) (moment number : ℕ) : Type 0 where
  pub planned : CallPlan
  pub op : FsOp
  pub held : TreeAndOpens
  pub plans : plan machine caller made moment (Some number) ≡ Ok planned
  pub operation : planned.op ≡ Some op
  pub makes : makes_inode op ≡ true
  pub free : IsFreeNumber machine.tree number
  pub acts : effect machine.tree (counts machine.seats) op (Some number) ≡ Ok held

-- then that number is the lawful pick
abbrev pub LawfulMade : Type 0
LawfulMade = (machine : Machine) (caller : ℕ) (made : Call) (moment number : ℕ) → IsMadeWith machine caller made moment number → IsLawful machine caller made moment (Some number)

-- no pick is lawful for a plan that makes no inode
abbrev pub LawfulUnmade : Type 0
LawfulUnmade = (machine : Machine) (caller : ℕ) (made : Call) (moment number : ℕ) (planned : CallPlan) → plan machine caller made moment (Some number) ≡ Ok planned
    → plan_makes planned.op ≡ false → IsLawful machine caller made moment None

-- for a call that is not planned
abbrev pub LawfulUnplanned : Type 0
LawfulUnplanned = (machine : Machine) (caller : ℕ) (made : Call) (moment number : ℕ) (e : Errno) → plan machine caller made moment (Some number) ≡ Err e → IsLawful machine caller made moment None

-- and for one that is refused with a free number
abbrev pub LawfulRefused : Type 0
LawfulRefused = (machine : Machine) (caller : ℕ) (made : Call) (moment number : ℕ) (e : Errno) → IsSound machine.tree → IsRefusedWith machine caller made moment number e
    → IsLawful machine caller made moment None
