-- Laws of the callers' sessions: how the counts of open files follow the calls, and what keeps a machine valid.
use Rattle.std.specs.Prelude.{List, ℕ, ◌≡◌, Option, Some, None, Ok, IfSome, slice_get}
use Rattle.std.specs.FinMap as fin
use Rattle.mb_kinds.specs.Texts.{AreOctets, IsPath}
use Rattle.mb_kinds.specs.declared.calls.Call.{Call}
use Rattle.mb_kinds.specs.declared.calls.Call.TheVariants as call
use Rattle.mb_kinds.specs.declared.replies.Reply.{Reply}
use Rattle.mb_tree.specs.Maps.{Numbered}
use Rattle.mb_tree.specs.Sessions.{counts, with_change}
use Rattle.mb_tree.specs.Effect.{TreeAndOpens}
use Rattle.mb_tree.specs.Rows.{plan}
use Rattle.mb_tree.specs.Step.{IsFreeNumber, IsLawful, effect_of, serve, step}
use Rattle.mb_tree.specs.Trees.{IsDirectoryAt, IsRegularAt, IsSound}
use Rattle.mb_tree.specs.Fits.{Fits}
use Rattle.mb_tree.specs.Machines.{IsValidFor, IsValid}
use Rattle.mb_tree.specs.Laws.{IsOnBytesOrAttributes}
use Rattle.mb_tree.specs.declared.machines.Machine.{Machine}
use Rattle.mb_tree.specs.declared.nodes.Node.{Node}
use Rattle.mb_tree.specs.declared.operations.FsOp.{FsOp}
use Rattle.mb_tree.specs.declared.operations.FsOp.TheVariants.{Release}
use Rattle.mb_tree.specs.declared.plans.CallPlan.{CallPlan}
use Rattle.mb_tree.specs.declared.seats.PlainFile.{PlainFile}
use Rattle.mb_tree.specs.declared.seats.Seat.{Seat}

-- the counts of open files after a call are those that its operation leaves
abbrev pub CountsFollow : Type 0
CountsFollow = (machine : Machine) (caller : ℕ) (made : Call) (moment : ℕ) (pick : Option ℕ) (planned : CallPlan) (held : TreeAndOpens)
    → IsValidFor machine caller → plan machine caller made moment pick ≡ Ok planned → effect_of machine.tree (counts machine.seats) planned.op pick ≡ Ok held
    → counts (with_change machine.seats caller planned.session) ≡ held.opens

-- a directory or regular file stays one
pub record KeepsKind (old new : Numbered Node) (ino : ℕ) : Type 0 where
  pub directory : IsDirectoryAt old ino → IsDirectoryAt new ino
  pub regular : IsRegularAt old ino → IsRegularAt new ino

-- the current directory of a session stays a directory, and the inodes of its open files keep their kinds
pub record KeepsUsed (old new : Numbered Node) (seat : Seat) : Type 0 where
  pub cwd : IsDirectoryAt old seat.cwd → IsDirectoryAt new seat.cwd
  pub files : (place : ℕ) (file : PlainFile) → fin.get seat.files place ≡ Some file → KeepsKind old new file.ino

-- the inodes that the sessions after a call use are of the kinds that they had before it
abbrev pub KeepsOpenable : Machine → Machine → Type 0
KeepsOpenable machine next = (caller : ℕ) (seat : Seat) → slice_get next.seats caller ≡ Some seat → KeepsUsed machine.tree.nodes next.tree.nodes seat

-- a call that is served keeps a machine valid where the next tree is sound and what the sessions use is kept
abbrev pub ValidStays : Type 0
ValidStays = (machine : Machine) (caller : ℕ) (made : Call) (moment : ℕ) (pick : Option ℕ) (reply : Reply) (next : Machine)
    → IsValid machine → serve machine caller made moment pick ≡ Ok (reply, next) → IsSound next.tree → KeepsOpenable machine next → IsValid next

-- no operation, or one that touches bytes or attributes alone
abbrev pub IsAtMostOnBytesOrAttributes : Option FsOp → Type 0
IsAtMostOnBytesOrAttributes None = Unit {0}
IsAtMostOnBytesOrAttributes (Some made) = IsOnBytesOrAttributes made

-- a call with such a plan keeps a machine valid
abbrev pub BytesOrAttributesValid : Type 0
BytesOrAttributesValid = (machine : Machine) (caller : ℕ) (made : Call) (moment : ℕ) (pick : Option ℕ) (reply : Reply) (next : Machine) (planned : CallPlan)
    → IsValid machine → serve machine caller made moment pick ≡ Ok (reply, next) → plan machine caller made moment pick ≡ Ok planned → IsAtMostOnBytesOrAttributes planned.op → IsValid next

-- and so does one that releases open files: what is dropped with its last open file nobody uses any longer
abbrev pub ReleaseValid : Type 0
ReleaseValid = (machine : Machine) (caller : ℕ) (made : Call) (moment : ℕ) (pick : Option ℕ) (reply : Reply) (next : Machine) (planned : CallPlan) (inos : List ℕ)
    → IsValid machine → serve machine caller made moment pick ≡ Ok (reply, next) → plan machine caller made moment pick ≡ Ok planned → planned.op ≡ Some (Release inos) → IsValid next

-- what the types of a call's arguments keep: a path has no byte 0, and a write has at most 65535 bytes
abbrev pub IsCall : Call → Type 0
IsCall (call.Open path how) = IsPath path
IsCall (call.Creat path mode) = IsPath path
IsCall (call.Write fd bytes) = AreOctets bytes
IsCall (call.Link from to) = IsPath from × IsPath to
IsCall (call.Unlink path) = IsPath path
IsCall (call.Mkdir path mode) = IsPath path
IsCall (call.Rmdir path) = IsPath path
IsCall (call.Chdir path) = IsPath path
IsCall (call.Stat path) = IsPath path
IsCall (call.Chmod path mode) = IsPath path
IsCall (call.Chown path uid gid) = IsPath path
IsCall (call.Utime path atime mtime) = IsPath path
IsCall (call.Access path bits) = IsPath path
IsCall _ = Unit {0}

-- the operation of a call fits the tree and the counts on which the call is planned
abbrev pub OperationsFit : Type 0
OperationsFit = (machine : Machine) (caller : ℕ) (made : Call) (moment : ℕ) (pick : Option ℕ) (planned : CallPlan) (op : FsOp)
    → IsValidFor machine caller → IsCall made → plan machine caller made moment pick ≡ Ok planned → planned.op ≡ Some op → IfSome pick (IsFreeNumber machine.tree)
    → Fits machine.tree (counts machine.seats) op pick

-- a step with a lawful pick keeps a valid machine valid
abbrev pub ValidKept : Type 0
ValidKept = (machine : Machine) (caller : ℕ) (made : Call) (moment : ℕ) (pick : Option ℕ) → IsValid machine → IsCall made
    → IsLawful machine caller made moment pick → IsValid (step machine caller made moment pick).1
