-- Laws of the step and of histories, each the contract of a function without a body.
use Rattle.std.specs.Prelude.{List, [], ◌∷◌, ◌++◌, ℕ, ◌≡◌, ◌≤◌, ◌<◌, ◌⊎◌, Option, Ok, Some, None}
use Rattle.std.specs.List.{AllByRecursion}
use Rattle.mb_kinds.specs.declared.calls.Call.{Call}
use Rattle.mb_kinds.specs.declared.entries.Entry.{Entry}
use Rattle.mb_kinds.specs.declared.replies.Reply.{Reply}
use Rattle.mb_kinds.specs.declared.replies.Reply.TheVariants.{Refused}
use Rattle.mb_kinds.specs.declared.errors.Errno.{Errno}
use Rattle.mb_tree.specs.Maps.{Numbered}
use Rattle.mb_tree.specs.Sessions.{Counts, counts, with_change, changed}
use Rattle.mb_tree.specs.Machines.{IsSeated, FitsSession}
use Rattle.mb_tree.specs.declared.nodes.Node.{Node}
use Rattle.mb_tree.specs.declared.seats.Seat.{Seat}
use Rattle.mb_tree.specs.declared.seats.SessionChange.{SessionChange}
use Rattle.mb_tree.specs.Effect.{TreeAndOpens, release, less_open, tree_after}
use Rattle.mb_tree.specs.declared.operations.FsOp.{FsOp}
use Rattle.mb_tree.specs.declared.operations.FsOp.TheVariants.{Empty, Put, SetMode, SetOwner, SetTimes, Hold}
use Rattle.mb_tree.specs.Rows.{plan}
use Rattle.mb_tree.specs.Step.{effect_of, serve, step}
use Rattle.std.specs.FinMap as fin
use Rattle.mb_tree.specs.Inodes.{slots_of}
use Rattle.mb_tree.specs.Trees.{HasKind, HasSize, IsUsedAt, IsSound}
use Rattle.mb_tree.specs.declared.nodes.PlainSlot.{PlainSlot}
use Rattle.mb_tree.specs.declared.nodes.Body.TheVariants.{Directory}
use Rattle.mb_tree.specs.declared.trees.Tree.{Tree}
use Rattle.mb_tree.specs.Cost.{cost}
use Rattle.mb_tree.specs.History.{after, Runs, Follows, Legal}
use Rattle.mb_tree.specs.declared.machines.Machine.{Machine}
use Rattle.mb_tree.specs.declared.plans.CallPlan.{CallPlan}

-- the machine after two histories in a row
abbrev pub AfterAppends : Type 0
AfterAppends = (machine : Machine) (front back : List Entry) → after machine (front ++ back) ≡ after (after machine front) back

-- a front of a history is one, and so is the rest from there on
abbrev pub LegalSplits : Type 0
LegalSplits = (machine : Machine) (start : ℕ) (front back : List Entry) → Legal machine start (front ++ back) → Legal machine start front × Legal (after machine front) start back

-- two histories in a row are one where each later entry may follow each earlier one
abbrev pub LegalAppends : Type 0
LegalAppends = (machine : Machine) (start : ℕ) (front back : List Entry) → Legal machine start front → Legal (after machine front) start back
    → AllByRecursion (λ entry. AllByRecursion (Follows entry) back) front → Legal machine start (front ++ back)

-- one entry more
abbrev pub LegalGrows : Type 0
LegalGrows = (machine : Machine) (start : ℕ) (history : List Entry) (entry : Entry) → Legal machine start history → Runs (after machine history) entry entry.reply
    → start < entry.moment → AllByRecursion (λ earlier. Follows earlier entry) history → Legal machine start (history ++ entry ∷ [])

-- a refused call leaves the machine
abbrev pub RefusedStays : Type 0
RefusedStays = (machine : Machine) (caller : ℕ) (call : Call) (moment : ℕ) (pick : Option ℕ) (error : Errno)
    → (step machine caller call moment pick).0 ≡ Refused error → (step machine caller call moment pick).1 ≡ machine

-- what a call that is served did: its plan, the effect of the plan's operation on the tree, its session change
pub record IsServed (machine : Machine) (caller : ℕ) (call : Call) (moment : ℕ) (pick : Option ℕ) (reply : Reply) (next : Machine) : Type 0 where
  pub planned : CallPlan
  pub held : TreeAndOpens
  pub plans : plan machine caller call moment pick ≡ Ok planned
  pub acts : effect_of machine.tree (counts machine.seats) planned.op pick ≡ Ok held
  pub answers : reply ≡ planned.reply
  pub tree : next.tree ≡ held.tree
  pub seats : next.seats ≡ with_change machine.seats caller planned.session

abbrev pub ServedByEffect : Type 0
ServedByEffect = (machine : Machine) (caller : ℕ) (call : Call) (moment : ℕ) (pick : Option ℕ) (reply : Reply) (next : Machine)
    → serve machine caller call moment pick ≡ Ok (reply, next) → IsServed machine caller call moment pick reply next

-- the files never hold more blocks than there are for them
abbrev pub CostKept : Type 0
CostKept = (machine : Machine) (caller : ℕ) (call : Call) (moment : ℕ) (pick : Option ℕ) → cost machine.tree ≤ machine.tree.cap
    → (cost (step machine caller call moment pick).1.tree ≤ machine.tree.cap) × ((step machine caller call moment pick).1.tree.cap ≡ machine.tree.cap)

-- a session change that fits keeps a session valid
abbrev pub SessionKept : Type 0
SessionKept = (nodes : Numbered Node) (seat : Seat) (change : SessionChange) → IsSeated nodes seat → FitsSession nodes seat change → IsSeated nodes (changed seat change)

-- an inode with the slots and the link count that it had; its other attributes and the bytes of a file may differ
pub record KeepsSlotsAndLinks (old new : Node) : Type 0 where
  pub nlink : new.nlink ≡ old.nlink
  pub slots : slots_of new.body ≡ slots_of old.body
  pub kind : HasKind new.mode new.body
  pub size : HasSize new.body

-- an inode that is there stays so, with its slots and its link count, and a free number stays free
abbrev pub StaysWithSlotsAndLinks : Option Node → Option Node → Type 0
StaysWithSlotsAndLinks None None = Unit {0}
StaysWithSlotsAndLinks None (Some new) = ⊥
StaysWithSlotsAndLinks (Some old) None = ⊥
StaysWithSlotsAndLinks (Some old) (Some new) = KeepsSlotsAndLinks old new

-- a tree stays sound where each inode keeps its slots and its link count, and there is room
abbrev pub SlotsAndLinksKept : Type 0
SlotsAndLinksKept = (tree : Tree) (nodes : Numbered Node) → IsSound tree → ((ino : ℕ) → StaysWithSlotsAndLinks (fin.get tree.nodes ino) (fin.get nodes ino))
    → cost (record tree { nodes = nodes }) ≤ tree.cap → IsSound (record tree { nodes = nodes })

-- the operations that touch bytes, attributes or counts of open files alone
abbrev pub IsOnBytesOrAttributes : FsOp → Type 0
IsOnBytesOrAttributes (Empty ino moment) = Unit {0}
IsOnBytesOrAttributes (Put ino offset bytes moment) = Unit {0}
IsOnBytesOrAttributes (SetMode ino mode moment) = mode < 4096
IsOnBytesOrAttributes (SetOwner ino uid gid moment) = Unit {0}
IsOnBytesOrAttributes (SetTimes ino atime mtime moment) = Unit {0}
IsOnBytesOrAttributes (Hold ino) = Unit {0}
IsOnBytesOrAttributes _ = ⊥

-- they keep a sound tree sound
abbrev pub BytesOrAttributesKept : Type 0
BytesOrAttributesKept = (tree : Tree) (opens : Counts) (made : FsOp) (pick : Option ℕ) (next : Tree) → IsSound tree → IsOnBytesOrAttributes made
    → tree_after tree opens made pick ≡ Ok next → IsSound next

-- no used slot leads to an inode
abbrev pub IsUnled : Tree → ℕ → Type 0
IsUnled tree ino = (dir at : ℕ) (node : Node) (slots : List PlainSlot) (slot : PlainSlot)
    → fin.get tree.nodes dir ≡ Some node → node.body ≡ Directory slots → IsUsedAt slots at slot → slot.ino ≡ ino → ⊥

-- a tree stays sound where inodes are dropped to which no used slot leads, and there is room
abbrev pub DropKept : Type 0
DropKept = (tree : Tree) (nodes : Numbered Node) → IsSound tree
    → ((ino : ℕ) → (fin.get nodes ino ≡ fin.get tree.nodes ino) ⊎ ((fin.get nodes ino ≡ None) × IsUnled tree ino))
    → cost (record tree { nodes = nodes }) ≤ tree.cap → IsSound (record tree { nodes = nodes })

-- releasing open files keeps a sound tree sound
abbrev pub ReleaseKept : Type 0
ReleaseKept = (tree : Tree) (opens : Counts) (inos : List ℕ) → IsSound tree → IsSound (record tree { nodes = less_open tree.nodes (release opens inos) inos })
