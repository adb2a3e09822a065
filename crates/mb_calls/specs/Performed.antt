-- What a call that is performed over gathered blocks has to come to.
use Rattle.std.specs.Prelude.{List, [], ℕ, ◌≡◌, ◌≤◌, ◌<◌, IsSome, Bool, true, false, Option, Some, None, Ok, Err, slice_get}
use Rattle.std.specs.FinMap as fin
use Rattle.mb_kinds.specs.Image.{Image}
use Rattle.mb_kinds.specs.declared.calls.Call.{Call}
use Rattle.mb_kinds.specs.declared.errors.Errno.{Errno}
use Rattle.mb_kinds.specs.declared.replies.Reply.{Reply}
use Rattle.mb_kinds.specs.declared.replies.Reply.TheVariants.{Refused}
use Rattle.mb_iface.specs.Acting.{with_changes}
use Rattle.mb_kinds.specs.Changed.{IsWithinView}
use Rattle.mb_iface.specs.Near.{IsNear}
use Rattle.mb_iface.specs.Needs.{IsNeed}
use Rattle.mb_iface.specs.OpenCounts.{count_of}
use Rattle.mb_tree.specs.Effect.{TreeAndOpens}
use Rattle.mb_tree.specs.LocalLaws.{cwds, is_shared_call}
use Rattle.mb_tree.specs.Machines.{IsValidFor}
use Rattle.mb_tree.specs.Plans.{IsServedReply}
use Rattle.mb_tree.specs.Rows.{plan}
use Rattle.mb_tree.specs.Sessions.{HasDescriptorInRange, counts, file_on}
use Rattle.mb_tree.specs.Step.{effect_of, serve, IsLawful}
use Rattle.mb_tree.specs.Views.{Kept, IsPart}
use Rattle.mb_tree.specs.Volume.{IsVolume}
use Rattle.mb_tree.specs.declared.machines.Machine.{Machine}
use Rattle.mb_tree.specs.declared.operations.FsOp.TheVariants.{Hold}
use Rattle.mb_tree.specs.declared.seats.Seat.{Seat}
use Rattle.mb_tree.specs.declared.seats.SessionChange.{SessionChange}
use Rattle.mb_tree.specs.declared.seats.SessionChange.TheVariants.{Same, Fresh, Twin, Free, Move}
use Rattle.mb_tree.specs.declared.trees.Tree.{Tree}
use Rattle.mb_calls.specs.Continuing.{CountMap}
use Rattle.mb_calls.specs.Looked.{IsLooked}
use Rattle.mb_iface.specs.declared.replies.Need.{Need}
use Rattle.mb_calls.specs.declared.performing.ReadyCall.{ReadyCall}
use Rattle.mb_calls.specs.declared.performing.Performed.{Performed}
use Rattle.mb_calls.specs.declared.performing.Performed.TheVariants as performed

-- a call that is served, by its plan and the effect of its operation; what it changes makes a volume of the next tree,
-- and the image keeps what holds nothing of the tree
pub record IsServedOver (view : Image) (machine : Machine) (caller : ℕ) (made : Call) (moment : ℕ) (ready : ReadyCall) : Type 0 where
  pub planned : plan machine caller made moment ready.pick ≡ Ok (record { reply = ready.reply; op = ready.op; session = ready.session })
  pub held : TreeAndOpens
  pub effect : effect_of machine.tree (counts machine.seats) ready.op ready.pick ≡ Ok held
  pub volume : IsVolume (with_changes view ready.changes) held.tree
  pub kept : Kept machine.tree view held.tree (with_changes view ready.changes)

-- a call that is refused; it changes nothing
pub record IsRefusedOver (machine : Machine) (caller : ℕ) (made : Call) (moment : ℕ) (ready : ReadyCall) (e : Errno) : Type 0 where
  pub refused : serve machine caller made moment ready.pick ≡ Err e
  pub op : ready.op ≡ None
  pub session : ready.session ≡ Same
  pub changes : ready.changes ≡ []

-- one or the other, by the reply
abbrev pub IsAnsweredOver : Image → Machine → ℕ → Call → ℕ → ReadyCall → Reply → Type 0
IsAnsweredOver view machine caller made moment ready (Refused e) = IsRefusedOver machine caller made moment ready e
IsAnsweredOver view machine caller made moment ready reply = IsServedOver view machine caller made moment ready

-- the model's step of the call, with a lawful pick
pub record IsPerformedOver (view : Image) (machine : Machine) (caller : ℕ) (made : Call) (moment : ℕ) (ready : ReadyCall) : Type 0 where
  pub lawful : IsLawful machine caller made moment ready.pick
  pub answered : IsAnsweredOver view machine caller made moment ready ready.reply

-- sessions with the counts of open files and the current directories that were given
pub record AllAlike (given : List Seat) (opens : CountMap) (seats : List Seat) : Type 0 where
  pub counted : (ino : ℕ) → count_of opens ino ≡ counts seats ino
  pub directories : cwds given ≡ cwds seats

-- for a call that looks at other sessions
abbrev pub OthersAlike : Bool → List Seat → CountMap → List Seat → Type 0
OthersAlike false given opens seats = Unit {0}
OthersAlike true given opens seats = AllAlike given opens seats

-- the sessions that a call cannot tell from the given ones: its caller's is the same, and if it looks at others all agree
pub record AreAlike (shared : Bool) (caller : ℕ) (given : List Seat) (opens : CountMap) (seats : List Seat) : Type 0 where
  pub own : slice_get given caller ≡ slice_get seats caller
  pub others : OthersAlike shared given opens seats

-- on every volume of which the view is a part, for all sessions that the call cannot tell from the given ones, the
-- model's step; and it changes blocks alone that the view has
abbrev pub IsReadyOver : (ℕ → Option (List ℕ)) → List Seat → CountMap → ℕ → Call → ℕ → ReadyCall → Type 0
IsReadyOver shown given opens caller made moment ready = (image : Image) (tree : Tree) (seats : List Seat)
    → IsPart shown image.at → IsVolume image tree → AreAlike ready.shared caller given opens seats → IsValidFor (record { tree = tree; seats = seats }) caller
    → IsPerformedOver image (record { tree = tree; seats = seats }) caller made moment ready × IsWithinView shown ready.changes

-- and a Need names blocks that the view lacks, on every view
abbrev pub IsRight : (ℕ → Option (List ℕ)) → List Seat → CountMap → ℕ → Call → ℕ → Performed → Type 0
IsRight shown given opens caller made moment (performed.Ready ready) = IsReadyOver shown given opens caller made moment ready
IsRight shown given opens caller made moment (performed.Need need) = IsNeed shown need
IsRight shown given opens caller made moment performed.NoMemory = Unit {0}

-- there the block of a Need is near the inodes at which the call looks
abbrev pub IsNeededFor : (ℕ → Option (List ℕ)) → List Seat → CountMap → ℕ → Call → Need → Type 0
IsNeededFor shown given opens caller made need = (image : Image) (tree : Tree) (seats : List Seat) (seat : Seat)
    → IsPart shown image.at → IsVolume image tree → AreAlike (is_shared_call made) caller given opens seats → IsValidFor (record { tree = tree; seats = seats }) caller → slice_get given caller ≡ Some seat
    → IsNear image tree (IsLooked tree.nodes seat made) need.first

abbrev pub IsNeeded : (ℕ → Option (List ℕ)) → List Seat → CountMap → ℕ → Call → Performed → Type 0
IsNeeded shown given opens caller made (performed.Ready ready) = Unit {0}
IsNeeded shown given opens caller made (performed.Need need) = IsNeededFor shown given opens caller made need
IsNeeded shown given opens caller made performed.NoMemory = Unit {0}

-- a descriptor is 3 to 19
abbrev pub IsFreeDescriptor : Seat → ℕ → Type 0
IsFreeDescriptor seat fd = (3 ≤ fd) × (fd < 20) × (fin.get seat.fds fd ≡ None)

-- a session change that can be made: what comes into use is free, and what is doubled, freed or moved is in use
abbrev pub CanApply : Seat → SessionChange → Type 0
CanApply seat (Fresh fd ino how) = IsFreeDescriptor seat fd
CanApply seat (Twin fd to) = IsFreeDescriptor seat to × IsSome (file_on seat fd)
CanApply seat (Free fd) = IsSome (file_on seat fd)
CanApply seat (Move fd offset) = IsSome (file_on seat fd)
CanApply seat _ = Unit {0}

-- a refusal, or the reply of a call that is served
abbrev pub IsPlainReply : Reply → Type 0
IsPlainReply (Refused e) = Unit {0}
IsPlainReply reply = IsServedReply reply

-- what a ReadyCall is whatever the view shows; looks says whether its call looks at other sessions. Without an operation no block
-- is changed, nor by one that holds a file open.
pub record IsFit (seat : Seat) (looks : Bool) (ready : ReadyCall) : Type 0 where
  pub plain : IsPlainReply ready.reply
  pub session : CanApply seat ready.session
  pub range : HasDescriptorInRange ready.session
  pub shared : ready.shared ≡ looks
  pub still : ready.op ≡ None → ready.changes ≡ []
  pub held : (ino : ℕ) → ready.op ≡ Some (Hold ino) → ready.changes ≡ []

abbrev pub FitsCall : List Seat → ℕ → Call → Performed → Type 0
FitsCall given caller made (performed.Ready ready) = (seat : Seat) → slice_get given caller ≡ Some seat → IsFit seat (is_shared_call made) ready
FitsCall given caller made _ = Unit {0}
