-- The last step of a call: its plan is made a ReadyCall by the one operation, if it has one.
use Rattle.std.specs.Prelude.{List, [], ℕ, ◌≡◌, Bool, Option, Some, None}
use Rattle.mb_kinds.specs.Image.{Image}
use Rattle.mb_kinds.specs.declared.errors.Errno.{Errno}
use Rattle.mb_kinds.specs.declared.replies.Reply.TheVariants.{Refused}
use Rattle.mb_iface.specs.Acting.{HasDone, HasRefused, KeepsWhereHeld}
use Rattle.mb_iface.specs.Near.{IsNear, IsTouched}
use Rattle.mb_iface.specs.Needs.{IsNeed}
use Rattle.mb_iface.specs.OpenCounts.{count_of}
use Rattle.mb_tree.specs.Fits.{Fits}
use Rattle.mb_tree.specs.PickLaws.{fresh_on}
use Rattle.mb_tree.specs.Views.{IsPart}
use Rattle.mb_tree.specs.Volume.{IsVolume}
use Rattle.mb_tree.specs.declared.operations.FsOp.{FsOp}
use Rattle.mb_tree.specs.declared.plans.CallPlan.{CallPlan}
use Rattle.mb_tree.specs.declared.seats.SessionChange.TheVariants.{Same}
use Rattle.mb_tree.specs.declared.trees.Tree.{Tree}
use Rattle.mb_calls.specs.Continuing.{CountMap}
use Rattle.mb_iface.specs.declared.replies.Acted.TheVariants as acted
use Rattle.mb_iface.specs.declared.replies.Need.{Need}
use Rattle.mb_calls.specs.declared.performing.ReadyCall.{ReadyCall}
use Rattle.mb_calls.specs.declared.performing.Performed.{Performed}
use Rattle.mb_calls.specs.declared.performing.Performed.TheVariants as performed

-- a plan without an operation; shared says whether its call looks at other sessions
abbrev pub ready_with : Bool → CallPlan → ReadyCall
ready_with shared planned = record { reply = planned.reply; op = None; pick = None; changes = []; session = planned.session; shared = shared }

-- a refusal
abbrev pub ready_refused : Bool → Errno → ReadyCall
ready_refused shared e = record { reply = Refused e; op = None; pick = None; changes = []; session = Same; shared = shared }

-- what an operation did on each volume on which it fits, no number being demanded
abbrev pub HasActed : (ℕ → Option (List ℕ)) → CountMap → FsOp → (Image → Tree → Type 0) → Type 0
HasActed shown opens op Does = (image : Image) (tree : Tree) → IsPart shown image.at → IsVolume image tree → Fits tree (count_of opens) op None → Does image tree

-- how a plan ends: there is no operation, or it is done, or it is refused
pub data IsEndOf (shown : ℕ → Option (List ℕ)) (opens : CountMap) (shared : Bool) (planned : CallPlan) (ready : ReadyCall) : Type 0 where
  alone : planned.op ≡ None → ready ≡ ready_with shared planned → IsEndOf shown opens shared planned ready
  done : (op : FsOp) (changes : List (ℕ × List ℕ)) (pick : Option ℕ) → planned.op ≡ Some op → HasActed shown opens op (λ image tree. HasDone shown image tree (count_of opens) op None changes pick)
      → KeepsWhereHeld op (acted.Done changes pick) → ready ≡ record { reply = planned.reply; op = Some op; pick = pick; changes = changes; session = fresh_on op pick planned.session; shared = shared } → IsEndOf shown opens shared planned ready
  refused : (op : FsOp) (e : Errno) → planned.op ≡ Some op → HasActed shown opens op (λ image tree. HasRefused tree (count_of opens) op None e) → ready ≡ ready_refused shared e → IsEndOf shown opens shared planned ready

-- on every view
abbrev pub Ends : (ℕ → Option (List ℕ)) → CountMap → Bool → CallPlan → Performed → Type 0
Ends shown opens shared planned (performed.Ready ready) = IsEndOf shown opens shared planned ready
Ends shown opens shared planned (performed.Need need) = IsNeed shown need
Ends shown opens shared planned performed.NoMemory = Unit {0}

-- a block near the inodes that the operation of a plan touches; without an operation none is asked for
abbrev pub ActsNear : (ℕ → Option (List ℕ)) → CountMap → Option FsOp → Need → Type 0
ActsNear shown opens None need = ⊥
ActsNear shown opens (Some op) need = HasActed shown opens op (λ image tree. IsNear image tree (IsTouched tree op) need.first)

abbrev pub EndsNear : (ℕ → Option (List ℕ)) → CountMap → CallPlan → Performed → Type 0
EndsNear shown opens planned (performed.Ready ready) = Unit {0}
EndsNear shown opens planned (performed.Need need) = ActsNear shown opens planned.op need
EndsNear shown opens planned performed.NoMemory = Unit {0}
