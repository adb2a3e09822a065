-- What a call that was performed over gathered blocks has to come to.
use Rattle.std.specs.Prelude.{List, [], ℕ, ◌≡◌, Bool, true, false, Option, None, Ok, Err}
use Rattle.mb_kinds.specs.Image.{Image}
use Rattle.mb_kinds.specs.declared.calls.Call.{Call}
use Rattle.mb_kinds.specs.declared.errors.Errno.{Errno}
use Rattle.mb_kinds.specs.declared.replies.Reply.{Reply}
use Rattle.mb_kinds.specs.declared.replies.Reply.TheVariants.{Refused}
use Rattle.mb_edge.specs.Damage.{OpenCounts}
use Rattle.mb_iface.specs.Acting.{with_changes}
use Rattle.mb_tree.specs.Effect.{TreeAndOpens}
use Rattle.mb_tree.specs.Machines.{IsValidFor}
use Rattle.mb_tree.specs.Rows.{plan}
use Rattle.mb_tree.specs.Sessions.{counts}
use Rattle.mb_tree.specs.Step.{effect_of, serve, IsLawful}
use Rattle.mb_tree.specs.Views.{Kept, IsPart}
use Rattle.mb_tree.specs.Volume.{IsVolume}
use Rattle.mb_tree.specs.declared.machines.Machine.{Machine}
use Rattle.mb_tree.specs.declared.seats.Seat.{Seat}
use Rattle.mb_tree.specs.declared.seats.SessionChange.TheVariants.{Same}
use Rattle.mb_tree.specs.declared.trees.Tree.{Tree}
use Rattle.mb_core_spec.specs.Copies.{HasOwn, cwds}
use Rattle.mb_session.specs.OpenFiles.{TellsCounts}
use Rattle.mb_core_spec.specs.declared.ready.Ready.{Ready}

-- a call that is served: the plan of its row, the effect of its operation, and the changes that make it
pub record IsServedBy (view : Image) (machine : Machine) (caller : ℕ) (call : Call) (moment : ℕ) (ready : Ready) : Type 0 where
  pub planned : plan machine caller call moment ready.pick ≡ Ok (record { reply = ready.reply; op = ready.op; session = ready.session })
  pub held : TreeAndOpens
  pub effect : effect_of machine.tree (counts machine.seats) ready.op ready.pick ≡ Ok held
  pub volume : IsVolume (with_changes view ready.changes) held.tree
  pub kept : Kept machine.tree view held.tree (with_changes view ready.changes)

-- a call that is refused changes nothing
pub record IsRefusedBy (machine : Machine) (caller : ℕ) (call : Call) (moment : ℕ) (ready : Ready) (e : Errno) : Type 0 where
  pub refused : serve machine caller call moment ready.pick ≡ Err e
  pub op : ready.op ≡ None
  pub session : ready.session ≡ Same
  pub changes : ready.changes ≡ []

-- by the reply
abbrev pub IsAnsweredBy : Image → Machine → ℕ → Call → ℕ → Ready → Reply → Type 0
IsAnsweredBy view machine caller call moment ready (Refused e) = IsRefusedBy machine caller call moment ready e
IsAnsweredBy view machine caller call moment ready reply = IsServedBy view machine caller call moment ready

-- the model's step, on a lawful pick
pub record IsPerformed (view : Image) (machine : Machine) (caller : ℕ) (call : Call) (moment : ℕ) (ready : Ready) : Type 0 where
  pub lawful : IsLawful machine caller call moment ready.pick
  pub answered : IsAnsweredBy view machine caller call moment ready ready.reply

-- which sessions a call cannot tell from the ones that it was given
abbrev pub Agrees : Bool → ℕ → List Seat → OpenCounts → List Seat → Type 0
Agrees false caller given opens seats = HasOwn caller given seats
Agrees true caller given opens seats = HasOwn caller given seats × TellsCounts opens (counts seats) × (cwds given ≡ cwds seats)

-- the model's step over every volume of which the view is a part, and for all sessions that the call cannot tell apart
abbrev pub IsReadyFor : (ℕ → Option (List ℕ)) → List Seat → OpenCounts → ℕ → Call → ℕ → Ready → Type 0
IsReadyFor shown given opens caller call moment ready = (image : Image) (tree : Tree) (seats : List Seat)
    → IsPart shown image.at → IsVolume image tree → Agrees ready.shared caller given opens seats → IsValidFor (record { tree = tree; seats = seats }) caller
    → IsPerformed image (record { tree = tree; seats = seats }) caller call moment ready
