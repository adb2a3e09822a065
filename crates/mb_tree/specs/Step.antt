-- One call of the reference model: the plan of the call's row, then the effect of its operation, then its
-- session change. A refused call leaves the machine as it was.
use Rattle.std.specs.Prelude.{ℕ, ◌≡◌, ◌≤◌, Option, Some, None, Ok, Err, IsSome}
use Rattle.std.specs.FinMap as fin
use Rattle.mb_kinds.specs.declared.calls.Call.{Call}
use Rattle.mb_kinds.specs.declared.replies.Reply.{Reply}
use Rattle.mb_kinds.specs.declared.replies.Reply.TheVariants.{Refused}
use Rattle.mb_tree.specs.Answers.{Answer, ◌>>=◌}
use Rattle.mb_tree.specs.Sessions.{Counts, counts, with_change}
use Rattle.mb_tree.specs.Effect.{TreeAndOpens, effect}
use Rattle.mb_tree.specs.Rows.{plan}
use Rattle.mb_tree.specs.declared.machines.Machine.{Machine}
use Rattle.mb_tree.specs.declared.operations.FsOp.{FsOp}
use Rattle.mb_tree.specs.declared.trees.Tree.{Tree}

-- the effect of one operation, or nothing
abbrev pub effect_of : Tree → Counts → Option FsOp → Option ℕ → Answer TreeAndOpens
effect_of tree opens None pick = Ok (record { tree = tree; opens = opens })
effect_of tree opens (Some op) pick = effect tree opens op pick

-- the reply and the next machine of a call that is not refused
abbrev pub serve : Machine → ℕ → Call → ℕ → Option ℕ → Answer (Reply × Machine)
serve machine caller call moment pick = do
  planned ← plan machine caller call moment pick
  held ← effect_of machine.tree (counts machine.seats) planned.op pick
  Ok (planned.reply, record { tree = held.tree; seats = with_change machine.seats caller planned.session })

abbrev pub or_refused : Machine → Answer (Reply × Machine) → Reply × Machine
or_refused machine (Ok served) = served
or_refused machine (Err e) = (Refused e, machine)

abbrev pub step : Machine → ℕ → Call → ℕ → Option ℕ → Reply × Machine
step machine caller call moment pick = or_refused machine (serve machine caller call moment pick)

-- a number that a new inode may get; inode 1 and the root are never picked
pub record IsFreeNumber (tree : Tree) (ino : ℕ) : Type 0 where
  pub above : 3 ≤ ino
  pub within : ino ≤ tree.last
  pub unused : fin.get tree.nodes ino ≡ None

-- the call makes an inode with that free number
abbrev pub Makes : Machine → ℕ → Call → ℕ → ℕ → Type 0
Makes machine caller call moment ino = IsFreeNumber machine.tree ino × IsSome (fin.get (step machine caller call moment (Some ino)).1.tree.nodes ino)

-- a pick is lawful where the call makes an inode with it; no pick is lawful where the call makes none,
-- whatever number is picked
abbrev pub IsLawful : Machine → ℕ → Call → ℕ → Option ℕ → Type 0
IsLawful machine caller call moment (Some ino) = Makes machine caller call moment ino
IsLawful machine caller call moment None = (ino : ℕ) → Makes machine caller call moment ino → ⊥
