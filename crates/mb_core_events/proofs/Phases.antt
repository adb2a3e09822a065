-- Where the volume stands, by the next step of a recovery.
use Rattle.std.proofs.Common.{List, ℕ, ◌+◌, ◌<◌, ◌≤◌, ◌≡◌, inl, inr, Bool, true, false, refl, sym, arith}
use Rattle.std.proofs.lemmas.Bool.Decides.{nat_tests}
use Rattle.std.specs.Prelude.{nat_lt, if◌then◌else◌, ◌⊎◌}
use Rattle.mb_core_spec.specs.Callers.{EachCaller, insiders}
use Rattle.mb_core_spec.specs.State.{CallerState}
use Rattle.mb_core_spec.specs.declared.stages.Stage.{Stage}
use Rattle.mb_core_spec.specs.declared.stages.Stage.TheVariants as stage
use Rattle.mb_core_order.proofs.Keepings.{some_inside}
use Rattle.mb_core_state.specs.Answers.{phase_of}
use Rattle.mb_core_state.specs.declared.answers.Phase.{Phase}
use Rattle.mb_core_state.specs.declared.answers.Phase.TheVariants as phase
use Rattle.mb_core_events.specs.Callings.{MayMeetFault}

-- nobody is inside where none is counted
pub nobody_inside : (callers : List CallerState) → insiders callers ≡ 0 → EachCaller (λ caller mine. mine.inside ≡ false) callers
nobody_inside callers none caller mine here = elim mine.inside as (λ b. mine.inside ≡ b → b ≡ false) [
  | true ↦ λ within. absurd (let some = some_inside callers caller mine here within in omega (arith, some, none))
  | false ↦ λ outside. refl
] refl

in_log : (done logged : ℕ) (b : Bool) → (if b then phase.Replay (done + 1) else phase.Resume) ≡ phase.Resume → b ≡ false
in_log done logged true is = cc
in_log done logged false is = refl

-- a struck volume with somebody inside
struck_if : (b : Bool) → (if b then phase.Unwind else phase.Drop) ≡ phase.Unwind → b ≡ true
struck_if true is = refl
struck_if false is = cc

struck_else : (b : Bool) → (if b then phase.Unwind else phase.Drop) ≡ phase.Drop → b ≡ false
struck_else true is = cc
struck_else false is = refl

not_replay : (done : ℕ) (b : Bool) (other : Phase) → (if b then phase.Replay (done + 1) else phase.Resume) ≡ other → (other ≡ phase.Resume) ⊎ ((number : ℕ) × (other ≡ phase.Replay number))
not_replay done true other is = inr (done + 1, sym is)
not_replay done false other is = inl (sym is)

pub unwinds_at : (now : Stage) (inside : Bool) (logged : ℕ) → phase_of now inside logged ≡ phase.Unwind → (now ≡ stage.Struck) × (inside ≡ true)
unwinds_at stage.Running inside logged is = cc
unwinds_at stage.Struck inside logged is = (refl, struck_if inside is)
unwinds_at stage.Again inside logged is = cc
unwinds_at stage.Dropped inside logged is = cc
unwinds_at stage.Remounted inside logged is = cc
unwinds_at (stage.Restored done) inside logged is = absurd (elim (not_replay done (nat_lt done logged) phase.Unwind is) [ inl other ↦ (let wrong : phase.Unwind ≡ phase.Resume = other in cc) | inr other ↦ (let wrong : phase.Unwind ≡ phase.Replay other.0 = other.1 in cc) ])
unwinds_at stage.Failed inside logged is = cc

pub drops_at : (now : Stage) (inside : Bool) (logged : ℕ) → phase_of now inside logged ≡ phase.Drop → ((now ≡ stage.Struck) × (inside ≡ false)) ⊎ (now ≡ stage.Again)
drops_at stage.Running inside logged is = cc
drops_at stage.Struck inside logged is = inl (refl, struck_else inside is)
drops_at stage.Again inside logged is = inr refl
drops_at stage.Dropped inside logged is = cc
drops_at stage.Remounted inside logged is = cc
drops_at (stage.Restored done) inside logged is = absurd (elim (not_replay done (nat_lt done logged) phase.Drop is) [ inl other ↦ (let wrong : phase.Drop ≡ phase.Resume = other in cc) | inr other ↦ (let wrong : phase.Drop ≡ phase.Replay other.0 = other.1 in cc) ])
drops_at stage.Failed inside logged is = cc

pub remounts_at : (now : Stage) (inside : Bool) (logged : ℕ) → phase_of now inside logged ≡ phase.Remount → now ≡ stage.Dropped
remounts_at stage.Running inside logged is = cc
remounts_at stage.Struck true logged is = cc
remounts_at stage.Struck false logged is = cc
remounts_at stage.Again inside logged is = cc
remounts_at stage.Dropped inside logged is = refl
remounts_at stage.Remounted inside logged is = cc
remounts_at (stage.Restored done) inside logged is = absurd (elim (not_replay done (nat_lt done logged) phase.Remount is) [ inl other ↦ (let wrong : phase.Remount ≡ phase.Resume = other in cc) | inr other ↦ (let wrong : phase.Remount ≡ phase.Replay other.0 = other.1 in cc) ])
remounts_at stage.Failed inside logged is = cc

pub reopens_at : (now : Stage) (inside : Bool) (logged : ℕ) → phase_of now inside logged ≡ phase.Reopen → now ≡ stage.Remounted
reopens_at stage.Running inside logged is = cc
reopens_at stage.Struck true logged is = cc
reopens_at stage.Struck false logged is = cc
reopens_at stage.Again inside logged is = cc
reopens_at stage.Dropped inside logged is = cc
reopens_at stage.Remounted inside logged is = refl
reopens_at (stage.Restored done) inside logged is = absurd (elim (not_replay done (nat_lt done logged) phase.Reopen is) [ inl other ↦ (let wrong : phase.Reopen ≡ phase.Resume = other in cc) | inr other ↦ (let wrong : phase.Reopen ≡ phase.Replay other.0 = other.1 in cc) ])
reopens_at stage.Failed inside logged is = cc

if_replays : (done number : ℕ) (b : Bool) → (if b then phase.Replay (done + 1) else phase.Resume) ≡ phase.Replay number → (number ≡ done + 1) × (b ≡ true)
if_replays done number true is = (cc, refl)
if_replays done number false is = cc

pub replays_at : (now : Stage) (inside : Bool) (logged number : ℕ) → phase_of now inside logged ≡ phase.Replay number → (done : ℕ) × (now ≡ stage.Restored done) × (number ≡ done + 1) × (done < logged)
replays_at stage.Running inside logged number is = cc
replays_at stage.Struck true logged number is = cc
replays_at stage.Struck false logged number is = cc
replays_at stage.Again inside logged number is = cc
replays_at stage.Dropped inside logged number is = cc
replays_at stage.Remounted inside logged number is = cc
replays_at (stage.Restored done) inside logged number is = let both = if_replays done number (nat_lt done logged) is in let test = both.1 in (done, refl, both.0, grind (arith, nat_tests, test))
replays_at stage.Failed inside logged number is = cc

pub resumes_at : (now : Stage) (inside : Bool) (logged : ℕ) → phase_of now inside logged ≡ phase.Resume → (done : ℕ) × (now ≡ stage.Restored done) × (logged ≤ done)
resumes_at stage.Running inside logged is = cc
resumes_at stage.Struck true logged is = cc
resumes_at stage.Struck false logged is = cc
resumes_at stage.Again inside logged is = cc
resumes_at stage.Dropped inside logged is = cc
resumes_at stage.Remounted inside logged is = cc
resumes_at (stage.Restored done) inside logged is = let test = in_log done logged (nat_lt done logged) is in (done, refl, grind (arith, nat_tests, test))
resumes_at stage.Failed inside logged is = cc

-- where a fault may strike a recovery
pub meets_at : (now : Stage) (inside : Bool) (logged : ℕ) → MayMeetFault (phase_of now inside logged) → (now ≡ stage.Dropped) ⊎ ((done : ℕ) × (now ≡ stage.Restored done))
meets_at now inside logged may = elim may [
  | inl remount ↦ inl (remounts_at now inside logged remount)
  | inr replay ↦ (let at = replays_at now inside logged replay.0 replay.1 in inr (at.0, at.1))
]
