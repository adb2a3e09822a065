-- The trace tells how many calls were logged since its last checkpoint, also as the discipline of traces counts them.
use Rattle.std.proofs.Common.{◌&&◌, ◌≡◌, List, [], ◌∷◌, ℕ, ◌+◌, Bool, true, false, Option, None, Some, if◌then◌else◌, refl, ap, sym, ◌∙◌}
use Rattle.std.proofs.lemmas.Option.{same_Some}
use Rattle.std.specs.Prelude.{nat_eq, nat_le, option_and_then, option_map, slice_get, slice_set}
use Rattle.mb_kinds.specs.declared.entries.Entry.{Entry}
use Rattle.mb_kinds.specs.declared.faults.Ticket.{Ticket}
use Rattle.mb_core_spec.specs.Trail.{Mode, Place, Watch, enters, folds, leaves, logs, next, next_in, stays, unwinds, watch_from, when}
use Rattle.mb_core_spec.specs.Trail.Mode.{Runs, Struck, Again, Dropped, Remounted, Restored, Failed}
use Rattle.mb_core_spec.specs.declared.steps.Step.{Step}
use Rattle.mb_core_spec.specs.declared.steps.Step.TheVariants as step
use Rattle.mb_run.specs.Seals.{Sealing, logged_since, sealing_after, sealing_next, unsealed}

never : {X : Type 0} (x : X) → None ≡ Some x → ⊥
never x same = cc

module _ (now : Watch) where
  -- a step of one caller, one that may be refused, and a fault
  placed : (was : Watch) (ticket : Ticket) (found : Option Place) → option_map (λ (place : Place). record was { places = slice_set was.places ticket.caller place }) found ≡ Some now → now.since ≡ was.since
  placed was ticket None is = absurd (never now is)
  placed was ticket (Some place) is = ap (λ (w : Watch). w.since) (sym (same_Some (record was { places = slice_set was.places ticket.caller place }) now is))

  allowed : (test : Bool) (made : Watch) → when test made ≡ Some now → now.since ≡ made.since
  allowed true made is = ap (λ (w : Watch). w.since) (sym (same_Some made now is))
  allowed false made is = absurd (never now is)

  if_placed : (test : Bool) (was : Watch) (found : Option Place) (ticket : Ticket) → (if test then option_map (λ (place : Place). record was { places = slice_set was.places ticket.caller place }) found else None) ≡ Some now → now.since ≡ was.since
  if_placed true was found ticket is = placed was ticket found is
  if_placed false was found ticket is = absurd (never now is)

  made : (given : Watch) → Some given ≡ Some now → now.since ≡ given.since
  made given is = ap (λ (w : Watch). w.since) (sym (same_Some given now is))

  step_since : (threshold : ℕ) (history : List Entry) (was : Watch) (mode : Mode) (one : Step) (seen : Sealing) → was.since ≡ seen.since → next_in was mode one ≡ Some now → now.since ≡ (sealing_next threshold history seen one).since
  step_since threshold history was Runs (step.Entered ticket) seen same is = placed was ticket (option_and_then (enters ticket) (slice_get was.places ticket.caller)) is ∙ same
  step_since threshold history was Runs (step.Logged ticket) seen same is =
      placed (record was { since = was.since + 1 }) ticket (option_and_then (logs ticket) (slice_get was.places ticket.caller)) is ∙ ap (λ n. n + 1) same
  step_since threshold history was Runs (step.Stale ticket block) seen same is = placed was ticket (option_and_then (stays ticket) (slice_get was.places ticket.caller)) is ∙ same
  step_since threshold history was Runs (step.Left ticket) seen same is = placed was ticket (option_and_then (leaves ticket) (slice_get was.places ticket.caller)) is ∙ same
  step_since threshold history was Runs (step.Sealed count) seen same is = made (record was { since = 0; sealed = count }) is
  step_since threshold history was Runs (step.Struck number) seen same is = allowed (nat_eq number (was.struck + 1)) (record was { mode = Struck 0; struck = number }) is ∙ same
  step_since threshold history was (Struck low) (step.Unwound ticket) seen same is =
      if_placed (nat_le low ticket.caller) (record was { mode = Struck (ticket.caller + 1) }) (option_and_then (unwinds ticket) (slice_get was.places ticket.caller)) ticket is ∙ same
  step_since threshold history was (Struck low) step.Dropped seen same is = made (record was { mode = Dropped }) is ∙ same
  step_since threshold history was (Struck low) (step.Failed number) seen same is = allowed (nat_eq number was.struck) (record was { mode = Failed }) is ∙ same
  step_since threshold history was Again step.Dropped seen same is = made (record was { mode = Dropped }) is ∙ same
  step_since threshold history was Again (step.Failed number) seen same is = allowed (nat_eq number was.struck) (record was { mode = Failed }) is ∙ same
  step_since threshold history was Dropped step.Remounted seen same is = made (record was { mode = Remounted }) is ∙ same
  step_since threshold history was Dropped (step.Struck number) seen same is = allowed (nat_eq number (was.struck + 1)) (record was { mode = Again; struck = number }) is ∙ same
  step_since threshold history was Remounted step.Reopened seen same is = made (record was { mode = Restored 0 }) is ∙ same
  step_since threshold history was (Restored done) (step.Replayed number) seen same is = allowed (nat_eq number (done + 1) && nat_le number was.since) (record was { mode = Restored number }) is ∙ same
  step_since threshold history was (Restored done) step.Resumed seen same is = made (record was { mode = Runs }) is ∙ same
  step_since threshold history was (Restored done) (step.Struck number) seen same is = allowed (nat_eq number (was.struck + 1)) (record was { mode = Again; struck = number }) is ∙ same
  step_since threshold history was _ _ seen same is = absurd (never now is)

after_since : (threshold : ℕ) (history : List Entry) (was now : Watch) (seen : Sealing) (trail : List Step) → was.since ≡ seen.since → folds next was trail ≡ Some now → now.since ≡ (sealing_after threshold history seen trail).since
after_since threshold history was now seen [] same is = made now was is ∙ same
after_since threshold history was now seen (one ∷ trail) same is =
    elim (next was one) as (λ (found : Option Watch). next was one ≡ found → option_and_then (λ (w : Watch). folds next w trail) found ≡ Some now → now.since ≡ (sealing_after threshold history (sealing_next threshold history seen one) trail).since) [
      | None ↦ λ none rest. absurd (never now rest)
      | Some mid ↦ λ some rest. after_since threshold history mid now (sealing_next threshold history seen one) trail (step_since mid threshold history was was.mode one seen same some) rest
    ] refl is

pub watched_since : (callers threshold : ℕ) (history : List Entry) (now : Watch) (trail : List Step) → folds next (watch_from callers) trail ≡ Some now → now.since ≡ logged_since threshold history trail
unfolding logged_since
watched_since callers threshold history now trail is = after_since threshold history (watch_from callers) now unsealed trail refl is
