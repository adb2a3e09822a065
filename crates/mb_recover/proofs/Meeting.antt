-- A fault at a crossing of the call that runs a step.
use Rattle.std.proofs.Common.{List, ℕ, ◌+◌, ◌<◌, ◌≡◌, ◌∙◌, Option, Some, None, IfSome, length, ap, sym, subst, arith, length-append}
use Rattle.std.proofs.lemmas.Option.{same_Some, slice_get_within}
use Rattle.std.specs.Prelude.{nat_lt}
use Rattle.mb_kinds.specs.declared.faults.Kind.{Kind}
use Rattle.mb_edge.specs.declared.crossings.Crossing.{Crossing}
use Rattle.mb_edge.specs.declared.crossings.Crossings.{Crossings}
use Rattle.mb_edge.specs.declared.strokes.Stroke.{Stroke}
use Rattle.mb_core_spec.specs.Callers.{insiders}
use Rattle.mb_core_spec.specs.Events.{with_room}
use Rattle.mb_core_spec.specs.Recovery.{striking_again}
use Rattle.mb_core_spec.specs.State.{CoreState}
use Rattle.mb_core_state.specs.Answers.{phase_of}
use Rattle.mb_core_state.specs.declared.answers.Phase.TheVariants as phase
use Rattle.mb_core_events.specs.Callings.{HasCall, phase_now}
use Rattle.mb_recover.specs.Steps.{RunsFor, caller_of, counted_if, next_if, next_of}

abbrev at_ordinal : Crossing → ℕ → Crossing
at_ordinal at ordinal = record at { ordinal = ordinal }

pub same_crossing : (at : Crossing) (ordinal : ℕ) → at.ordinal ≡ ordinal → Some at ≡ Some (at_ordinal at ordinal)
same_crossing at ordinal is = ap (λ (o : ℕ). Some (at_ordinal at o)) is

module _ {F D : Type 0} (core : CoreState F D) where
  pub meets_call : (by : Option Crossings) (kind : Kind) (at : Crossing) → IfSome by (RunsFor core) → next_if kind by ≡ Some at → (of : HasCall core at.caller) × (at.ordinal ≡ of.flight.ordinal)
  meets_call None kind at runs is = cc
  meets_call (Some by) kind at runs is =
      let same : next_of kind by ≡ at = same_Some (next_of kind by) at is in
      subst (λ (made : Crossing). (of : HasCall core made.caller) × (made.ordinal ≡ of.flight.ordinal)) same (runs.of.0, runs.ordinal)

  declared_of : (by : Option Crossings) (kind : Kind) → IfSome by (RunsFor core) → length core.callers ≡ length core.config.callers → IfSome (caller_of (counted_if kind by)) (λ caller. caller < length core.config.callers)
  declared_of None kind runs same = tt
  declared_of (Some by) kind runs same = let low = slice_get_within core.callers by.caller runs.of.0.mine runs.of.0.here in omega (arith, low, same)

  pub declared_by : (by now : Option Crossings) (kind : Kind) (caller : Option ℕ) → IfSome by (RunsFor core) → length core.callers ≡ length core.config.callers → now ≡ counted_if kind by → caller ≡ caller_of now
      → IfSome caller (λ at. at < length core.config.callers)
  declared_by by now kind caller runs same is_now is =
      subst (λ (o : Option ℕ). IfSome o (λ at. at < length core.config.callers)) (sym (is ∙ ap caller_of is_now)) (declared_of by kind runs same)

  -- after a fault the next step drops the dirty pages
  pub drops_next : (new : CoreState F D) (caller ordinal : ℕ) (kind : Kind) (nth : ℕ) (strokes : List Stroke) → new ≡ with_room (striking_again core caller ordinal kind nth strokes) new → phase_now new ≡ phase.Drop
  drops_next new caller ordinal kind nth strokes event = ap (λ (c : CoreState F D). phase_of c.stage (nat_lt 0 (insiders new.callers)) (length new.journal.oplog)) event

  pub one_more : (new : CoreState F D) (caller ordinal : ℕ) (kind : Kind) (nth : ℕ) (strokes : List Stroke) (number : ℕ) → number ≡ length core.journal.records + 1
      → new ≡ with_room (striking_again core caller ordinal kind nth strokes) new → number ≡ length new.journal.records
  one_more new caller ordinal kind nth strokes number is event =
      let longer : length new.journal.records ≡ length core.journal.records + 1 = ap (λ (c : CoreState F D). length c.journal.records) event ∙ length-append core.journal.records _ in
      is ∙ sym longer
