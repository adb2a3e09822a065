-- What is known of the parts that a core holds, as of the core.
use Rattle.std.proofs.Common.{◌≡◌, ◌∙◌, ℕ, List, Option, None, Some, IsSome, slice_get, sym, ap, subst}
use Rattle.std.proofs.lemmas.Option.{same_Some}
use Rattle.mb_kinds.specs.Image.{Image}
use Rattle.mb_cache.specs.State.{CacheState, Flushes}
use Rattle.mb_cache.specs.declared.answers.Flushed.{Flushed}
use Rattle.mb_kinds.specs.declared.faults.Ticket.{Ticket}
use Rattle.mb_core_spec.specs.Events.{ended, leaving, marked, with_room}
use Rattle.mb_core_spec.specs.State.{CallerState, CoreState, JournalState}
use Rattle.mb_core_spec.specs.declared.steps.Step.TheVariants as step

pub flushes_held : {F D : Type 0} (told : D → Option Image) (faults : D → ℕ) (held old : CoreState F D) (new : CacheState D) (result : Flushed) → held ≡ old
    → Flushes told faults held.cache new result → Flushes told faults old.cache new result
flushes_held {F} {D} told faults held old new result same flushes = subst (λ (core : CoreState F D). Flushes told faults core.cache new result) same flushes

-- the state that is lent is the one that was asked for
pub some_flight : (callers : List CallerState) (at : ℕ) (mine lent : CallerState) → slice_get callers at ≡ Some mine → slice_get callers at ≡ Some lent → IsSome mine.flight → IsSome lent.flight
some_flight callers at mine lent here there some = subst (λ (state : CallerState). IsSome state.flight) (same_Some mine lent (sym here ∙ there)) some

-- what is there is not lacking
pub some_is : {A : Type 0} (one other : Option A) → IsSome one → one ≡ other → other ≡ None → ⊥
some_is {A} one other some same none = absurd (let there = subst (λ (o : Option A). IsSome o) (same ∙ none) some in cc)

-- a call that ended has left once its step of the trace is there
pub left_after : {F D : Type 0} (old held : CoreState F D) (caller : ℕ) (mine : CallerState) (ticket : Ticket) (journal : JournalState) → held ≡ with_room (ended old caller mine held.cache.pins) held
    → journal ≡ record (marked held.journal (step.Left ticket)) { room = journal.room } → record held { journal = journal } ≡ with_room (leaving old caller mine ticket held.cache.pins) (record held { journal = journal })
left_after {F} {D} old held caller mine ticket journal event marks =
    ap (λ (core : CoreState F D). record core { journal = journal }) event
    ∙ ap (λ (made : JournalState). record (with_room (ended old caller mine held.cache.pins) held) { journal = made }) (marks ∙ ap (λ (core : CoreState F D). record (marked core.journal (step.Left ticket)) { room = journal.room }) event)
