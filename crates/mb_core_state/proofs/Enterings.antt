-- A call in flight waits on, and another one begins.
use Rattle.std.proofs.Common.{◌≡◌, ◌≤◌, ◌∙◌, ℕ, zero, suc, List, [], ◌∷◌, false, true, Option, None, Some, IsSome, Result, Ok, Err, OnErr, OnOk, IfOk, slice_get, slice_set, refl, ap, sym, subst, arith}
use Rattle.std.proofs.lemmas.Option.{same_Some}
use Rattle.mb_kinds.specs.declared.calls.Call.{Call}
use Rattle.mb_kinds.specs.declared.entries.Flight.{Flight}
use Rattle.mb_kinds.specs.declared.faults.Ticket.{Ticket}
use Rattle.mb_kinds.specs.declared.replies.Reply.{Reply}
use Rattle.mb_cache.specs.Stamps.{stamp_of}
use Rattle.mb_cache.specs.State.{CacheState}
use Rattle.mb_journal.specs.Faults.{TellsTwice}
use Rattle.mb_journal.specs.Room.{HasEntryRoom, KeepsRoom}
use Rattle.mb_core_spec.specs.Callers.{total}
use Rattle.mb_core_spec.specs.Events.{GivesBack, Leaves, answered_by, begins, entering, with_room}
use Rattle.mb_core_spec.specs.Flights.{is_pin}
use Rattle.mb_core_spec.specs.State.{CallerState, CoreState}
use Rattle.mb_core_state.specs.Entering.{GoesIn, GoesInside, IsGivenUp, begun_if, flight_if, flight_of, reserved_by, waiting, waiting_if, with_call}
use Rattle.mb_core_state.specs.Rooms.{HasPins}

stays_if : {F D : Type 0} (core : CoreState F D) (caller : ℕ) (mine : CallerState) (given : Call) (flying : Option Flight) → IsSome flying → waiting_if core caller mine given flying ≡ core
stays_if core caller mine given None some = absurd (let wrong : false ≡ true = some in cc)
stays_if core caller mine given (Some flight) some = refl

pub waiting_stays : {F D : Type 0} (core : CoreState F D) (caller : ℕ) (mine : CallerState) (given : Call) → IsSome mine.flight → waiting core caller mine given ≡ core
waiting_stays core caller mine given some = stays_if core caller mine given mine.flight some

-- ---- what waiting leaves of a caller

pub set_here : (callers : List CallerState) (at : ℕ) (old new : CallerState) → slice_get callers at ≡ Some old → slice_get (slice_set callers at new) at ≡ Some new
set_here [] at old new has = absurd (let no : None ≡ Some old = has in cc)
set_here (one ∷ callers) zero old new has = refl
set_here (one ∷ callers) (suc at) old new has = set_here callers at old new has

here_if : {F D : Type 0} (core : CoreState F D) (caller : ℕ) (mine : CallerState) (given : Call) (flying : Option Flight) → slice_get core.callers caller ≡ Some mine
    → slice_get (waiting_if core caller mine given flying).callers caller ≡ Some (begun_if core.config.start core.callers mine given flying)
here_if core caller mine given None here = set_here core.callers caller mine (begins core.config.start core.callers mine given) here
here_if core caller mine given (Some flight) here = here

flies_if : (start : ℕ) (callers : List CallerState) (mine : CallerState) (given : Call) (flying : Option Flight) → mine.flight ≡ flying → (begun_if start callers mine given flying).flight ≡ Some (flight_if start callers mine given flying)
flies_if start callers mine given None is = refl
flies_if start callers mine given (Some flight) is = is

undo_if : (start : ℕ) (callers : List CallerState) (mine : CallerState) (given : Call) (flying : Option Flight) → (begun_if start callers mine given flying).undo ≡ mine.undo
undo_if start callers mine given None = refl
undo_if start callers mine given (Some flight) = refl

cache_if : {F D : Type 0} (core : CoreState F D) (caller : ℕ) (mine : CallerState) (given : Call) (flying : Option Flight) → (waiting_if core caller mine given flying).cache ≡ core.cache
cache_if core caller mine given None = refl
cache_if core caller mine given (Some flight) = refl

module _ {F D : Type 0} (old mid : CoreState F D) (caller : ℕ) (mine : CallerState) (given : Call) (here : slice_get old.callers caller ≡ Some mine) (waits : mid ≡ with_room (waiting old caller mine given) mid) where
  pub call_here : slice_get mid.callers caller ≡ Some (with_call old mine given)
  call_here = ap (λ (core : CoreState F D). slice_get core.callers caller) waits ∙ here_if old caller mine given mine.flight here

  pub call_flies : (with_call old mine given).flight ≡ Some (flight_of old mine given)
  call_flies = flies_if old.config.start old.callers mine given mine.flight refl

  same_pins : mid.cache.pins ≡ old.cache.pins
  same_pins = ap (λ (core : CoreState F D). core.cache.pins) waits ∙ ap (λ (cache : CacheState D). cache.pins) (cache_if old caller mine given mine.flight)

  same_undo : (with_call old mine given).undo ≡ mine.undo
  same_undo = undo_if old.config.start old.callers mine given mine.flight

  pub pins_there : HasPins old caller → HasPins mid caller
  pins_there has other block at =
      let is : with_call old mine given ≡ other = same_Some (with_call old mine given) other (sym call_here ∙ at) in
      let undo : other.undo ≡ mine.undo = ap (λ (state : CallerState). state.undo) (sym is) ∙ same_undo in
      subst (λ steps. total (is_pin block) steps ≤ stamp_of mid.cache.pins block) (sym undo) (subst (λ pins. total (is_pin block) mine.undo ≤ stamp_of pins block) (sym same_pins) (has mine block here))

  pub given_up : (new : CoreState F D) (answer : Reply) → KeepsRoom old.journal.room mid.journal.room → 8 ≤ mid.journal.room.history → Leaves mid.journal.room new.journal.room 0 1
      → (new ≡ with_room (answered_by mid caller (with_call old mine given) (flight_of old mine given) answer new.cache.pins) new) × GivesBack mid.cache.pins new.cache.pins (with_call old mine given).undo
      → IsGivenUp old new caller mine given answer
  given_up new answer kept history left done = record {
    waits = mid.journal.room;
    space = record { kept = kept; history = history };
    left = left;
    event = done.0 ∙ ap (λ (core : CoreState F D). with_room (answered_by core caller (with_call old mine given) (flight_of old mine given) answer new.cache.pins) new) waits;
    back = subst (λ pins. GivesBack pins new.cache.pins mine.undo) same_pins (subst (λ steps. GivesBack mid.cache.pins new.cache.pins steps) same_undo done.1);
  }

-- the caller that could not go in is as it was
pub same_callers : {F D : Type 0} (held old : CoreState F D) (callers : List CallerState) → callers ≡ held.callers → held ≡ old → record held { callers = callers } ≡ old
same_callers {F} {D} held old callers same is = ap (λ (all : List CallerState). record held { callers = all }) same ∙ is

pub on_err_all : {A B : Type 0} (result : Result A B) (P : Type 0) → P → OnErr result P
on_err_all (Ok value) P holds = tt
on_err_all (Err error) P holds = holds

pub on_ok_all : {A B : Type 0} (result : Result A B) (P : Type 0) → P → OnOk result P
on_ok_all (Ok value) P holds = holds
on_ok_all (Err error) P holds = tt

pub some_is : (flying : Option Flight) (flight : Flight) → flying ≡ Some flight → IsSome flying
some_is flying flight is = subst (λ (o : Option Flight). IsSome o) (sym is) refl

-- a call in flight waits on, with more room
pub waits_on : {F D : Type 0} (old new : CoreState F D) (caller : ℕ) (mine : CallerState) (given : Call) → IsSome mine.flight → new ≡ with_room old new → new ≡ with_room (waiting old caller mine given) new
waits_on {F} {D} old new caller mine given some same = same ∙ ap (λ (core : CoreState F D). with_room core new) (sym (waiting_stays old caller mine given some))

-- ---- a call that goes inside

pub if_ok : {A B : Type 0} (result : Result A B) (P Q : A → Type 0) → ((value : A) → P value → Q value) → IfOk result P → IfOk result Q
if_ok (Ok value) P Q then_q holds = then_q value holds
if_ok (Err error) P Q then_q holds = tt

module _ {F D : Type 0} (old new : CoreState F D) (caller : ℕ) (mine : CallerState) (given : Call) (ticket : Ticket) (reserved : Option ℕ) where
  again_if : (flying : Option Flight) → IsSome flying → ((flight : Flight) → flying ≡ Some flight → GoesInside old new caller mine flight ticket reserved)
      → GoesInside old new caller (begun_if old.config.start old.callers mine given flying) (flight_if old.config.start old.callers mine given flying) ticket reserved
  again_if None some goes = absurd (let wrong : false ≡ true = some in cc)
  again_if (Some flight) some goes = goes flight refl

  pub goes_again : IsSome mine.flight → ((flight : Flight) → mine.flight ≡ Some flight → GoesInside old new caller mine flight ticket reserved) → GoesInside old new caller (with_call old mine given) (flight_of old mine given) ticket reserved
  goes_again some goes = again_if mine.flight some goes

  pub goes_new : mine.flight ≡ None → GoesInside old new caller (begins old.config.start old.callers mine given) (flight_if old.config.start old.callers mine given None) ticket reserved
      → GoesInside old new caller (with_call old mine given) (flight_of old mine given) ticket reserved
  goes_new none goes = subst (λ (flying : Option Flight). GoesInside old new caller (begun_if old.config.start old.callers mine given flying) (flight_if old.config.start old.callers mine given flying) ticket reserved) (sym none) goes

  -- after the room was made
  pub goes_in_after : (mid : CoreState F D) → mid ≡ with_room old mid → reserved ≡ reserved_by old.tables.sessions caller given → GoesInside mid new caller (with_call mid mine given) (flight_of mid mine given) ticket reserved
      → HasEntryRoom mid.journal.room → KeepsRoom old.journal.room mid.journal.room → Leaves mid.journal.room new.journal.room 1 0 → GoesIn old new caller mine given ticket
  goes_in_after mid same reserved_is goes has kept left =
      let h : GoesInside (with_room old mid) new caller (with_call (with_room old mid) mine given) (flight_of (with_room old mid) mine given) ticket reserved =
      subst (λ (core : CoreState F D). GoesInside core new caller (with_call core mine given) (flight_of core mine given) ticket reserved) same goes in
      record {
        inside = record {
          ticket_is = h.ticket_is;
          event = h.event ∙ ap (λ r. with_room (entering old caller (with_call old mine given) (flight_of old mine given) ticket r) new) reserved_is;
        };
        room = record {
          entries = omega (arith, kept.history, left.history);
          history = omega (arith, has.history, left.history);
          records = omega (arith, has.records, left.records);
          trail = omega (arith, has.trail, left.trail);
        };
      }

-- of the records that are held
pub twice_of : {F D : Type 0} (held old : CoreState F D) (caller ordinal number : ℕ) (result : Option (ℕ × ℕ)) → held ≡ old → ordinal ≡ number → TellsTwice held.journal.records caller ordinal result
    → TellsTwice old.journal.records caller number result
twice_of {F} {D} held old caller ordinal number result same is tells =
    subst (λ n. TellsTwice old.journal.records caller n result) is (subst (λ (core : CoreState F D). TellsTwice core.journal.records caller ordinal result) same tells)

-- a call that begins goes inside with a copy of it that was made, from a core that is the same
pub goes_new_with : {F D : Type 0} (old core new : CoreState F D) (caller : ℕ) (given copy : Call) (ticket : Ticket) (reserved : Option ℕ) → core ≡ old → copy ≡ given
    → ((mine : CallerState) → slice_get old.callers caller ≡ Some mine → mine.flight ≡ None)
    → ((mine : CallerState) → slice_get core.callers caller ≡ Some mine → GoesInside core new caller (begins core.config.start core.callers mine copy) (flight_if core.config.start core.callers mine copy None) ticket reserved)
    → (mine : CallerState) → slice_get old.callers caller ≡ Some mine → GoesInside old new caller (with_call old mine given) (flight_of old mine given) ticket reserved
goes_new_with {F} {D} old core new caller given copy ticket reserved same copied none goes =
    subst (λ (start : CoreState F D). (mine : CallerState) → slice_get start.callers caller ≡ Some mine → GoesInside start new caller (with_call start mine given) (flight_of start mine given) ticket reserved) same (λ mine here.
    subst (λ (now : Call). GoesInside core new caller (with_call core mine now) (flight_of core mine now) ticket reserved) copied
    (goes_new core new caller mine copy ticket reserved (none mine (subst (λ (start : CoreState F D). slice_get start.callers caller ≡ Some mine) same here)) (goes mine here)))
