-- A whole call: how it begins, and how it ends for want of memory.
use Rattle.std.proofs.Common.{◌≡◌, ℕ, ◌+◌, ◌<◌, Bool, refl, ap, sym, subst, ◌∙◌, arith, Option, None, Some}
use Rattle.mb_edge.specs.declared.crossings.Crossing.{Crossing}
use Rattle.mb_kinds.specs.declared.calls.Call.{Call}
use Rattle.mb_kinds.specs.declared.entries.Flight.{Flight}
use Rattle.mb_kinds.specs.declared.replies.Reply.{Reply}
use Rattle.mb_run.proofs.Entered.{no_counts}
use Rattle.mb_run.specs.Sights.{IsWaiting}
use Rattle.mb_turn.specs.Passes.{Known}
use Rattle.mb_volume.specs.Attempts.{new_attempt}
use Rattle.mb_volume.specs.Called.{IsAnsweredWith, CallIsGivenUp, Suffers}
use Rattle.mb_volume.specs.Parts.{Part}
use Rattle.mb_volume.specs.Passing.{part_in}
use Rattle.mb_volume.specs.Underway.{AddsEntryIf, IsBegunIf, FlightIsCall, IsLeftOff, StruckSoFar, IsCallUnderway, FlightHasEntry, FlightLacksEntry, LeadsCallOn}
use Rattle.mb_volume.specs.declared.attempt.Attempt.{Attempt}
use Rattle.mb_volume.specs.declared.events.Came.TheVariants as came
use Rattle.mb_volume.specs.Shared.{Shared}
use Rattle.mb_volume.proofs.Struck.{struck_none, suffers_of}

-- a call that is about to begin
pub underway_new : (call : Call) (test : Option (Crossing → Bool)) (from : Part) (caller begun : ℕ) → caller < from.config.callers → from.seat.begun < from.config.most → from.seat.flight ≡ None → begun ≡ from.seat.begun
    → IsCallUnderway call test from from (new_attempt caller begun)
underway_new call test from caller begun low below free same = record {
  config = refl;
  within = low;
  most = below;
  ordinal = ap (λ n. n + 1) same;
  counts = no_counts (new_attempt caller begun).crossings;
  begun = subst (IsBegunIf caller call from from) (sym free) (refl, refl, refl);
  stands = tt;
  tables = tt;
  struck = struck_none test (new_attempt caller begun).crossings from.struck;
  once = λ has. absurd (subst FlightHasEntry free has);
}

module _ (call : Call) (test : Option (Crossing → Bool)) (from mid : Part) (attempt : Attempt) (u : IsCallUnderway call test from mid attempt) (lacks : FlightLacksEntry mid.seat.flight) where
  begun_if : (flight : Option Flight) → mid.seat.flight ≡ flight → IsBegunIf attempt.crossings.caller call from mid flight
  begun_if flight here = subst (IsBegunIf attempt.crossings.caller call from mid) here u.begun

  lacks_if : (flight : Option Flight) → mid.seat.flight ≡ flight → FlightLacksEntry flight
  lacks_if flight here = subst FlightLacksEntry here lacks

  waits_if : (flight : Option Flight) → mid.seat.flight ≡ flight → mid.seat.begun ≡ attempt.crossings.ordinal → IsWaiting mid.seat
  waits_if None here last = absurd (let is = begun_if None here in omega (arith, is.0, u.ordinal, last))
  waits_if (Some flight) here last = (flight, here, lacks_if (Some flight) here)

  pub waits_last : mid.seat.begun ≡ attempt.crossings.ordinal → IsWaiting mid.seat
  waits_last last = waits_if mid.seat.flight refl last

  module _ (now : Part) (left : IsLeftOff attempt.crossings.ordinal mid now) where
    suffers : Suffers test attempt.crossings.caller from now
    suffers = suffers_of test attempt.crossings from now u.ordinal (subst (StruckSoFar test attempt.crossings from.struck) (sym left.struck) u.struck)

    given_if : (flight : Option Flight) → mid.seat.flight ≡ flight → CallIsGivenUp test attempt.crossings.caller from now
    given_if None here =
        let is = begun_if None here in
        let first : mid.seat.begun ≡ from.seat.begun = is.0 in
        record {
          entries = left.entries ∙ is.1;
          free = left.still (λ last. absurd (omega (arith, first, u.ordinal, last))) ∙ here;
          begun = omega (arith, left.begun, first);
          once = omega (arith, left.begun, first);
          suffers = suffers;
          calm = λ same. left.struck ∙ is.2;
        }
    given_if (Some flight) here =
        let is : FlightIsCall attempt.crossings.caller call from mid flight = begun_if (Some flight) here in
        let none : mid.entries ≡ from.entries = subst (λ b. AddsEntryIf b attempt.crossings.caller (from.seat.begun + 1) call from.entries mid.entries) (lacks_if (Some flight) here) is.entered in
        record {
          entries = left.entries ∙ none;
          free = left.free (is.begun ∙ sym u.ordinal);
          begun = omega (arith, left.begun, is.begun);
          once = omega (arith, left.begun, is.begun);
          suffers = suffers;
          calm = λ same. absurd (omega (arith, left.begun, is.begun, same));
        }

    pub given_up : CallIsGivenUp test attempt.crossings.caller from now
    given_up = given_if mid.seat.flight refl

-- ---- in the pass

module _ {F D : Type 0} (call : Call) (test : Option (Crossing → Bool)) (old : Known (Shared F D)) where
  pub call_begins : (new : Known (Shared F D)) (attempt : Attempt) → part_in new ≡ part_in old → old.caller < (part_in old).config.callers → (part_in old).seat.begun < (part_in old).config.most → (part_in old).seat.flight ≡ None
      → attempt ≡ new_attempt old.caller (part_in old).seat.begun → IsCallUnderway call test (part_in old) (part_in new) attempt
  call_begins new attempt same low below free is =
      subst (λ (p : Part). IsCallUnderway call test (part_in old) p attempt) (sym same) (subst (λ (a : Attempt). IsCallUnderway call test (part_in old) (part_in old) a) (sym is) (underway_new call test (part_in old) old.caller (part_in old).seat.begun low below free refl))

  module _ (mid new : Known (Shared F D)) (before after : Attempt) (u : IsCallUnderway call test (part_in old) (part_in mid) before) (same : before.crossings.caller ≡ old.caller) where
    pub call_answered : (answer : Reply) → LeadsCallOn call test (part_in mid) (part_in new) before after (came.Answered answer) → IsAnsweredWith call test old.caller (part_in old) (part_in new) answer
    call_answered answer leads = subst (λ n. IsAnsweredWith call test n (part_in old) (part_in new) answer) same (leads (part_in old) u)

    pub call_waits : LeadsCallOn call test (part_in mid) (part_in new) before after came.NoMemory → (part_in new).seat.begun ≡ after.crossings.ordinal → IsWaiting (part_in new).seat
    call_waits leads = let is = leads (part_in old) u in waits_last call test (part_in old) (part_in new) after is.0 is.1

    pub call_given_up : (last : Known (Shared F D)) → after.crossings.caller ≡ before.crossings.caller → LeadsCallOn call test (part_in mid) (part_in new) before after came.NoMemory → IsLeftOff after.crossings.ordinal (part_in new) (part_in last)
        → CallIsGivenUp test old.caller (part_in old) (part_in last)
    call_given_up last still leads left =
        let is = leads (part_in old) u in
        subst (λ n. CallIsGivenUp test n (part_in old) (part_in last)) (still ∙ same) (given_up call test (part_in old) (part_in new) after is.0 is.1 (part_in last) left)
