-- An operation of the log is done again.
use Rattle.std.proofs.Common.{◌<◌, ◌≡◌, ◌∙◌, ℕ, List, false, true, Option, None, Some, IfSome, IsSome, Result, Ok, Err, OnOk, refl, slice_get, ap, sym, subst, arith}
use Rattle.mb_kinds.specs.Image.{Image}
use Rattle.mb_edge.specs.Damage.{OpenCounts}
use Rattle.mb_tree.specs.Sweep.{opens_of_list}
use Rattle.mb_tree.specs.declared.operations.FsOp.TheVariants.{Release}
use Rattle.mb_session.specs.OpenFiles.{TellsCounts}
use Rattle.mb_kinds.specs.Changed.{AreChanges, ChangeList}
use Rattle.mb_oplog.specs.declared.oplogs.Logged.{Logged}
use Rattle.mb_kinds.specs.declared.entries.Flight.{Flight}
use Rattle.mb_kinds.specs.declared.replies.Reply.TheVariants as reply
use Rattle.mb_journal.specs.Room.{KeepsRoom}
use Rattle.mb_core_spec.specs.Events.{GivesBack, Leaves, answered_by, with_room}
use Rattle.mb_core_spec.specs.Numbers.{open_flight}
use Rattle.mb_core_spec.specs.State.{CallerState, CoreState}
use Rattle.mb_core_state.specs.Answers.{with_disk, with_read}
use Rattle.mb_core_state.specs.Opening.{ActsOnNameless}
use Rattle.mb_core_state.specs.Redoing.{ActsSeen, EndsIf, HasOpenRoom, IsReplayed, redoing}

-- what the file system answered, and what it made of the core
pub replayed : {F D : Type 0} (told : D → Option Image) (old mid new : CoreState F D) (done : ℕ) (logged : Logged) (changes : ChangeList) → mid ≡ with_read old mid.cache → new.cache.disk ≡ mid.cache.disk → AreChanges changes
    → ActsSeen told old.cache old.tables.opens logged.op logged.pick changes → new ≡ with_room (redoing mid logged changes done) new → IsReplayed told old new done logged
replayed {F} {D} told old mid new done logged changes rest disk are acts event = record {
  changes = changes;
  are = are;
  acts = acts;
  event = event ∙ ap (λ (core : CoreState F D). with_room (redoing core logged changes done) new) rest ∙ ap (λ (d : D). with_room (redoing (with_disk old d) logged changes done) new) (sym disk);
}

-- ---- the call for which a step was made

module _ {F D : Type 0} (old new : CoreState F D) (caller : ℕ) (mine : CallerState) where
  ends_flying : (flying : Option Flight) → IsSome flying
      → ((flight : Flight) → flying ≡ Some flight → (new ≡ with_room (answered_by old caller mine flight reply.Device new.cache.pins) new) × GivesBack old.cache.pins new.cache.pins mine.undo × Leaves old.journal.room new.journal.room 0 1) → EndsIf old new caller mine flying
  ends_flying None some answered = absurd (let wrong : false ≡ true = some in cc)
  ends_flying (Some flight) some answered = answered flight refl

  pub ends_waiting : open_flight mine.flight ≡ mine.flight → IsSome mine.flight
      → ((flight : Flight) → mine.flight ≡ Some flight → (new ≡ with_room (answered_by old caller mine flight reply.Device new.cache.pins) new) × GivesBack old.cache.pins new.cache.pins mine.undo × Leaves old.journal.room new.journal.room 0 1) → EndsIf old new caller mine (open_flight mine.flight)
  ends_waiting waits some answered = subst (EndsIf old new caller mine) (sym waits) (ends_flying mine.flight some answered)

-- ---- the room for that entry

open_room_if : {F D : Type 0} (core : CoreState F D) (caller : ℕ) (mine : CallerState) (flying : Option Flight) → mine.flight ≡ flying → HasOpenRoom core caller → slice_get core.callers caller ≡ Some mine → IsSome flying → open_flight mine.flight ≡ mine.flight
    → 0 < core.journal.room.history
open_room_if core caller mine None is has here some waits = absurd (let wrong : false ≡ true = some in cc)
open_room_if core caller mine (Some flight) is has here some waits = has mine flight here (waits ∙ is)

pub has_open_room : {F D : Type 0} (core : CoreState F D) (caller : ℕ) (mine : CallerState) → HasOpenRoom core caller → slice_get core.callers caller ≡ Some mine → IsSome mine.flight → open_flight mine.flight ≡ mine.flight → 0 < core.journal.room.history
has_open_room core caller mine has here some waits = open_room_if core caller mine mine.flight refl has here some waits

pub keeps_open_room : {F D : Type 0} (old mid : CoreState F D) (by : Option ℕ) → mid ≡ with_room (with_disk old mid.cache.disk) mid → KeepsRoom old.journal.room mid.journal.room → IfSome by (HasOpenRoom old) → IfSome by (HasOpenRoom mid)
keeps_open_room old mid None same kept has = tt
keeps_open_room {F} {D} old mid (Some caller) same kept has = λ mine flight here waits.
    (let low = has mine flight (sym (ap (λ (core : CoreState F D). slice_get core.callers caller) same) ∙ here) waits in omega (arith, low, kept.history))

-- ---- after the room was made

pub on_ok : {T E : Type 0} (result : Result T E) (P Q : Type 0) → (P → Q) → OnOk result P → OnOk result Q
on_ok (Ok t) P Q then_q h = then_q h
on_ok (Err e) P Q then_q h = h

pub redoing_after : {F D : Type 0} (old mid new : CoreState F D) (logged : Logged) (changes : ChangeList) (done : ℕ) → mid ≡ with_room old mid → new ≡ with_room (redoing mid logged changes done) new → new ≡ with_room (redoing old logged changes done) new
redoing_after {F} {D} old mid new logged changes done same event = event ∙ ap (λ (core : CoreState F D). with_room (redoing core logged changes done) new) same

-- ---- the nameless files

pub nameless_acts : {F D : Type 0} (told : D → Option Image) (held old : CoreState F D) (given inos : List ℕ) (opens : OpenCounts) (changes : ChangeList) → held ≡ old → given ≡ inos → TellsCounts opens (opens_of_list given)
    → ActsSeen told held.cache opens (Release inos) None changes → ActsOnNameless told old.cache inos changes
nameless_acts {F} {D} told held old given inos opens changes same is counted acts = record {
  opens = opens;
  counted = subst (λ list. TellsCounts opens (opens_of_list list)) is counted;
  acts = subst (λ (core : CoreState F D). ActsSeen told core.cache opens (Release inos) None changes) same acts;
}
