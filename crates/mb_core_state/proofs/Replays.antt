-- An operation that was done again is the core's event.
use Rattle.std.proofs.Common.{◌≡◌, ◌∙◌, ◌≤◌, ◌<◌, ◌+◌, ◌-◌, ◌^◌, ℕ, List, Option, None, Some, IsSome, option_map, slice_get, refl, ap, sym, subst, arith}
use Rattle.mb_kinds.specs.Image.{Image}
use Rattle.mb_edge.specs.Damage.{OpenCounts}
use Rattle.mb_kinds.specs.Changed.{changed}
use Rattle.mb_oplog.specs.declared.oplogs.Logged.{Logged}
use Rattle.mb_cache.specs.CacheLaws.{InstallRaises, InstalledReads}
use Rattle.mb_cache.specs.Pages.{PageList, installed, under}
use Rattle.mb_cache.specs.Stamps.{Stamps, raised_by, stamp_of}
use Rattle.mb_session.specs.OpenFiles.{TellsCounts}
use Rattle.mb_tables.specs.Follows.{followed}
use Rattle.mb_tables.specs.TableLaws.{CountsFollowReplay}
use Rattle.mb_core_spec.specs.Events.{with_room}
use Rattle.mb_core_spec.specs.Recovery.{replaying}
use Rattle.mb_core_spec.specs.State.{CoreState}
use Rattle.mb_core_spec.specs.declared.stages.Stage.TheVariants as stage
use Rattle.mb_core_state.specs.Redoing.{IsReplayed}
use Rattle.mb_core_state.specs.StateLaws.{IsReplayEvent}

module _ {F D : Type 0} (told : D → Option Image) (faults : D → ℕ) (reads : InstalledReads) (raises : InstallRaises) (follows : CountsFollowReplay) (old new : CoreState F D) (done : ℕ) (logged : Logged) (is : IsReplayed told old new done logged) where
  current_is : new.cache.current ≡ installed old.cache.current is.changes
  current_is = ap (λ (core : CoreState F D). core.cache.current) is.event

  stamps_are : new.cache.stamps ≡ raised_by old.cache.stamps is.changes
  stamps_are = ap (λ (core : CoreState F D). core.cache.stamps) is.event

  opens_are : new.tables.opens ≡ followed old.tables.opens logged.op logged.pick
  opens_are = ap (λ (core : CoreState F D). core.tables.opens) is.event

  abbrev made : PageList → Stamps → OpenCounts → CoreState F D
  made current stamps opens = with_room (replaying old (record new.cache { current = current; stamps = stamps }) opens done) new

  event_is : new ≡ with_room (replaying old new.cache new.tables.opens done) new
  event_is = is.event ∙ sym (ap (λ current. made current new.cache.stamps new.tables.opens) current_is ∙ ap (λ stamps. made (installed old.cache.current is.changes) stamps new.tables.opens) stamps_are
      ∙ ap (made (installed old.cache.current is.changes) (raised_by old.cache.stamps is.changes)) opens_are)

  rises_at : ((block : ℕ) → stamp_of old.cache.stamps block < 2 ^ 64 - 1) → (block : ℕ) (found : Option (List ℕ)) → changed is.changes block ≡ found → stamp_of (raised_by old.cache.stamps is.changes) block ≤ stamp_of old.cache.stamps block + 1
  rises_at few block None none = let same = (raises old.cache.stamps is.changes block is.are).0 none in omega (arith, same)
  rises_at few block (Some bytes) some = let more = (raises old.cache.stamps is.changes block is.are).1 (subst (λ (o : Option (List ℕ)). IsSome o) (sym some) refl) (few block) in omega (arith, more)

  pub replay_event : old.stage ≡ stage.Restored done → slice_get old.journal.oplog done ≡ Some logged → ((block : ℕ) → stamp_of old.cache.stamps block < 2 ^ 64 - 1) → told new.cache.disk ≡ told old.cache.disk
      → faults old.cache.disk ≤ faults new.cache.disk → old.journal.room.history ≤ new.journal.room.history → IsReplayEvent told faults old new done logged
  replay_event restored next few same later entries = record {
    event = event_is;
    may = record {
      restored = restored;
      next = next;
      again = record {
        pages = is.acts.pages;
        changes = is.changes;
        picked = is.acts.picked;
        part = λ image tells. is.acts.part _ (ap (option_map (λ (i : Image). under (under i old.cache.sealed) old.cache.current)) tells);
        acts = λ image tree tells volume. is.acts.acts _ tree (ap (option_map (λ (i : Image). under (under i old.cache.sealed) old.cache.current)) tells) volume;
        view = λ base. ap (under base) current_is ∙ reads base old.cache.current is.changes is.are;
        counted = λ held after counts most carried. subst (λ (opens : OpenCounts). TellsCounts opens after.opens) (sym opens_are) (follows old.tables.opens logged held after counts most carried);
      };
      rises = λ block. subst (λ (stamps : Stamps). stamp_of stamps block ≤ stamp_of old.cache.stamps block + 1) (sym stamps_are) (rises_at few block (changed is.changes block) refl);
      same = same;
      later = later;
      entries = entries;
    };
  }
