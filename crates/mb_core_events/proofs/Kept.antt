-- A core in order stays one where an event's equation does, and where only room was taken.
use Rattle.std.proofs.Common.{ℕ, ◌≤◌, ◌≡◌, Option, sym, subst, arith}
use Rattle.mb_kinds.specs.Image.{Image}
use Rattle.mb_cache.specs.Pages.{under}
use Rattle.mb_core_spec.specs.Bounds.{HasMarks}
use Rattle.mb_core_spec.specs.Callers.{insiders}
use Rattle.mb_core_spec.specs.Events.{roomy, with_room}
use Rattle.mb_core_spec.specs.Right.{Right}
use Rattle.mb_core_spec.specs.State.{CoreState, JournalRoom}
use Rattle.mb_core_spec.specs.declared.stages.Stage.{Stage}
use Rattle.mb_core_spec.specs.declared.stages.Stage.TheVariants as stage
use Rattle.mb_core_order.proofs.Orderlies.{numbered_rest}
use Rattle.mb_core_order.proofs.Rights.{holds_roomy}
use Rattle.mb_core_order.proofs.Rooms.{right_roomy}
use Rattle.mb_journal.specs.Room.{KeepsRoom}

pub carries : {F D : Type 0} (told : D → Option Image) (faults : D → ℕ) (event new : CoreState F D) → new ≡ with_room event new → Right told faults (roomy event new.journal.room) → Right told faults new
carries told faults event new is right = subst (Right told faults) (sym is) (right_roomy told faults (roomy event new.journal.room) right new.cache.room)

-- ---- room alone

pub marks_stay : (now : Stage) (inside : ℕ) (old room : JournalRoom) → old.trail ≤ room.trail → old.records ≤ room.records → HasMarks now inside old → HasMarks now inside room
marks_stay stage.Running inside old room trail records has = λ some. (let both = has some in let t = both.0 in let n = both.1 in (omega (arith, t, trail), omega (arith, n, records)))
marks_stay stage.Struck inside old room trail records has = omega (arith, has, trail)
marks_stay stage.Again inside old room trail records has = omega (arith, has, trail)
marks_stay stage.Dropped inside old room trail records has = tt
marks_stay stage.Remounted inside old room trail records has = tt
marks_stay (stage.Restored done) inside old room trail records has = tt
marks_stay stage.Failed inside old room trail records has = tt

pub right_room : {F D : Type 0} (told : D → Option Image) (faults : D → ℕ) (core : CoreState F D) → Right told faults core → (room : JournalRoom) → core.journal.room.history ≤ room.history → HasMarks core.stage (insiders core.callers) room
    → Right told faults (roomy core room)
right_room told faults core r room history marks =
    let o = r.orderly in
    let t = o.trailed in
    record {
      holds = λ first image tree began now volume. holds_roomy tree first (under image core.cache.sealed) core (r.holds first image tree began now volume) room;
      seen = r.seen;
      tells = r.tells;
      orderly = record {
        numbered = numbered_rest core.config core.journal core.callers core.stage core.journal.trail core.journal.oplog core.journal.sealed_at room o.numbered;
        trailed = record { watch = t.watch; folded = t.folded; places = t.places; mode = t.mode; struck = t.struck; covers = t.covers; sealed = t.sealed; seated = t.seated; plain = t.plain };
        flying = o.flying;
        answers = o.answers;
        unwound = o.unwound;
        copies = o.copies;
        undoable = o.undoable;
        pinned = o.pinned;
        floor = o.floor;
        fresh = o.fresh;
        incarnation = o.incarnation;
        marks = marks;
        entries = (let fits = o.entries in omega (arith, fits, history));
        stamps = o.stamps;
        logged = o.logged;
        sessions = o.sessions;
        saved = o.saved;
        dropped = o.dropped;
        within = o.within;
        bounds = o.bounds;
        changes = o.changes;
      };
      later = r.later;
      devices = r.devices;
    }

-- nothing happened, and no room is lost
pub right_more : {F D : Type 0} (told : D → Option Image) (faults : D → ℕ) (core : CoreState F D) → Right told faults core → (new : CoreState F D) → new ≡ with_room core new → KeepsRoom core.journal.room new.journal.room → Right told faults new
right_more told faults core r new is kept =
    carries told faults core new is (right_room told faults core r new.journal.room kept.history (marks_stay core.stage (insiders core.callers) core.journal.room new.journal.room kept.trail kept.records r.orderly.marks))
