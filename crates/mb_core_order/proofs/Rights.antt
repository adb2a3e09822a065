-- Each event keeps a core in order.
use Rattle.std.proofs.Common.{List, [], ◌∷◌, ◌++◌, ℕ, ◌+◌, ◌≡◌, ◌<◌, ◌≤◌, true, false, Option, Some, None, IsSome, length, slice_get, refl, ap, sym, ◌∙◌, subst, arith}
use Rattle.std.proofs.lemmas.List.Sums.{sum_by-append}
use Rattle.std.specs.Prelude.{cond, count_by, if◌then◌else◌}
use Rattle.mb_kinds.specs.declared.replies.Reply.TheVariants as reply
use Rattle.std.proofs.lemmas.Option.{slice_get_within}
use Rattle.mb_kinds.specs.Image.{Image}
use Rattle.mb_kinds.specs.declared.entries.Entry.{Entry}
use Rattle.mb_kinds.specs.declared.entries.Flight.{Flight}
use Rattle.mb_kinds.specs.declared.faults.Kind.{Kind}
use Rattle.mb_kinds.specs.declared.faults.Ticket.{Ticket}
use Rattle.mb_kinds.specs.declared.replies.Reply.{Reply}
use Rattle.mb_edge.specs.declared.strokes.Stroke.{Stroke}
use Rattle.mb_folds.specs.Folded.{folded}
use Rattle.mb_tree.specs.History.{after, after_first}
use Rattle.mb_tree.specs.Opening.{opening}
use Rattle.mb_tree.specs.Sessions.{counts, with_change}
use Rattle.mb_tree.specs.Volume.{IsVolume}
use Rattle.mb_tree.specs.declared.seats.Seat.{Seat}
use Rattle.mb_tree.specs.declared.trees.Tree.{Tree}
use Rattle.mb_cache.specs.Stamps.{Stamps}
use Rattle.mb_cache.specs.CacheLaws.{Moves}
use Rattle.mb_cache.specs.Pages.{PageList, under}
use Rattle.mb_oplog.specs.declared.oplogs.Logged.{Logged}
use Rattle.mb_core_spec.specs.Histories.{picked_ops}
use Rattle.mb_core_spec.specs.declared.ready.Ready.{Ready}
use Rattle.mb_core_spec.specs.declared.stages.Stage.{Stage}
use Rattle.mb_core_spec.specs.declared.stages.Stage.TheVariants as stage
use Rattle.mb_tree.proofs.HistoryOperations.{few_opens}
use Rattle.mb_core_order.proofs.Beginning.{each_set}
use Rattle.mb_core_order.proofs.Copies.{finish_performs, true_moves}
use Rattle.mb_core_order.proofs.Enterings.{orderly_logs}
use Rattle.mb_core_order.proofs.Images.{holds_drops, holds_flushed, holds_logs, holds_remounts, holds_resumes, holds_seals, holds_strikes}
use Rattle.mb_core_order.proofs.Keepings.{no_true, none_true}
use Rattle.mb_core_order.proofs.Logs.{folds_short}
use Rattle.mb_core_order.proofs.Numbers.{follows_all}
use Rattle.mb_core_order.proofs.Orderlies.{inside_at, orderly_drops, orderly_flushes, orderly_remounts, orderly_resumes, orderly_seals, orderly_strikes}
use Rattle.mb_tree.specs.CarriedOut.{tree_and_opens}
use Rattle.mb_core_spec.specs.Callers.{EachCaller, insiders}
use Rattle.mb_cache.specs.Kept.{CopyList, shown}
use Rattle.mb_core_spec.specs.Copies.{AreFresh, AreTrue, KeepsTables, TableCopy, TablesAgree, TablesAreFresh}
use Rattle.mb_session.specs.OpenFiles.{TellsCounts}
use Rattle.mb_core_spec.specs.Events.{GivesBack, entry_for, logging, roomy}
use Rattle.mb_core_spec.specs.Faults.{FewDevices, is_device}
use Rattle.mb_core_spec.specs.Numbers.{open_flight}
use Rattle.mb_core_spec.specs.Performed.{IsPerformed, IsReadyFor}
use Rattle.mb_core_spec.specs.Recovery.{dropping, flushing, remounting, resuming, sealing, striking}
use Rattle.mb_core_spec.specs.Right.{IsOrderly, Right}
use Rattle.mb_core_spec.specs.Seen.{Holds, IsHeldBy, ViewStands}
use Rattle.mb_core_spec.specs.State.{CallerState, CoreState, JournalRoom}
use Rattle.mb_core_spec.specs.Flights.{IsMine}
use Rattle.mb_core_spec.specs.Owed.{Installs, IsPlain, Rises, TablesMove}
use Rattle.mb_tree.specs.CarriedOut.{tree_and_opens}

-- ---- n sessions have at most 17 n open files on an inode

-- ---- how many calls the disk ended

pub few_later : (before mid now : ℕ) (history : List Entry) → FewDevices before mid history → mid ≤ now → FewDevices before now history
few_later before mid now history so_far later = λ below. (let earlier = so_far (omega (arith, later, below)) in omega (arith, earlier, later))

plain_is_not : (answer : Reply) → IsPlain answer → is_device answer ≡ false
plain_is_not (reply.Num n) plain = refl
plain_is_not (reply.Got bytes) plain = refl
plain_is_not (reply.Info stat) plain = refl
plain_is_not (reply.Refused e) plain = refl
plain_is_not (reply.Restart first second) plain = absurd plain
plain_is_not reply.Device plain = absurd plain
plain_is_not (reply.Failed faults) plain = absurd plain

few_plain : (before now : ℕ) (history : List Entry) (entry : Entry) (answer : Reply) → IsPlain answer → entry.reply ≡ answer → FewDevices before now history → FewDevices before now (history ++ entry ∷ [])
few_plain before now history entry answer plain is so_far = λ below.
    (let counted = sum_by-append (λ (e : Entry). cond (is_device e.reply) 1 0) history (entry ∷ []) in
    let earlier = so_far below in
    let test : is_device entry.reply ≡ false = ap is_device is ∙ plain_is_not answer plain in
    let none : count_by (λ (e : Entry). is_device e.reply) (entry ∷ []) ≡ 0 = rw test refl in
    omega arith)

-- ---- the room is none of the images' concern

pub holds_roomy : {F D : Type 0} (before : Tree) (first base : Image) (core : CoreState F D) → Holds before first base core → (room : JournalRoom) → Holds before first base (roomy core room)
holds_roomy before first base core h room = record { legal = h.legal; checkpoint = h.checkpoint; replay = h.replay; view = h.view }

module _ {F D : Type 0} (told : D → Option Image) (faults : D → ℕ) (core : CoreState F D) (r : Right told faults core) where
  abbrev o : IsOrderly core
  o = r.orderly

  not_running : (now : Stage) → core.stage ≡ now → (now ≡ stage.Running → ⊥) → core.stage ≡ stage.Running → ⊥
  not_running now is apart runs = apart (sym is ∙ runs)

  -- ---- a fault, and what follows

  pub right_strikes : (ticket : Ticket) (kind : Kind) (nth : ℕ) (strokes : List Stroke) (room : JournalRoom) → ticket.caller < length core.config.callers → core.journal.room.history ≤ room.history → core.stage ≡ stage.Running → 1 ≤ insiders core.callers
      → core.journal.room.trail ≤ room.trail + 1 → Right told faults (roomy (striking core ticket kind nth strokes) room)
  right_strikes ticket kind nth strokes room whose left is some marks = record {
    holds = λ first image tree began now volume. holds_roomy tree first (under image core.cache.sealed) (striking core ticket kind nth strokes)
        (holds_strikes tree first (under image core.cache.sealed) core (r.holds first image tree began now volume) ticket kind nth strokes) room;
    seen = λ first image began now runs. absurd (let wrong : stage.Struck ≡ stage.Running = runs in cc);
    tells = r.tells;
    orderly = orderly_strikes core o ticket kind nth strokes room whose left is some marks;
    later = r.later;
    devices = r.devices;
  }

  pub right_resumes : (room : JournalRoom) → core.journal.room.history ≤ room.history → core.stage ≡ stage.Restored (length core.journal.oplog) → Right told faults (roomy (resuming core) room)
  right_resumes room left is = record {
    holds = λ first image tree began now volume. holds_roomy tree first (under image core.cache.sealed) (resuming core) (holds_resumes tree first (under image core.cache.sealed) core (r.holds first image tree began now volume) is) room;
    seen = λ first image began now runs caller d at. none_true _ core.cache.stamps d.pages.blocks ((o.undoable caller d at).outside (inside_at core o (stage.Restored (length core.journal.oplog)) is caller d at)).2;
    tells = r.tells;
    orderly = orderly_resumes core o room left (length core.journal.oplog) is;
    later = r.later;
    devices = r.devices;
  }

  pub right_drops : (room : JournalRoom) → core.journal.room.history ≤ room.history → core.stage ≡ stage.Struck → EachCaller (λ caller d. d.inside ≡ false) core.callers → length core.journal.records ≤ core.config.limit → Right told faults (roomy (dropping core) room)
  right_drops room left is out few = record {
    holds = λ first image tree began now volume. holds_roomy tree first (under image core.cache.sealed) (dropping core) (holds_drops tree first (under image core.cache.sealed) core (r.holds first image tree began now volume)) room;
    seen = λ first image began now runs. absurd (let wrong : stage.Dropped ≡ stage.Running = runs in cc);
    tells = r.tells;
    orderly = orderly_drops core o room left is out few;
    later = r.later;
    devices = r.devices;
  }

  -- the disk is opened again: it tells what it told, or its count rose
  pub right_remounts : (disk : D) (oplog : List Logged) (room : JournalRoom) → core.journal.room.history ≤ room.history → core.stage ≡ stage.Dropped → picked_ops oplog ≡ folded (picked_ops core.journal.oplog)
      → told disk ≡ told core.cache.disk → faults core.cache.disk ≤ faults disk → Right told faults (roomy (remounting core disk oplog) room)
  right_remounts disk oplog room left is folds same more = record {
    holds = λ first image tree began now volume. holds_roomy tree first (under image core.cache.sealed) (remounting core disk oplog)
        (holds_remounts tree first (under image core.cache.sealed) core (r.holds first image tree began (sym same ∙ now) volume) disk oplog is folds) room;
    seen = λ first image began now runs. absurd (let wrong : stage.Remounted ≡ stage.Running = runs in cc);
    tells = λ first began. subst (λ (t : Option Image). IsSome t) (sym same) (r.tells first began);
    orderly = orderly_remounts core o room left disk oplog (folds_short core.journal.oplog oplog folds) is;
    later = (let low = r.later in omega (arith, low, more));
    devices = few_later (faults core.first) (faults core.cache.disk) (faults disk) core.journal.history r.devices more;
  }

  -- ---- a checkpoint, and a page written back

  pub right_seals : (sealed : PageList) (room : JournalRoom) → core.journal.room.history ≤ room.history → core.stage ≡ stage.Running → (1 ≤ insiders core.callers → (insiders core.callers + 2 ≤ room.trail) × (1 ≤ room.records))
      → ((image : Image) → under image sealed ≡ under (under image core.cache.sealed) core.cache.current) → Right told faults (roomy (sealing core sealed) room)
  right_seals sealed room left is marks reads = record {
    holds = λ first image tree began now volume. holds_roomy tree first (under image sealed) (sealing core sealed) (subst (λ (base : Image). Holds tree first base (sealing core sealed)) (sym (reads image))
        (holds_seals tree first (under image core.cache.sealed) core (r.holds first image tree began now volume) sealed is)) room;
    seen = λ first image began now runs caller d at. subst (λ (view : Image). AreTrue view.at core.cache.stamps d.pages.blocks) (sym (reads image)) (r.seen first image began now is caller d at);
    tells = r.tells;
    orderly = orderly_seals core o room left sealed is marks;
    later = r.later;
    devices = r.devices;
  }

  pub right_flushes : (disk : D) (sealed : PageList) → ((first image : Image) → told core.first ≡ Some first → told disk ≡ Some image → (old : Image) × (told core.cache.disk ≡ Some old) × (under image sealed ≡ under old core.cache.sealed)) → (IsSome (told core.cache.disk) → IsSome (told disk))
      → faults core.cache.disk ≤ faults disk → Right told faults (flushing core disk sealed)
  right_flushes disk sealed reads tells more = record {
    holds = λ first image tree began now volume. (let one = reads first image began now in
        subst (λ (base : Image). Holds tree first base (flushing core disk sealed)) (sym one.2) (holds_flushed tree first (under one.0 core.cache.sealed) core (r.holds first one.0 tree began one.1 volume) disk sealed));
    seen = λ first image began now runs caller d at. (let one = reads first image began now in subst (λ (base : Image). AreTrue (under base core.cache.current).at core.cache.stamps d.pages.blocks) (sym one.2) (r.seen first one.0 began one.1 runs caller d at));
    tells = λ first began. tells (r.tells first began);
    orderly = orderly_flushes core o disk sealed;
    later = (let low = r.later in omega (arith, low, more));
    devices = few_later (faults core.first) (faults core.cache.disk) (faults disk) core.journal.history r.devices more;
  }

  -- ---- a call is logged

  module _ (at : ℕ) (mine : CallerState) (has : slice_get core.callers at ≡ Some mine) (flight : Flight) (flies : mine.flight ≡ Some flight) (unanswered : flight.answered ≡ false) (ticket : Ticket) (held : flight.ticket ≡ Some ticket)
      (inside : mine.inside ≡ true) (ordinal : ticket.ordinal ≡ flight.ordinal) (whose : ticket.caller ≡ at) (is : core.stage ≡ stage.Running) (mine_floor : IsMine at core.floor) (pins : Stamps) (gives : GivesBack core.cache.pins pins mine.undo)
      (room : JournalRoom) (marks : (insiders core.callers + 2 ≤ room.trail) × (1 ≤ room.records)) (left : core.journal.room.history ≤ room.history + 1)
      (new : CoreState F D) (ready : Ready) (plain : IsPlain ready.reply) (pins_are : new.cache.pins ≡ pins) (rises : Rises core.cache.stamps new.cache.stamps)
      (tables : TablesMove core.tables (record core.tables { sessions = with_change core.tables.sessions at ready.session; opens = new.tables.opens; stamp = new.tables.stamp })) (once : new.tables.stamp ≤ core.tables.stamp + 1)
      (moves : (image : Image) → Moves (under (under image core.cache.sealed) core.cache.current) core.cache.stamps (under (under image core.cache.sealed) new.cache.current) new.cache.stamps)
      (pages : CopyList) (kept given : TableCopy) (ready_for : IsReadyFor (shown pages) given.sessions given.opens at flight.call flight.moment ready) (fresh : AreFresh mine.pages.blocks core.cache.stamps pages)
      (kept_is : mine.pages.tables ≡ Some kept) (tables_fresh : TablesAreFresh ready.shared at core.tables kept given) (installs : Installs core.cache new.cache core.tables.opens new.tables.opens ready) where
    waits_open : open_flight mine.flight ≡ Some flight
    waits_open = ap open_flight flies ∙ ap (λ b. if b then None else Some flight) unanswered

    keeps_kept : KeepsTables at core.tables kept
    keeps_kept = subst (TablesAgree at core.tables) kept_is (o.copies is at mine has).tables

    logs_held : (first image : Image) (tree : Tree) → told core.first ≡ Some first → told core.cache.disk ≡ Some image → IsVolume first tree → Holds tree first (under image core.cache.sealed) (logging core new at mine flight ticket ready)
    logs_held first image tree began now volume =
        let h = r.holds first image tree began now volume in
        let machine = after (opening tree core.config.callers) core.journal.history in
        let view : IsHeldBy tree first (under (under image core.cache.sealed) core.cache.current) core.tables.opens (tree_and_opens machine) =
        subst (ViewStands tree first (under image core.cache.sealed) (tree_and_opens (after_first (opening tree core.config.callers) core.journal.history core.journal.sealed_at)) (tree_and_opens machine) core.journal.oplog core.cache.current core.tables.opens) is h.view in
        let open_now = o.numbered.waiting at mine has flight waits_open in
        let live_seats = h.legal.seats in
        let done : IsPerformed (under (under image core.cache.sealed) core.cache.current) machine at flight.call flight.moment ready =
        finish_performs (under (under image core.cache.sealed) core.cache.current) core.cache.stamps mine.pages.blocks pages core.tables kept given machine at flight.call flight.moment ready ready_for
        (r.seen first image began now is at mine has) fresh keeps_kept tables_fresh view.volume h.legal.valid live_seats (subst (λ (seats : List Seat). TellsCounts core.tables.opens (counts seats)) live_seats view.counted) in
        let eight = o.bounds.callers in
        let seats_are : length machine.seats ≡ length core.config.callers = ap (λ (s : List Seat). length s) live_seats ∙ o.sessions ∙ o.numbered.callers_are in
        holds_logs tree first (under image core.cache.sealed) core h new at mine flight ticket ready is plain open_now.call (let whose = slice_get_within core.callers at mine has in let seats_here = o.sessions in omega (arith, whose, seats_here, ap (λ (s : List Seat). length s) live_seats)) (λ ino. (let few = few_opens machine.seats ino in omega (arith, few, eight, seats_are))) done installs open_now.above
        (follows_all core.config core.journal core.stage at flight.ordinal flight.moment (entry_for at flight ready.pick ready.reply) core.journal.history open_now.follows o.numbered.says refl refl
        (λ failed. absurd (let wrong : stage.Running ≡ stage.Failed = sym is ∙ failed in cc)))

    pub right_logs : Right told faults (roomy (logging core new at mine flight ticket ready) room)
    right_logs = record {
      holds = λ first image tree began now volume. holds_roomy tree first (under image core.cache.sealed) (logging core new at mine flight ticket ready) (logs_held first image tree began now volume) room;
      seen = λ first image began now runs. each_set (λ caller d. AreTrue (under (under image core.cache.sealed) new.cache.current).at new.cache.stamps d.pages.blocks) core.callers at mine _ has (no_true _ new.cache.stamps)
          (λ caller d apart at_it. true_moves (under (under image core.cache.sealed) core.cache.current) core.cache.stamps (under (under image core.cache.sealed) new.cache.current) new.cache.stamps d.pages.blocks (moves image)
          (o.copies is caller d at_it).old (r.seen first image began now is caller d at_it));
      tells = r.tells;
      orderly = orderly_logs core o at mine has flight flies unanswered ticket held inside ordinal whose is mine_floor pins gives room marks left new ready plain pins_are rises tables once;
      later = r.later;
      devices = few_plain (faults core.first) (faults core.cache.disk) core.journal.history (entry_for at flight ready.pick ready.reply) ready.reply plain refl r.devices;
    }
