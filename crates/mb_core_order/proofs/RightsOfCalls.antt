-- The other events keep a core in order.
use Rattle.std.proofs.Common.{List, [], ◌∷◌, ◌++◌, ℕ, ◌+◌, ◌≡◌, ◌<◌, ◌≤◌, ◌⊎◌, inl, inr, true, false, Option, Some, None, IsSome, length, slice_get, slice_set, refl, sym, ◌∙◌, subst, arith, ap}
use Rattle.std.proofs.lemmas.Option.{slice_get_within}
use Rattle.std.proofs.lemmas.Option.{slice_get_within}
use Rattle.mb_tree.specs.declared.seats.Seat.{Seat}
use Rattle.mb_kinds.specs.Image.{Image}
use Rattle.mb_kinds.specs.declared.calls.Call.{Call}
use Rattle.mb_kinds.specs.declared.entries.Flight.{Flight}
use Rattle.mb_kinds.specs.declared.faults.Kind.{Kind}
use Rattle.mb_kinds.specs.declared.faults.Ticket.{Ticket}
use Rattle.mb_kinds.specs.declared.replies.Reply.{Reply}
use Rattle.mb_edge.specs.Damage.{OpenCounts}
use Rattle.mb_edge.specs.declared.strokes.Stroke.{Stroke}
use Rattle.mb_tree.specs.SessionLaws.{IsCall}
use Rattle.mb_tree.specs.Sessions.{counts}
use Rattle.mb_tree.specs.Volume.{IsVolume}
use Rattle.mb_tree.specs.Effect.{TreeAndOpens}
use Rattle.mb_tree.specs.History.{IsFailed}
use Rattle.mb_tree.specs.Views.{IsPart}
use Rattle.mb_iface.specs.Acting.{Acts}
use Rattle.mb_kinds.specs.Changed.{ChangeList}
use Rattle.mb_iface.specs.declared.replies.Acted.TheVariants as acted
use Rattle.mb_tree.specs.declared.trees.Tree.{Tree}
use Rattle.mb_cache.specs.Stamps.{Stamps, stamp_of}
use Rattle.mb_cache.specs.Pages.{under}
use Rattle.mb_cache.specs.State.{CacheRoom, CacheState}
use Rattle.mb_oplog.specs.declared.oplogs.Logged.{Logged}
use Rattle.mb_core_spec.specs.declared.stages.Stage.TheVariants as stage
use Rattle.mb_gate.specs.declared.ulogs.Undo.{Undo}
use Rattle.mb_core_order.proofs.Beginning.{each_set}
use Rattle.mb_core_order.proofs.Callings.{orderly_answers, orderly_ends, orderly_leaves, orderly_unwinds}
use Rattle.mb_core_order.proofs.Enterings.{orderly_enters, orderly_gathers, orderly_stale, orderly_waits}
use Rattle.mb_core_order.proofs.Images.{holds_answers, holds_drops, holds_ends, holds_enters, holds_fails, holds_gathers, holds_leaves, holds_reopens, holds_replays, holds_stale, holds_strikes_again, holds_unwinds}
use Rattle.mb_core_order.proofs.Keepings.{none_true}
use Rattle.mb_core_order.proofs.Numbers.{follows_all}
use Rattle.mb_core_order.proofs.Orderlies.{orderly_drops_again, orderly_fails, orderly_fails_again, orderly_reopens, orderly_replays, orderly_strikes_dropped, orderly_strikes_restored}
use Rattle.mb_core_order.proofs.Rights.{few_later, holds_roomy, right_drops}
use Rattle.mb_core_spec.specs.Callers.{EachCaller, insiders, total}
use Rattle.mb_cache.specs.Kept.{KeptBlock, kept_at}
use Rattle.mb_core_spec.specs.Copies.{AreTrue, PagesState}
use Rattle.mb_session.specs.OpenFiles.{TellsCounts}
use Rattle.mb_core_spec.specs.Events.{beginning, begins, Gathers, GivesBack, Leaves, answered_by, ended, entering, entry_for, gathering, leaving, roomy, staling}
use Rattle.mb_core_spec.specs.Faults.{FewDevices, Says}
use Rattle.mb_core_spec.specs.Flights.{is_pin}
use Rattle.mb_core_spec.specs.Numbers.{open_calls, open_flight}
use Rattle.mb_core_spec.specs.Recovery.{dropping, failing, reopening, replaying, striking_again, unwinding}
use Rattle.mb_core_spec.specs.Right.{IsOrderly, Right}
use Rattle.mb_core_spec.specs.Flights.{IsMine}
use Rattle.mb_core_spec.specs.Owed.{IsIdle}
use Rattle.mb_tree.specs.CarriedOut.{IsCarriedOut}
use Rattle.mb_tree.specs.Opening.{first_seat}
use Rattle.std.proofs.lemmas.List.{length-map}
use Rattle.mb_core_spec.specs.Histories.{as_picked}
use Rattle.mb_core_spec.specs.Conditions.{MayDrop, MayStrikeAgain}
use Rattle.mb_core_spec.specs.State.{CallerState, CoreState, JournalRoom}

module _ {F D : Type 0} (told : D → Option Image) (faults : D → ℕ) (core : CoreState F D) (r : Right told faults core) where
  abbrev o : IsOrderly core
  o = r.orderly

  abbrev base : Image → Image
  base image = under image core.cache.sealed

  -- the image that a caller's copies are true of
  abbrev seen_by : Image → ℕ → ℕ → List ℕ
  seen_by image caller = (under (base image) core.cache.current).at

  -- ---- one caller's state changes, and nothing that is seen: its pages stay, or are none

  stays_seen : (at : ℕ) (mine new : CallerState) → slice_get core.callers at ≡ Some mine → new.pages ≡ mine.pages → (first image : Image) → told core.first ≡ Some first → told core.cache.disk ≡ Some image → core.stage ≡ stage.Running
      → EachCaller (λ caller d. AreTrue (under (base image) core.cache.current).at core.cache.stamps d.pages.blocks) (slice_set core.callers at new)
  stays_seen at mine new has same first image began now runs = each_set (λ caller d. AreTrue (under (base image) core.cache.current).at core.cache.stamps d.pages.blocks) core.callers at mine new has
      (subst (λ (pages : PagesState). AreTrue (under (base image) core.cache.current).at core.cache.stamps pages.blocks) (sym same) (r.seen first image began now runs at mine has)) (λ caller d apart is. r.seen first image began now runs caller d is)

  none_seen : (at : ℕ) (mine new : CallerState) → slice_get core.callers at ≡ Some mine → new.pages.blocks ≡ [] → (first image : Image) → told core.first ≡ Some first → told core.cache.disk ≡ Some image → core.stage ≡ stage.Running
      → EachCaller (λ caller d. AreTrue (under (base image) core.cache.current).at core.cache.stamps d.pages.blocks) (slice_set core.callers at new)
  none_seen at mine new has none first image began now runs = each_set (λ caller d. AreTrue (under (base image) core.cache.current).at core.cache.stamps d.pages.blocks) core.callers at mine new has
      (none_true _ core.cache.stamps new.pages.blocks none) (λ caller d apart is. r.seen first image began now runs caller d is)

  module _ (at : ℕ) (mine : CallerState) (has : slice_get core.callers at ≡ Some mine) where
    pub right_waits : (call : Call) → IsCall call → mine.flight ≡ None → mine.begun < core.config.most → (room : JournalRoom) → Leaves core.journal.room room 0 0 → open_calls core.callers + 1 ≤ room.history
        → Right told faults (roomy (beginning core at mine call) room)
    right_waits call good free low room left space = record {
      holds = λ first image tree began now volume. (let h = r.holds first image tree began now volume in record { legal = h.legal; checkpoint = h.checkpoint; replay = h.replay; view = h.view });
      seen = stays_seen at mine (begins core.config.start core.callers mine call) has refl;
      tells = r.tells;
      orderly = orderly_waits core o at mine has call good free low room left space;
      later = r.later;
      devices = r.devices;
    }

    pub right_enters : (flight : Flight) → mine.flight ≡ Some flight → flight.answered ≡ false → mine.inside ≡ false → core.stage ≡ stage.Running → (ticket : Ticket) → ticket.caller ≡ at → ticket.ordinal ≡ flight.ordinal
        → ticket.moment ≡ flight.moment → ticket.incarnation ≡ core.incarnation → (reserved : Option ℕ) (room : JournalRoom) → 11 ≤ room.trail → 1 ≤ room.records → core.journal.room.history ≤ room.history
        → Right told faults (roomy (entering core at mine flight ticket reserved) room)
    right_enters flight flies unanswered out is ticket whose ordinal moment present reserved room marks records left = record {
      holds = λ first image tree began now volume. holds_roomy tree first (base image) (entering core at mine flight ticket reserved) (holds_enters tree first (base image) core (r.holds first image tree began now volume) at mine flight ticket reserved) room;
      seen = stays_seen at mine _ has refl;
      tells = r.tells;
      orderly = orderly_enters core o at mine has flight flies unanswered out is ticket whose ordinal moment present reserved room marks records left;
      later = r.later;
      devices = r.devices;
    }

    -- what it gathers is what is seen, where the disk tells its blocks
    pub right_gathers : (disk : D) (pages : PagesState) (steps : List Undo) (pins : Stamps) (room : CacheRoom) → mine.inside ≡ true → Gathers core.cache.stamps core.tables mine.pages pages
        → ((block : ℕ) → stamp_of pins block + total (is_pin block) mine.undo ≡ stamp_of core.cache.pins block + total (is_pin block) steps)
        → ((image : Image) → told core.cache.disk ≡ Some image → (block : ℕ) (kept : KeptBlock) → kept_at pages.blocks block ≡ Some kept → (kept_at mine.pages.blocks block ≡ Some kept) ⊎ ((under (base image) core.cache.current).at block ≡ kept.bytes))
        → told disk ≡ told core.cache.disk → faults core.cache.disk ≤ faults disk → Right told faults (gathering core disk at mine pages steps pins room)
    right_gathers disk pages steps pins room inside gathers pinned reads same more = record {
      holds = λ first image tree began now volume. holds_gathers tree first (base image) core (r.holds first image tree began (sym same ∙ now) volume) disk at mine pages steps pins room;
      seen = λ first image began now runs. each_set (λ caller d. AreTrue (under (base image) core.cache.current).at core.cache.stamps d.pages.blocks) core.callers at mine _ has
          (λ block kept is fresh. elim (reads image (sym same ∙ now) block kept is) [ inl before ↦ r.seen first image began (sym same ∙ now) runs at mine has block kept before fresh | inr read ↦ read ])
          (λ caller d apart is. r.seen first image began (sym same ∙ now) runs caller d is);
      tells = λ first began. subst (λ (t : Option Image). IsSome t) (sym same) (r.tells first began);
      orderly = orderly_gathers core o at mine has disk pages steps pins room inside gathers pinned;
      later = (let low = r.later in omega (arith, low, more));
      devices = few_later (faults core.first) (faults core.cache.disk) (faults disk) core.journal.history r.devices more;
    }

    pub right_ends : (pins : Stamps) → GivesBack core.cache.pins pins mine.undo → Right told faults (ended core at mine pins)
    right_ends pins gives = record {
      holds = λ first image tree began now volume. holds_ends tree first (base image) core (r.holds first image tree began now volume) at mine pins;
      seen = none_seen at mine _ has refl;
      tells = r.tells;
      orderly = orderly_ends core o at mine has pins gives;
      later = r.later;
      devices = r.devices;
    }

    -- an entry of the disk's comes with a fault of the disk's more
    pub right_answers : (flight : Flight) (answer : Reply) (pins : Stamps) (room : JournalRoom) → open_flight mine.flight ≡ Some flight → IsIdle answer → GivesBack core.cache.pins pins mine.undo → Leaves core.journal.room room 0 1
        → Says core.journal.records core.config.limit core.stage at flight.ordinal answer → (core.stage ≡ stage.Failed → IsFailed answer) → FewDevices (faults core.first) (faults core.cache.disk) (core.journal.history ++ entry_for at flight None answer ∷ [])
        → Right told faults (roomy (answered_by core at mine flight answer pins) room)
    right_answers flight answer pins room flies idle gives left said failed few =
        let its = o.numbered.waiting at mine has flight flies in
        record {
          holds = λ first image tree began now volume. holds_roomy tree first (base image) (answered_by core at mine flight answer pins)
              (holds_answers tree first (base image) core (r.holds first image tree began now volume) at mine flight answer pins idle
              (let whose = slice_get_within core.callers at mine has in let seats_here = o.sessions in omega (arith, whose, seats_here, ap (λ (s : List Seat). length s) (r.holds first image tree began now volume).legal.seats)) its.above
              (follows_all core.config core.journal core.stage at flight.ordinal flight.moment (entry_for at flight None answer) core.journal.history its.follows o.numbered.says refl refl failed)) room;
          seen = none_seen at mine _ has refl;
          tells = r.tells;
          orderly = orderly_answers core o at mine has flight answer pins room flies idle gives left said;
          later = r.later;
          devices = few;
        }

    module _ (flight : Flight) (flies : mine.flight ≡ Some flight) (ticket : Ticket) (held : flight.ticket ≡ Some ticket) (inside : mine.inside ≡ true) (ordinal : ticket.ordinal ≡ flight.ordinal) (whose : ticket.caller ≡ at)
        (pins : Stamps) (gives : GivesBack core.cache.pins pins mine.undo) (room : JournalRoom) where
      pub right_leaves : Leaves core.journal.room room 1 0 → core.stage ≡ stage.Running → flight.answered ≡ true → Right told faults (roomy (leaving core at mine ticket pins) room)
      right_leaves left is done = record {
        holds = λ first image tree began now volume. holds_roomy tree first (base image) (leaving core at mine ticket pins) (holds_leaves tree first (base image) core (r.holds first image tree began now volume) at mine ticket pins) room;
        seen = none_seen at mine _ has refl;
        tells = r.tells;
        orderly = orderly_leaves core o at mine has flight flies ticket held inside ordinal whose pins gives room left is done;
        later = r.later;
        devices = r.devices;
      }

      pub right_unwinds : Leaves core.journal.room room 1 0 → core.stage ≡ stage.Struck → ((other : ℕ) (d : CallerState) → slice_get core.callers other ≡ Some d → d.inside ≡ true → at ≤ other) → Right told faults (roomy (unwinding core at mine ticket pins) room)
      right_unwinds left is least = record {
        holds = λ first image tree began now volume. holds_roomy tree first (base image) (unwinding core at mine ticket pins) (holds_unwinds tree first (base image) core (r.holds first image tree began now volume) at mine ticket pins) room;
        seen = none_seen at mine _ has refl;
        tells = r.tells;
        orderly = orderly_unwinds core o at mine has flight flies ticket held inside ordinal whose pins gives room left is least;
        later = r.later;
        devices = r.devices;
      }

      pub right_stale : flight.answered ≡ false → core.stage ≡ stage.Running → IsMine at core.floor → (insiders core.callers + 2 ≤ room.trail) × (1 ≤ room.records) → (block : ℕ) → core.journal.room.history ≤ room.history
          → Right told faults (roomy (staling core at mine ticket block pins) room)
      right_stale unanswered is mine_floor marks block left = record {
        holds = λ first image tree began now volume. holds_roomy tree first (base image) (staling core at mine ticket block pins) (holds_stale tree first (base image) core (r.holds first image tree began now volume) at mine ticket block pins) room;
        seen = none_seen at mine _ has refl;
        tells = r.tells;
        orderly = orderly_stale core o at mine has flight flies unanswered ticket held inside ordinal whose is mine_floor pins gives room marks (omega (arith, left)) block left;
        later = r.later;
        devices = r.devices;
      }

  -- ---- the rest of a recovery

  pub right_reopens : (opens : OpenCounts) (room : JournalRoom) → core.journal.room.history ≤ room.history → core.stage ≡ stage.Remounted → TellsCounts opens (counts core.tables.saved) → Right told faults (roomy (reopening core opens) room)
  right_reopens opens room left is counted = record {
    holds = λ first image tree began now volume. holds_roomy tree first (base image) (reopening core opens) (holds_reopens tree first (base image) core (r.holds first image tree began now volume) opens is counted) room;
    seen = λ first image began now runs. absurd (let wrong : stage.Restored 0 ≡ stage.Running = runs in cc);
    tells = r.tells;
    orderly = orderly_reopens core o room left opens is;
    later = r.later;
    devices = r.devices;
  }

  pub right_replays : (cache : CacheState D) (opens : OpenCounts) (done : ℕ) (logged : Logged) (shown_blocks : ℕ → Option (List ℕ)) (changes : ChangeList) (picked : Option ℕ) (room : JournalRoom) → core.journal.room.history ≤ room.history
      → core.stage ≡ stage.Restored done → slice_get core.journal.oplog done ≡ Some logged → ((block : ℕ) → stamp_of cache.stamps block ≤ stamp_of core.cache.stamps block + 1)
      → ((image : Image) → told core.cache.disk ≡ Some image → IsPart shown_blocks (under (base image) core.cache.current).at)
      → ((image : Image) (tree : Tree) → told core.cache.disk ≡ Some image → IsVolume (under (base image) core.cache.current) tree → Acts shown_blocks (under (base image) core.cache.current) tree core.tables.opens logged.op logged.pick (acted.Done changes picked))
      → ((made next : TreeAndOpens) → TellsCounts core.tables.opens made.opens → ((ino : ℕ) → made.opens ino ≤ 136) → IsCarriedOut made (as_picked logged) next → TellsCounts opens next.opens)
      → ((image : Image) → under image cache.current ≡ under (under image core.cache.current) changes) → told cache.disk ≡ told core.cache.disk → faults core.cache.disk ≤ faults cache.disk
      → Right told faults (roomy (replaying core cache opens done) room)
  right_replays cache opens done logged shown_blocks changes picked room left is at rise part acts counted reads same more = record {
    holds = λ first image tree began now volume. holds_roomy tree first (base image) (replaying core cache opens done)
        (holds_replays tree first (base image) core (r.holds first image tree began (sym same ∙ now) volume) cache opens done logged shown_blocks changes picked is at (part image (sym same ∙ now)) (λ made volume_made. acts image made (sym same ∙ now) volume_made)
        (λ made next counts few one. counted made next counts (λ ino. (let most = few ino in let eight = o.bounds.callers in let same = length-map core.config.callers first_seat in omega (arith, most, eight, same))) one) (reads (base image))) room;
    seen = λ first image began now runs. absurd (let wrong : stage.Restored (done + 1) ≡ stage.Running = runs in cc);
    tells = λ first began. subst (λ (t : Option Image). IsSome t) (sym same) (r.tells first began);
    orderly = orderly_replays core o room left cache opens done is (slice_get_within core.journal.oplog done logged at) rise;
    later = (let low = r.later in omega (arith, low, more));
    devices = few_later (faults core.first) (faults core.cache.disk) (faults cache.disk) core.journal.history r.devices more;
  }

  -- a fault at a replay, and one at the remount
  pub right_strikes_restored : (caller ordinal : ℕ) (kind : Kind) (nth : ℕ) (strokes : List Stroke) (room : JournalRoom) → caller < length core.config.callers → core.journal.room.history ≤ room.history → (done : ℕ) → core.stage ≡ stage.Restored done → 1 ≤ room.trail
      → Right told faults (roomy (striking_again core caller ordinal kind nth strokes) room)
  right_strikes_restored caller ordinal kind nth strokes room whose left done is one = record {
    holds = λ first image tree began now volume. holds_roomy tree first (base image) (striking_again core caller ordinal kind nth strokes) (holds_strikes_again tree first (base image) core (r.holds first image tree began now volume) caller ordinal kind nth strokes) room;
    seen = λ first image began now runs. absurd (let wrong : stage.Again ≡ stage.Running = runs in cc);
    tells = r.tells;
    orderly = orderly_strikes_restored core o caller ordinal kind nth strokes room whose left done is one;
    later = r.later;
    devices = r.devices;
  }

  pub right_strikes_dropped : (caller ordinal : ℕ) (kind : Kind) (nth : ℕ) (strokes : List Stroke) (room : JournalRoom) → caller < length core.config.callers → core.journal.room.history ≤ room.history → core.stage ≡ stage.Dropped → 1 ≤ room.trail
      → Right told faults (roomy (striking_again core caller ordinal kind nth strokes) room)
  right_strikes_dropped caller ordinal kind nth strokes room whose left is one = record {
    holds = λ first image tree began now volume. holds_roomy tree first (base image) (striking_again core caller ordinal kind nth strokes) (holds_strikes_again tree first (base image) core (r.holds first image tree began now volume) caller ordinal kind nth strokes) room;
    seen = λ first image began now runs. absurd (let wrong : stage.Again ≡ stage.Running = runs in cc);
    tells = r.tells;
    orderly = orderly_strikes_dropped core o caller ordinal kind nth strokes room whose left is one;
    later = r.later;
    devices = r.devices;
  }

  pub right_drops_again : (room : JournalRoom) → core.journal.room.history ≤ room.history → core.stage ≡ stage.Again → length core.journal.records ≤ core.config.limit → Right told faults (roomy (dropping core) room)
  right_drops_again room left is few = record {
    holds = λ first image tree began now volume. holds_roomy tree first (base image) (dropping core) (holds_drops tree first (base image) core (r.holds first image tree began now volume)) room;
    seen = λ first image began now runs. absurd (let wrong : stage.Dropped ≡ stage.Running = runs in cc);
    tells = r.tells;
    orderly = orderly_drops_again core o room left is few;
    later = r.later;
    devices = r.devices;
  }

  pub right_fails : (room : JournalRoom) → core.journal.room.history ≤ room.history → ((core.stage ≡ stage.Struck) × EachCaller (λ caller d. d.inside ≡ false) core.callers) ⊎ (core.stage ≡ stage.Again) → core.config.limit < length core.journal.records
      → Right told faults (roomy (failing core) room)
  right_fails room left is many = record {
    holds = λ first image tree began now volume. holds_roomy tree first (base image) (failing core) (holds_fails tree first (base image) core (r.holds first image tree began now volume)) room;
    seen = λ first image began now runs. absurd (let wrong : stage.Failed ≡ stage.Running = runs in cc);
    tells = r.tells;
    orderly = elim is [ inl struck ↦ orderly_fails core o room left struck.0 struck.1 many | inr again ↦ orderly_fails_again core o room left again many ];
    later = r.later;
    devices = r.devices;
  }

  pub right_strikes_again : (caller ordinal : ℕ) (kind : Kind) (nth : ℕ) (strokes : List Stroke) (room : JournalRoom) → MayStrikeAgain core caller room → Right told faults (roomy (striking_again core caller ordinal kind nth strokes) room)
  right_strikes_again caller ordinal kind nth strokes room may = elim may.recovers [
    | inl dropped ↦ right_strikes_dropped caller ordinal kind nth strokes room may.declared may.entries dropped may.marks
    | inr restored ↦ right_strikes_restored caller ordinal kind nth strokes room may.declared may.entries restored.0 restored.1 may.marks
  ]

  pub right_drops_both : (room : JournalRoom) → MayDrop core room → Right told faults (roomy (dropping core) room)
  right_drops_both room may = elim may.unwound [
    | inl struck ↦ right_drops told faults core r room may.entries struck.0 struck.1 may.few
    | inr again ↦ right_drops_again room may.entries again may.few
  ]
