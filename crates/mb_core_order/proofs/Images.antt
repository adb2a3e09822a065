-- Each event keeps what holds of images.
use Rattle.std.proofs.Common.{List, [], ◌∷◌, ◌++◌, ℕ, ◌+◌, ◌≡◌, ◌<◌, Option, Some, None, length, slice_get, refl, ap, sym, ◌∙◌, subst, arith, ◌≤◌, ◌*◌}
use Rattle.std.proofs.lemmas.List.{append-nil, take_all}
use Rattle.std.specs.List.{AllByRecursion}
use Rattle.mb_kinds.specs.Image.{Image}
use Rattle.mb_kinds.specs.declared.entries.Entry.{Entry}
use Rattle.mb_kinds.specs.declared.entries.Flight.{Flight}
use Rattle.mb_kinds.specs.declared.faults.Kind.{Kind}
use Rattle.mb_kinds.specs.declared.faults.Ticket.{Ticket}
use Rattle.mb_kinds.specs.declared.replies.Reply.{Reply}
use Rattle.mb_edge.specs.Damage.{OpenCounts}
use Rattle.mb_edge.specs.declared.strokes.Stroke.{Stroke}
use Rattle.mb_iface.specs.Acting.{Acts}
use Rattle.mb_kinds.specs.Changed.{ChangeList}
use Rattle.mb_iface.specs.declared.replies.Acted.TheVariants as acted
use Rattle.mb_folds.specs.Folded.{folded}
use Rattle.mb_tree.proofs.KeptVolumes.{kept_composes}
use Rattle.mb_tree.proofs.CarryingOut.{carried_out_once}
use Rattle.mb_tree.proofs.HistoryOperations.{callers_stay, few_opens}
use Rattle.mb_tree.specs.Step.{effect_of}
use Rattle.mb_kinds.specs.declared.calls.Call.{Call}
use Rattle.std.proofs.lemmas.List.{length-map}
use Rattle.mb_core_spec.specs.Owed.{Installs, IsIdle, IsPlain}
use Rattle.mb_core_spec.specs.Events.{beginning}
use Rattle.mb_tree.specs.Effect.{TreeAndOpens}
use Rattle.mb_tree.specs.History.{Follows, after, after_first}
use Rattle.mb_tree.specs.Opening.{opening}
use Rattle.mb_tree.specs.SessionLaws.{IsCall}
use Rattle.mb_tree.specs.Sessions.{counts, with_change}
use Rattle.mb_tree.specs.Views.{IsPart, Kept}
use Rattle.mb_tree.specs.Volume.{IsVolume}
use Rattle.mb_tree.specs.declared.machines.Machine.{Machine}
use Rattle.mb_tree.specs.declared.seats.Seat.{Seat}
use Rattle.mb_tree.specs.declared.trees.Tree.{Tree}
use Rattle.mb_cache.specs.Stamps.{Stamps}
use Rattle.mb_cache.specs.Pages.{PageList, under}
use Rattle.mb_cache.specs.State.{CacheRoom, CacheState}
use Rattle.mb_oplog.specs.declared.oplogs.Logged.{Logged}
use Rattle.mb_core_spec.specs.declared.ready.Ready.{Ready}
use Rattle.mb_core_spec.specs.declared.stages.Stage.{Stage}
use Rattle.mb_core_spec.specs.declared.stages.Stage.TheVariants as stage
use Rattle.mb_gate.specs.declared.ulogs.Undo.{Undo}
use Rattle.mb_core_order.proofs.Growing.{IsMoved, MovesOn, after_grown, checkpoint_grown, idle_moves, legal_grown, performed, replay_grown}
use Rattle.mb_core_order.proofs.Logs.{first_more, log_sealed, replay_folded}
use Rattle.mb_core_order.proofs.Overlays.{under_held}
use Rattle.mb_core_order.proofs.Redoing.{counts_are}
use Rattle.mb_core_order.proofs.Replaying.{replays_one}
use Rattle.mb_core_spec.specs.Copies.{PagesState}
use Rattle.mb_session.specs.OpenFiles.{TellsCounts}
use Rattle.mb_core_spec.specs.Events.{answered_by, ended, entering, entry_for, gathering, leaving, logged_op, logging, staling}
use Rattle.mb_core_spec.specs.Histories.{as_picked, picked_ops, IsLegalSoFar, ReplaysToNow}
use Rattle.mb_core_spec.specs.Performed.{IsPerformed}
use Rattle.mb_core_spec.specs.Recovery.{dropping, failing, flushing, remounting, reopening, replaying, resuming, sealing, striking, striking_again, unwinding}
use Rattle.mb_core_spec.specs.Seen.{Holds, IsFront, IsHeldBy, ViewStands}
use Rattle.mb_core_spec.specs.State.{CallerState, CoreState}
use Rattle.mb_tree.specs.CarriedOut.{AreCarriedOut, IsCarriedOut, tree_and_opens}

module _ {F D : Type 0} (before : Tree) (first base : Image) (core : CoreState F D) (h : Holds before first base core) where
  abbrev begins_with : Machine
  begins_with = opening before core.config.callers

  abbrev now : Machine
  now = after begins_with core.journal.history

  abbrev start : Machine
  start = after_first begins_with core.journal.history core.journal.sealed_at

  -- ---- events that these parts do not hear of

  pub holds_begins : (caller : ℕ) (mine : CallerState) (call : Call) → Holds before first base (beginning core caller mine call)
  holds_begins caller mine call = record { legal = h.legal; checkpoint = h.checkpoint; replay = h.replay; view = h.view }

  pub holds_enters : (caller : ℕ) (mine : CallerState) (flight : Flight) (ticket : Ticket) (reserved : Option ℕ) → Holds before first base (entering core caller mine flight ticket reserved)
  holds_enters caller mine flight ticket reserved = record { legal = h.legal; checkpoint = h.checkpoint; replay = h.replay; view = h.view }

  pub holds_gathers : (disk : D) (caller : ℕ) (mine : CallerState) (pages : PagesState) (undo : List Undo) (pins : Stamps) (room : CacheRoom) → Holds before first base (gathering core disk caller mine pages undo pins room)
  holds_gathers disk caller mine pages undo pins room = record { legal = h.legal; checkpoint = h.checkpoint; replay = h.replay; view = h.view }

  pub holds_stale : (caller : ℕ) (mine : CallerState) (ticket : Ticket) (block : ℕ) (pins : Stamps) → Holds before first base (staling core caller mine ticket block pins)
  holds_stale caller mine ticket block pins = record { legal = h.legal; checkpoint = h.checkpoint; replay = h.replay; view = h.view }

  pub holds_ends : (caller : ℕ) (mine : CallerState) (pins : Stamps) → Holds before first base (ended core caller mine pins)
  holds_ends caller mine pins = record { legal = h.legal; checkpoint = h.checkpoint; replay = h.replay; view = h.view }

  pub holds_leaves : (caller : ℕ) (mine : CallerState) (ticket : Ticket) (pins : Stamps) → Holds before first base (leaving core caller mine ticket pins)
  holds_leaves caller mine ticket pins = record { legal = h.legal; checkpoint = h.checkpoint; replay = h.replay; view = h.view }

  pub holds_unwinds : (caller : ℕ) (mine : CallerState) (ticket : Ticket) (pins : Stamps) → Holds before first base (unwinding core caller mine ticket pins)
  holds_unwinds caller mine ticket pins = record { legal = h.legal; checkpoint = h.checkpoint; replay = h.replay; view = h.view }

  pub holds_flushed : (disk : D) (sealed : PageList) → Holds before first base (flushing core disk sealed)
  holds_flushed disk sealed = record { legal = h.legal; checkpoint = h.checkpoint; replay = h.replay; view = h.view }

  -- ---- whatever a fault does to the current pages and to the open files

  pub holds_strikes : (ticket : Ticket) (kind : Kind) (nth : ℕ) (strokes : List Stroke) → Holds before first base (striking core ticket kind nth strokes)
  holds_strikes ticket kind nth strokes = record { legal = h.legal; checkpoint = h.checkpoint; replay = h.replay; view = tt }

  pub holds_strikes_again : (caller ordinal : ℕ) (kind : Kind) (nth : ℕ) (strokes : List Stroke) → Holds before first base (striking_again core caller ordinal kind nth strokes)
  holds_strikes_again caller ordinal kind nth strokes = record { legal = h.legal; checkpoint = h.checkpoint; replay = h.replay; view = tt }

  pub holds_fails : Holds before first base (failing core)
  holds_fails = record { legal = h.legal; checkpoint = h.checkpoint; replay = h.replay; view = tt }

  -- ---- the steps of a recovery

  pub holds_drops : Holds before first base (dropping core)
  holds_drops = record { legal = h.legal; checkpoint = h.checkpoint; replay = h.replay; view = refl }

  stands : (then : Stage) → core.stage ≡ then → ViewStands before first base (tree_and_opens start) (tree_and_opens now) core.journal.oplog core.cache.current core.tables.opens then
  stands then is = subst (ViewStands before first base (tree_and_opens start) (tree_and_opens now) core.journal.oplog core.cache.current core.tables.opens) is h.view

  pub holds_remounts : (disk : D) (oplog : List Logged) → core.stage ≡ stage.Dropped → picked_ops oplog ≡ folded (picked_ops core.journal.oplog) → Holds before first base (remounting core disk oplog)
  holds_remounts disk oplog is folds = record {
    legal = h.legal;
    checkpoint = h.checkpoint;
    replay = replay_folded begins_with core.journal.history core.journal.sealed_at core.journal.oplog oplog folds h.replay;
    view = stands stage.Dropped is;
  }

  pub holds_reopens : (opens : OpenCounts) → core.stage ≡ stage.Remounted → TellsCounts opens (counts core.tables.saved) → Holds before first base (reopening core opens)
  holds_reopens opens is counted =
      let none : core.cache.current ≡ [] = stands stage.Remounted is in
      let bare : under base core.cache.current ≡ base = ap (under base) none in
      record {
        legal = h.legal;
        checkpoint = h.checkpoint;
        replay = h.replay;
        view = record {
          within = omega arith;
          made = tree_and_opens start;
          leads = refl;
          held = subst (λ (view : Image). IsHeldBy before first view opens (tree_and_opens start)) (sym bare) (record {
            volume = h.checkpoint.volume;
            kept = h.checkpoint.kept;
            counted = subst (λ (seats : List Seat). TellsCounts opens (counts seats)) (sym h.checkpoint.seats) counted;
          });
        };
      }

  -- what a file system answers to the operation that is next, over every volume of which the blocks are a part
  pub holds_replays : (cache : CacheState D) (opens : OpenCounts) (done : ℕ) (logged : Logged) (shown : ℕ → Option (List ℕ)) (changes : ChangeList) (picked : Option ℕ) → core.stage ≡ stage.Restored done
      → slice_get core.journal.oplog done ≡ Some logged → IsPart shown (under base core.cache.current).at
      → ((tree : Tree) → IsVolume (under base core.cache.current) tree → Acts shown (under base core.cache.current) tree core.tables.opens logged.op logged.pick (acted.Done changes picked))
      → ((made next : TreeAndOpens) → TellsCounts core.tables.opens made.opens → ((ino : ℕ) → made.opens ino ≤ 17 * length begins_with.seats) → IsCarriedOut made (as_picked logged) next → TellsCounts opens next.opens)
      → under base cache.current ≡ under (under base core.cache.current) changes
      → Holds before first base (replaying core cache opens done)
  holds_replays cache opens done logged shown changes picked is at part acts counted view =
      let front : IsFront before first (under base core.cache.current) core.tables.opens (tree_and_opens start) core.journal.oplog done = stands (stage.Restored done) is in
      let then = replays_one before first (under base core.cache.current) core.tables.opens opens (tree_and_opens start) (tree_and_opens now) (17 * length begins_with.seats) core.journal.oplog done logged shown changes picked front at h.replay.carried h.replay.few part
      (acts front.made.tree front.held.volume) (λ next few one. counted front.made next front.held.counted few one) in
      record {
        legal = h.legal;
        checkpoint = h.checkpoint;
        replay = h.replay;
        view = subst (λ (image : Image). IsFront before first image opens (tree_and_opens start) core.journal.oplog (done + 1)) (sym view) then;
      }

  pub holds_resumes : core.stage ≡ stage.Restored (length core.journal.oplog) → Holds before first base (resuming core)
  holds_resumes is =
      let front : IsFront before first (under base core.cache.current) core.tables.opens (tree_and_opens start) core.journal.oplog (length core.journal.oplog) = stands (stage.Restored (length core.journal.oplog)) is in
      let long : length (picked_ops core.journal.oplog) ≤ length core.journal.oplog = (let same = length-map core.journal.oplog as_picked in omega (arith, same)) in
      let all : AreCarriedOut (tree_and_opens start) (picked_ops core.journal.oplog) front.made =
      subst (λ made. AreCarriedOut (tree_and_opens start) made front.made) (take_all (length core.journal.oplog) (picked_ops core.journal.oplog) long) front.leads in
      let same : front.made ≡ tree_and_opens now = carried_out_once (tree_and_opens start) front.made (tree_and_opens now) (picked_ops core.journal.oplog) all h.replay.carried in
      record {
        legal = h.legal;
        checkpoint = h.checkpoint;
        replay = h.replay;
        view = subst (IsHeldBy before first (under base core.cache.current) core.tables.opens) same front.held;
      }

  -- ---- a checkpoint

  pub holds_seals : (sealed : PageList) → core.stage ≡ stage.Running → Holds before first (under base core.cache.current) (sealing core sealed)
  holds_seals sealed is =
      let view : IsHeldBy before first (under base core.cache.current) core.tables.opens (tree_and_opens now) = stands stage.Running is in
      let all : after_first begins_with core.journal.history (length core.journal.history) ≡ now = ap (after begins_with) (take_all (length core.journal.history) core.journal.history (omega arith)) in
      record {
        legal = h.legal;
        checkpoint = record {
          within = omega arith;
          volume = subst (λ (machine : Machine). IsVolume (under base core.cache.current) machine.tree) (sym all) view.volume;
          kept = subst (λ (machine : Machine). Kept before first machine.tree (under base core.cache.current)) (sym all) view.kept;
          seats = ap (λ (machine : Machine). machine.seats) all ∙ h.legal.seats;
        };
        replay = record {
          carried = ap tree_and_opens all;
          few = λ ino. subst (λ (machine : Machine). counts machine.seats ino ≤ 17 * length begins_with.seats) (sym all) (let few = few_opens now.seats ino in let stay = callers_stay begins_with core.journal.history in omega (arith, few, stay));
          since = log_sealed begins_with core.journal.history;
        };
        view = subst (ViewStands before first (under base core.cache.current) (tree_and_opens (after_first begins_with core.journal.history (length core.journal.history))) (tree_and_opens now) [] [] core.tables.opens) (sym is) view;
      }

  -- ---- a call is logged

  module _ (new : CoreState F D) (caller : ℕ) (mine : CallerState) (flight : Flight) (ticket : Ticket) (ready : Ready) (is : core.stage ≡ stage.Running) (plain : IsPlain ready.reply) (good : IsCall flight.call) (declared : caller < length now.seats)
      (few : (ino : ℕ) → counts now.seats ino < 4294967295) (done : IsPerformed (under base core.cache.current) now caller flight.call flight.moment ready)
      (installs : Installs core.cache new.cache core.tables.opens new.tables.opens ready) (above : core.config.start < flight.moment)
      (follows : AllByRecursion (λ earlier. Follows earlier (entry_for caller flight ready.pick ready.reply)) core.journal.history) where
    old_view : IsHeldBy before first (under base core.cache.current) core.tables.opens (tree_and_opens now)
    old_view = stands stage.Running is

    moves : IsMoved now caller flight ready (under base core.cache.current)
    moves = performed now caller flight ready (under base core.cache.current) declared h.legal.valid good done.lawful plain old_view.volume done.answered

    abbrev entry : Entry
    entry = entry_for caller flight ready.pick ready.reply

    abbrev ops : List Logged
    ops = logged_op ready.op ready.pick

    grown : after begins_with (core.journal.history ++ entry ∷ []) ≡ moves.next
    grown = after_grown begins_with core.journal.history entry ops _ moves.next moves.more

    opens_then : TellsCounts new.tables.opens (counts moves.next.seats)
    opens_then = subst (TellsCounts new.tables.opens) moves.opens
        (installs.counted (λ ino. (let one = old_view.counted ino in let low = few ino in omega (arith, one, low))) now.tree moves.held
        (ap (λ f. effect_of now.tree f ready.op ready.pick) (counts_are core.tables.opens (counts now.seats) old_view.counted) ∙ moves.effect))

    new_view : IsHeldBy before first (under base new.cache.current) new.tables.opens (tree_and_opens moves.next)
    new_view = subst (λ (image : Image). IsHeldBy before first image new.tables.opens (tree_and_opens moves.next)) (sym (installs.view base))
        (under_held (under base core.cache.current) ready.changes before first new.tables.opens (tree_and_opens moves.next) (record {
          volume = moves.volume;
          kept = kept_composes before now.tree moves.next.tree first (under base core.cache.current) _ old_view.kept moves.kept;
          counted = opens_then;
        }))

    pub holds_logs : Holds before first base (logging core new caller mine flight ticket ready)
    holds_logs = record {
      legal = subst (λ (seats : List Seat). IsLegalSoFar begins_with core.config.start (core.journal.history ++ entry ∷ []) (with_change seats caller ready.session)) h.legal.seats
          (legal_grown begins_with core.journal.history entry ops _ moves.next moves.more core.config.start core.tables.sessions h.legal above follows);
      checkpoint = checkpoint_grown begins_with before first base core.journal.history entry core.journal.sealed_at core.tables.saved h.checkpoint;
      replay = replay_grown begins_with core.journal.history entry ops _ moves.next moves.more core.journal.sealed_at core.journal.oplog h.checkpoint.within h.replay;
      view = subst (ViewStands before first base (tree_and_opens (after_first begins_with (core.journal.history ++ entry ∷ []) core.journal.sealed_at)) (tree_and_opens (after begins_with (core.journal.history ++ entry ∷ [])))
          (core.journal.oplog ++ ops) new.cache.current new.tables.opens) (sym is)
          (subst (λ (machine : Machine). IsHeldBy before first (under base new.cache.current) new.tables.opens (tree_and_opens machine)) (sym grown) new_view);
    }

  -- ---- a call ends with an entry that is not the model's step: the disk's, a restart's, or that of a failed volume

  module _ (caller : ℕ) (mine : CallerState) (flight : Flight) (answer : Reply) (pins : Stamps) (idle : IsIdle answer) (declared : caller < length now.seats) (above : core.config.start < flight.moment)
      (follows : AllByRecursion (λ earlier. Follows earlier (entry_for caller flight None answer)) core.journal.history) where
    abbrev cut_off : Entry
    cut_off = entry_for caller flight None answer

    cut_off_stays : MovesOn now cut_off [] now.seats now
    cut_off_stays = idle_moves now cut_off h.legal.valid idle (record { declared = declared; unpicked = refl })

    same_now : after begins_with (core.journal.history ++ cut_off ∷ []) ≡ now
    same_now = after_grown begins_with core.journal.history cut_off [] now.seats now cut_off_stays

    same_start : after_first begins_with (core.journal.history ++ cut_off ∷ []) core.journal.sealed_at ≡ start
    same_start = first_more begins_with core.journal.history cut_off core.journal.sealed_at h.checkpoint.within

    pub holds_answers : Holds before first base (answered_by core caller mine flight answer pins)
    holds_answers = record {
      legal = subst (IsLegalSoFar begins_with core.config.start (core.journal.history ++ cut_off ∷ [])) h.legal.seats
          (legal_grown begins_with core.journal.history cut_off [] now.seats now cut_off_stays core.config.start core.tables.sessions h.legal above follows);
      checkpoint = checkpoint_grown begins_with before first base core.journal.history cut_off core.journal.sealed_at core.tables.saved h.checkpoint;
      replay = subst (ReplaysToNow begins_with (core.journal.history ++ cut_off ∷ []) core.journal.sealed_at) (append-nil core.journal.oplog)
          (replay_grown begins_with core.journal.history cut_off [] now.seats now cut_off_stays core.journal.sealed_at core.journal.oplog h.checkpoint.within h.replay);
      view = subst (λ (machine : Machine). ViewStands before first base (tree_and_opens machine) (tree_and_opens (after begins_with (core.journal.history ++ cut_off ∷ []))) core.journal.oplog core.cache.current core.tables.opens core.stage) (sym same_start)
          (subst (λ (machine : Machine). ViewStands before first base (tree_and_opens start) (tree_and_opens machine) core.journal.oplog core.cache.current core.tables.opens core.stage) (sym same_now) h.view);
    }
