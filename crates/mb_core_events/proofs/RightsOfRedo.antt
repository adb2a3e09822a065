-- The steps of a recovery that read: the core is in order after them.
use Rattle.std.proofs.Common.{ℕ, ◌-◌, ◌^◌, ◌<◌, ◌≤◌, ◌≡◌, ◌∙◌, false, Bool, Option, Some, None, IfErr, IfSome, Result, Ok, Err, OnOk, length, option_map, slice_get, refl, ap, sym, subst, arith}
use Rattle.std.specs.Prelude.{nat_lt}
use Rattle.mb_kinds.specs.Image.{Image}
use Rattle.mb_kinds.specs.declared.entries.Flight.{Flight}
use Rattle.mb_kinds.specs.declared.replies.Reply.TheVariants as reply
use Rattle.mb_edge.specs.Causes.{Rose}
use Rattle.mb_oplog.specs.declared.oplogs.Logged.{Logged}
use Rattle.mb_cache.specs.Pages.{under}
use Rattle.mb_cache.specs.Stamps.{stamp_of}
use Rattle.mb_cache.specs.declared.answers.ReadFault.{ReadFault}
use Rattle.mb_cache.specs.declared.answers.ReadFault.TheVariants as read
use Rattle.mb_cache.proofs.Layers.{under_installed}
use Rattle.mb_tables.specs.Follows.{followed}
use Rattle.mb_tables.specs.TableLaws.{CountsFollowReplay}
use Rattle.mb_journal.specs.Room.{KeepsRoom}
use Rattle.mb_core_spec.specs.Bounds.{StampsAreFew, replayed}
use Rattle.mb_core_spec.specs.Callers.{insiders, one_if}
use Rattle.mb_core_spec.specs.Events.{answered_by, entry_for, with_room}
use Rattle.mb_core_spec.specs.Flights.{runs}
use Rattle.mb_core_spec.specs.Numbers.{is_open, open_flight}
use Rattle.mb_core_spec.specs.Recovery.{remounting}
use Rattle.mb_core_spec.specs.Right.{Right}
use Rattle.mb_core_spec.specs.State.{CallerState, CoreState}
use Rattle.mb_core_spec.specs.declared.stages.Stage.{Stage}
use Rattle.mb_core_spec.specs.declared.stages.Stage.TheVariants as stage
use Rattle.mb_core_order.proofs.Rights.{right_remounts}
use Rattle.mb_core_order.proofs.RightsOfCalls.{right_answers, right_replays}
use Rattle.mb_core_state.specs.Answers.{with_disk}
use Rattle.mb_core_state.specs.Redoing.{EndsByDevice, EndsIf, FailsStep, HasOpenRoom, IsRemounted, IsReplayed, redoing, with_changes}
use Rattle.mb_core_state.specs.Rooms.{HasPins}
use Rattle.mb_core_state.specs.declared.answers.Phase.TheVariants as phase
use Rattle.mb_core_events.specs.Callings.{MayReplayNow, phase_now}
use Rattle.mb_core_events.proofs.Kept.{carries, marks_stay, right_room}
use Rattle.mb_core_events.proofs.Knowing.{few_entries, few_logged, few_records, has_pins, part_of_total, slice_get_some}
use Rattle.mb_core_events.proofs.Phases.{remounts_at, replays_at}
use Rattle.mb_core_events.proofs.RightsOfFinish.{rises_if}
use Rattle.mb_core_events.proofs.RightsOfGather.{few_device, read_right}

module _ {F D : Type 0} (told : D → Option Image) (faults : D → ℕ) (core : CoreState F D) (r : Right told faults core) where
  abbrev here : Bool
  here = nat_lt 0 (insiders core.callers)

  abbrev log : ℕ
  log = length core.journal.oplog

  -- ---- what a step asks of its caller

  pub pins_if : (by : Option ℕ) → IfSome by (HasPins core)
  pins_if None = tt
  pins_if (Some caller) = has_pins told faults core r caller

  pub callers_if : (by : Option ℕ) → IfSome by (λ caller. caller < length core.config.callers) → IfSome by (λ caller. caller < length core.callers)
  callers_if None declared = tt
  callers_if (Some caller) declared = let same = r.orderly.numbered.callers_are in omega (arith, declared, same)

  open_room : (caller : ℕ) → HasOpenRoom core caller
  open_room caller mine flight at waits =
      let part = part_of_total (λ (d : CallerState). one_if (is_open (open_flight d.flight))) core.callers caller mine at in
      let one : one_if (is_open (open_flight mine.flight)) ≡ 1 = rw waits refl in
      let room = r.orderly.entries in
      omega (arith, part, one, room)

  pub open_room_if : (by : Option ℕ) → IfSome by (HasOpenRoom core)
  open_room_if None = tt
  open_room_if (Some caller) = open_room caller

  -- ---- the disk failed, or memory was wanted

  -- nothing happened but to the disk, and no room is lost
  read_more : (new : CoreState F D) → Right told faults (with_disk core new.cache.disk) → new ≡ with_room (with_disk core new.cache.disk) new → KeepsRoom core.journal.room new.journal.room → Right told faults new
  read_more new read event kept = carries told faults (with_disk core new.cache.disk) new event
      (right_room told faults (with_disk core new.cache.disk) read new.journal.room kept.history (marks_stay core.stage (insiders core.callers) core.journal.room new.journal.room kept.trail kept.records r.orderly.marks))

  ends_right : (new : CoreState F D) (caller : ℕ) (mine : CallerState) (flying : Option Flight) → slice_get core.callers caller ≡ Some mine → open_flight mine.flight ≡ flying → Right told faults (with_disk core new.cache.disk)
      → faults core.cache.disk ≤ faults new.cache.disk → Rose (faults core.cache.disk) (faults new.cache.disk) → (core.stage ≡ stage.Failed → ⊥) → EndsIf (with_disk core new.cache.disk) new caller mine flying → Right told faults new
  ends_right new caller mine None at is read later rose running ends = read_more new read ends.0 ends.1
  ends_right new caller mine (Some flight) at is read later rose running ends =
      carries told faults (answered_by (with_disk core new.cache.disk) caller mine flight reply.Device new.cache.pins) new ends.0
      (right_answers told faults (with_disk core new.cache.disk) read caller mine at flight reply.Device new.cache.pins new.journal.room is tt ends.1 ends.2 tt (λ failed. absurd (running failed))
      (few_device (faults core.first) (faults core.cache.disk) (faults new.cache.disk) core.journal.history (entry_for caller flight None reply.Device) r.devices later rose refl))

  some_caller : (caller : ℕ) → caller < length core.callers → (mine : CallerState) × (slice_get core.callers caller ≡ Some mine)
  some_caller caller low = slice_get_some core.callers caller low

  fails_by : (new : CoreState F D) (by : Option ℕ) → IfSome by (λ caller. caller < length core.callers) → Right told faults (with_disk core new.cache.disk) → faults core.cache.disk ≤ faults new.cache.disk
      → Rose (faults core.cache.disk) (faults new.cache.disk) → (core.stage ≡ stage.Failed → ⊥) → EndsByDevice (with_disk core new.cache.disk) new by → Right told faults new
  fails_by new None low read later rose running ends = read_more new read ends.0 ends.1
  fails_by new (Some caller) low read later rose running ends = let at = some_caller caller low in ends_right new caller at.0 (open_flight at.0.flight) at.1 refl read later rose running (ends at.0 at.1)

  fails_right : (new : CoreState F D) (by : Option ℕ) (fault : ReadFault) → IfSome by (λ caller. caller < length core.config.callers) → told new.cache.disk ≡ told core.cache.disk → faults core.cache.disk ≤ faults new.cache.disk
      → (core.stage ≡ stage.Failed → ⊥) → FailsStep faults core new by fault → Right told faults new
  fails_right new by read.NoMemory low same later running fails = read_more new (read_right told faults core r new.cache.disk same later) fails.0 fails.1
  fails_right new by read.Device low same later running fails =
      fails_by new by (callers_if by low) (read_right told faults core r new.cache.disk same later) later fails.0 running fails.1

  -- ---- the file system is started anew

  pub remounted_right : (new : CoreState F D) (by : Option ℕ) (result : Result (Unit {0}) ReadFault) → phase_now core ≡ phase.Remount → IfSome by (λ caller. caller < length core.config.callers)
      → OnOk result (IsRemounted core new) → IfErr result (FailsStep faults core new by) → told new.cache.disk ≡ told core.cache.disk → faults core.cache.disk ≤ faults new.cache.disk
      → OnOk result (core.journal.room.history ≤ new.journal.room.history) → Right told faults new
  remounted_right new by (Ok done) is low ok err same later history = carries told faults (remounting core new.cache.disk new.journal.oplog) new ok.event
      (right_remounts told faults core r new.cache.disk new.journal.oplog new.journal.room history (remounts_at core.stage here log is) ok.folds same later)
  remounted_right new by (Err fault) is low ok err same later history =
      fails_right new by fault low same later (λ failed. (let wrong : stage.Dropped ≡ stage.Failed = sym (remounts_at core.stage here log is) ∙ failed in cc)) err

  -- ---- an operation is done again

  pub next_now : MayReplayNow (phase_now core) → (done : ℕ) × (core.stage ≡ stage.Restored done) × (done < length core.journal.oplog)
  next_now may = let at = replays_at core.stage here log may.0 may.1 in (at.0, at.1, at.3)

  few_stamps : (done : ℕ) → core.stage ≡ stage.Restored done → (block : ℕ) → stamp_of core.cache.stamps block < 2 ^ 64 - 1
  few_stamps done is block =
      let all : StampsAreFew false (length core.journal.history) (length core.journal.records) done core.cache.stamps =
      subst (λ (s : Stage). StampsAreFew (runs s) (length core.journal.history) (length core.journal.records) (replayed s) core.cache.stamps) is r.orderly.stamps in
      let low = all block in
      let within : replayed core.stage ≤ length core.journal.oplog = r.orderly.within in
      let at : replayed core.stage ≡ done = ap replayed is in
      let short = few_logged told faults core r in
      let entries = few_entries told faults core r in
      let records = few_records told faults core r in
      omega (arith, low, entries, records, within, at, short)

  replayed_by : CountsFollowReplay → (new : CoreState F D) (done : ℕ) (logged : Logged) → core.stage ≡ stage.Restored done → slice_get core.journal.oplog done ≡ Some logged → told new.cache.disk ≡ told core.cache.disk
      → faults core.cache.disk ≤ faults new.cache.disk → core.journal.room.history ≤ new.journal.room.history → IsReplayed told core new done logged → Right told faults new
  replayed_by follows new done logged is at same later history by =
      let mid = with_disk core new.cache.disk in
      carries told faults (redoing mid logged by.changes done) new by.event
      (right_replays told faults mid (read_right told faults core r new.cache.disk same later) (with_changes mid.cache by.changes) (followed core.tables.opens logged.op logged.pick) done logged by.acts.pages by.changes by.acts.picked
      new.journal.room history is at (λ block. (rises_if core.cache.stamps _ by.changes block refl by.are (few_stamps done is block)).1)
      (λ image tells. by.acts.part (under (under image core.cache.sealed) core.cache.current) (seen_now image tells))
      (λ image tree tells volume. by.acts.acts (under (under image core.cache.sealed) core.cache.current) tree (seen_now image tells) volume)
      (λ made next counts few carried. follows core.tables.opens logged made next counts few carried)
      (λ image. under_installed image core.cache.current by.changes by.are.once) refl (omega arith))
    where
      seen_now : (image : Image) → told new.cache.disk ≡ Some image → option_map (λ (i : Image). under (under i core.cache.sealed) core.cache.current) (told core.cache.disk) ≡ Some (under (under image core.cache.sealed) core.cache.current)
      seen_now image tells = ap (option_map (λ (i : Image). under (under i core.cache.sealed) core.cache.current)) (sym same ∙ tells)

  pub replayed_right : CountsFollowReplay → (new : CoreState F D) (by : Option ℕ) (result : Result (Unit {0}) ReadFault) → MayReplayNow (phase_now core) → IfSome by (λ caller. caller < length core.config.callers)
      → OnOk result ((done : ℕ) (logged : Logged) → core.stage ≡ stage.Restored done → slice_get core.journal.oplog done ≡ Some logged → IsReplayed told core new done logged) → IfErr result (FailsStep faults core new by)
      → told new.cache.disk ≡ told core.cache.disk → faults core.cache.disk ≤ faults new.cache.disk → OnOk result (core.journal.room.history ≤ new.journal.room.history) → Right told faults new
  replayed_right follows new by (Ok done) may low ok err same later history =
      let at = next_now may in
      let logged = slice_get_some core.journal.oplog at.0 at.2 in
      replayed_by follows new at.0 logged.0 at.1 logged.1 same later history (ok at.0 logged.0 at.1 logged.1)
  replayed_right follows new by (Err fault) may low ok err same later history =
      fails_right new by fault low same later (λ failed. (let wrong : stage.Restored (next_now may).0 ≡ stage.Failed = sym (next_now may).1 ∙ failed in cc)) err
