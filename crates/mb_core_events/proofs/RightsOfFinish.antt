-- A call that finishes: the core is in order after it.
use Rattle.std.proofs.Common.{ℕ, ◌+◌, ◌-◌, ◌^◌, ◌<◌, ◌≤◌, ◌≡◌, ◌∙◌, Bool, true, Option, Some, None, IsSome, length, slice_get, refl, ap, sym, subst, arith}
use Rattle.mb_kinds.specs.Image.{Image}
use Rattle.mb_kinds.specs.declared.entries.Flight.{Flight}
use Rattle.mb_kinds.specs.declared.faults.Ticket.{Ticket}
use Rattle.mb_kinds.specs.Changed.{AreChanges, ChangeList, changed}
use Rattle.mb_cache.specs.CacheLaws.{Moves}
use Rattle.mb_cache.specs.Pages.{PageList, installed, under}
use Rattle.mb_cache.specs.Stamps.{Stamps, raised_by, stamp_of}
use Rattle.mb_cache.proofs.Layers.{under_installed}
use Rattle.mb_cache.proofs.Raising.{installs_move, stamp_rises, stamp_stays}
use Rattle.mb_tables.specs.TableLaws.{CountsFollowEffect, LoggedTablesMove, StampRisesByOne}
use Rattle.mb_tree.specs.Sessions.{with_change}
use Rattle.mb_session.specs.OpenFiles.{TellsCounts}
use Rattle.mb_callers.specs.Stale.{AllFresh}
use Rattle.mb_callers.specs.Tables.{AreTablesFresh}
use Rattle.mb_core_spec.specs.Bounds.{StampsAreFew, replayed}
use Rattle.mb_core_spec.specs.Copies.{LiveTables, PagesState, TableCopy, TablesAreFresh}
use Rattle.mb_core_spec.specs.Events.{logging, staling}
use Rattle.mb_core_spec.specs.Flights.{IsFloor, IsMine, runs}
use Rattle.mb_core_spec.specs.Owed.{Installs, Rises, TablesMove}
use Rattle.mb_core_spec.specs.Right.{Right}
use Rattle.mb_core_spec.specs.State.{CallerState, CoreState}
use Rattle.mb_core_spec.specs.declared.ready.Ready.{Ready}
use Rattle.mb_core_spec.specs.declared.stages.Stage.{Stage}
use Rattle.mb_core_spec.specs.declared.stages.Stage.TheVariants as stage
use Rattle.mb_core_order.proofs.Rights.{right_logs}
use Rattle.mb_core_order.proofs.RightsOfCalls.{right_stale}
use Rattle.mb_core_state.specs.Answers.{IsPresent}
use Rattle.mb_core_state.specs.Finishing.{Finishes, HolderFlies, IsLogged}
use Rattle.mb_core_state.specs.Rooms.{FinishLeaves}
use Rattle.mb_core_state.specs.declared.answers.Finished.{Finished}
use Rattle.mb_core_state.specs.declared.answers.Finished.TheVariants as finished
use Rattle.mb_core_events.specs.Callings.{MayFinish}
use Rattle.mb_core_events.proofs.Kept.{carries, right_more}
use Rattle.mb_core_events.proofs.Knowing.{few_entries, few_insiders, few_records, marks_now, runs_now, ticket_is, within}
use Rattle.mb_core_events.proofs.RightsOfRecovery.{flies_inside}

-- ---- what an install does

pub rises_if : (old new : Stamps) (changes : ChangeList) (block : ℕ) → new ≡ raised_by old changes → AreChanges changes → stamp_of old block < 2 ^ 64 - 1 → (stamp_of old block ≤ stamp_of new block) × (stamp_of new block ≤ stamp_of old block + 1)
rises_if old new changes block is are few = elim (changed changes block) as (λ o. changed changes block ≡ o → (stamp_of old block ≤ stamp_of new block) × (stamp_of new block ≤ stamp_of old block + 1)) [
  | None ↦ λ none. (let same = ap (λ (s : Stamps). stamp_of s block) is ∙ stamp_stays old changes block none in (omega (arith, same), omega (arith, same)))
  | Some bytes ↦ λ some. (
      let there : IsSome (changed changes block) = subst IsSome (sym some) refl in
      let more = ap (λ (s : Stamps). stamp_of s block) is ∙ stamp_rises old changes block are.once there few in
      (omega (arith, more), omega (arith, more)))
] refl

-- the copy of the tables that was given is one that is kept
given_kept : (shared : Bool) (caller : ℕ) (live : LiveTables) (kept o : Option TableCopy) (given : TableCopy) → AreTablesFresh shared caller live kept o → o ≡ Some given → (copy : TableCopy) × (kept ≡ Some copy) × TablesAreFresh shared caller live copy given
given_kept shared caller live kept None given fresh is = cc
given_kept shared caller live None (Some other) given fresh is = absurd fresh
given_kept shared caller live (Some copy) (Some other) given fresh is =
    let same : other ≡ given = cc in
    (copy, refl, subst (TablesAreFresh shared caller live copy) same fresh)

module _ {F D : Type 0} (told : D → Option Image) (faults : D → ℕ) (core : CoreState F D) (r : Right told faults core) where
  -- who has the right to commit alone flies
  holder_at : (floor : Option ℕ) → IsFloor floor core.callers → HolderFlies floor core.callers
  holder_at None is = tt
  holder_at (Some holder) is =
      let flies = flies_inside told faults core r holder is.0 is.1 is.2 in
      (flies.ticket, record { mine = is.0; here = is.1; flight = flies.flight; flies = flies.flies; held = flies.held })

  pub holder_flies : HolderFlies core.floor core.callers
  holder_flies = holder_at core.floor r.orderly.floor

  pub few_changes : core.tables.stamp < 2 ^ 64 - 1
  few_changes = let few = few_entries told faults core r in let low = r.orderly.changes in omega (arith, few, low)

  few_stamps : core.stage ≡ stage.Running → (block : ℕ) → stamp_of core.cache.stamps block < 2 ^ 64 - 1
  few_stamps running block =
      let all : StampsAreFew true (length core.journal.history) (length core.journal.records) 0 core.cache.stamps =
      subst (λ (s : Stage). StampsAreFew (runs s) (length core.journal.history) (length core.journal.records) (replayed s) core.cache.stamps) running r.orderly.stamps in
      let low = all block in
      let entries = few_entries told faults core r in
      let records = few_records told faults core r in
      omega (arith, low, entries, records)

  module _ (follows_effect : CountsFollowEffect) (logged_moves : LoggedTablesMove) (rises_by_one : StampRisesByOne) (new : CoreState F D) (ticket : Ticket) (pages : PagesState) (ready : Ready) (may : MayFinish core ticket pages ready) where
    abbrev Logs : Type 0
    Logs = IsLogged core new ticket.caller may.of.mine may.of.flight ticket ready

    rises : core.stage ≡ stage.Running → Logs → AreChanges ready.changes → Rises core.cache.stamps new.cache.stamps
    rises running logged are block = rises_if core.cache.stamps new.cache.stamps ready.changes block logged.stamps are (few_stamps running block)

    moves : core.stage ≡ stage.Running → Logs → AreChanges ready.changes → (image : Image)
        → Moves (under (under image core.cache.sealed) core.cache.current) core.cache.stamps (under (under image core.cache.sealed) new.cache.current) new.cache.stamps
    moves running logged are image =
        subst (λ (current : PageList). Moves (under (under image core.cache.sealed) core.cache.current) core.cache.stamps (under (under image core.cache.sealed) current) new.cache.stamps) (sym logged.current)
        (subst (λ (stamps : Stamps). Moves (under (under image core.cache.sealed) core.cache.current) core.cache.stamps (under (under image core.cache.sealed) (installed core.cache.current ready.changes)) stamps) (sym logged.stamps)
        (installs_move (under image core.cache.sealed) core.cache.current core.cache.stamps ready.changes are (λ block there. few_stamps running block)))

    tables_move : Logs → TablesMove core.tables (record core.tables { sessions = with_change core.tables.sessions ticket.caller ready.session; opens = new.tables.opens; stamp = new.tables.stamp })
    tables_move logged =
        subst (λ (tables : LiveTables). TablesMove core.tables (record core.tables { sessions = with_change core.tables.sessions ticket.caller ready.session; opens = tables.opens; stamp = tables.stamp })) (sym logged.tables)
        (logged_moves core.tables ticket.caller ready.op ready.pick ready.session)

    once : Logs → new.tables.stamp ≤ core.tables.stamp + 1
    once logged = subst (λ (tables : LiveTables). tables.stamp ≤ core.tables.stamp + 1) (sym logged.tables) (rises_by_one core.tables ticket.caller ready.op ready.pick ready.session)

    installs : Logs → AreChanges ready.changes → Installs core.cache new.cache core.tables.opens new.tables.opens ready
    installs logged are = record {
      view = λ base. ap (under base) logged.current ∙ under_installed base core.cache.current ready.changes are.once;
      counted = λ few tree held leads. subst (λ (tables : LiveTables). TellsCounts tables.opens held.opens) (sym logged.tables) (follows_effect core.tables.opens tree ready.op ready.pick held few leads);
    }

    logged_right : IsPresent core ticket → IsMine ticket.caller core.floor → AllFresh ready.shared ticket.caller core.cache.stamps core.tables may.of.mine.pages pages → IsLogged core new ticket.caller may.of.mine may.of.flight ticket ready
        → FinishLeaves core.journal.room new.journal.room finished.Logged → AreChanges ready.changes → Right told faults new
    logged_right present floor fresh logged room are =
        let of = may.of in
        let w = within told faults core r ticket of present in
        let t = ticket_is told faults core r ticket of in
        let running = runs_now told faults core r ticket of present in
        let few = few_insiders told faults core r in
        let trail = room.trail in
        let kept = given_kept ready.shared ticket.caller core.tables of.mine.pages.tables pages.tables may.given ((fresh 0).tables refl) may.tables in
        carries told faults (logging core new ticket.caller of.mine of.flight ticket ready) new logged.event
        (right_logs told faults core r ticket.caller of.mine of.here of.flight of.flies may.unanswered ticket of.held w.inside t.ordinal t.caller_is running floor new.cache.pins logged.back new.journal.room
        (omega (arith, few, trail), room.records) room.history new ready may.plain refl (rises running logged are) (tables_move logged) (once logged) (moves running logged are)
        pages.blocks kept.0 may.given may.ready_for (λ block. (fresh block).page) kept.1 kept.2 (installs logged are))

    pub finished_right : (answer : Finished)
        → ((mine : CallerState) (flight : Flight) → slice_get core.callers ticket.caller ≡ Some mine → mine.flight ≡ Some flight → Finishes core new ticket mine flight pages ready answer)
        → FinishLeaves core.journal.room new.journal.room answer → (answer ≡ finished.Logged → AreChanges ready.changes) → Right told faults new
    finished_right (finished.Skip was now) by room are = subst (Right told faults) (sym (by may.of.mine may.of.flight may.of.here may.of.flies).same) r
    finished_right (finished.Busy holder) by room are = subst (Right told faults) (sym (by may.of.mine may.of.flight may.of.here may.of.flies).2) r
    finished_right (finished.Stale block) by room are =
        let of = may.of in
        let its = by of.mine of.flight of.here of.flies in
        let w = within told faults core r ticket of its.0 in
        let t = ticket_is told faults core r ticket of in
        let marks = (marks_now told faults core r ticket of its.0).1 in
        let few = few_insiders told faults core r in
        let trail = room.0 in
        let records = room.2 in
        carries told faults (staling core ticket.caller of.mine ticket block new.cache.pins) new its.3
        (right_stale told faults core r ticket.caller of.mine of.here of.flight of.flies ticket of.held w.inside t.ordinal t.caller_is new.cache.pins its.4 new.journal.room may.unanswered (runs_now told faults core r ticket of its.0) its.1
        (omega (arith, few, trail), omega (arith, marks, records)) block room.1)
    finished_right finished.NoMemory by room are = right_more told faults core r new (by may.of.mine may.of.flight may.of.here may.of.flies).2 room
    finished_right finished.Logged by room are =
        let its = by may.of.mine may.of.flight may.of.here may.of.flies in
        logged_right its.0 its.1 its.2 its.3 room (are refl)
