-- For each event, when it may come and what its code owes beside the equation. With that the event keeps a core in
-- order. `room` is the journal's room that the event leaves.
use Rattle.std.specs.Prelude.{List, [], ◌∷◌, ◌++◌, ℕ, ◌+◌, ◌<◌, ◌≤◌, ◌≡◌, ◌⊎◌, true, false, Option, None, Some, IsSome, length, map, slice_get}
use Rattle.mb_kinds.specs.Image.{Image}
use Rattle.mb_kinds.specs.declared.calls.Call.{Call}
use Rattle.mb_kinds.specs.declared.entries.Flight.{Flight}
use Rattle.mb_kinds.specs.declared.faults.Ticket.{Ticket}
use Rattle.mb_kinds.specs.declared.replies.Reply.{Reply}
use Rattle.mb_edge.specs.Damage.{OpenCounts}
use Rattle.mb_folds.specs.Folded.{folded}
use Rattle.mb_tree.specs.CarriedOut.{IsCarriedOut}
use Rattle.mb_tree.specs.Effect.{TreeAndOpens}
use Rattle.mb_tree.specs.History.{IsFailed}
use Rattle.mb_tree.specs.Opening.{first_seat, opening}
use Rattle.mb_tree.specs.SessionLaws.{IsCall}
use Rattle.mb_tree.specs.Sessions.{counts, with_change}
use Rattle.mb_tree.specs.Views.{IsPart, Kept}
use Rattle.mb_tree.specs.Volume.{IsVolume}
use Rattle.mb_tree.specs.declared.trees.Tree.{Tree}
use Rattle.mb_iface.specs.Acting.{Acts}
use Rattle.mb_kinds.specs.Changed.{ChangeList}
use Rattle.mb_iface.specs.declared.replies.Acted.TheVariants as acted
use Rattle.mb_gate.specs.declared.ulogs.Undo.{Undo}
use Rattle.mb_oplog.specs.declared.oplogs.Logged.{Logged}
use Rattle.mb_cache.specs.CacheLaws.{Moves}
use Rattle.mb_cache.specs.Pages.{PageList, under}
use Rattle.mb_cache.specs.Stamps.{Stamps, stamp_of}
use Rattle.mb_cache.specs.State.{CacheState, ReadsAlike}
use Rattle.mb_core_spec.specs.Bounds.{IsConfig}
use Rattle.mb_core_spec.specs.Callers.{EachCaller, insiders, total}
use Rattle.mb_cache.specs.Kept.{CopyList, KeptBlock, kept_at, shown}
use Rattle.mb_core_spec.specs.Copies.{AreFresh, PagesState, TableCopy, TablesAreFresh}
use Rattle.mb_session.specs.OpenFiles.{TellsCounts}
use Rattle.mb_core_spec.specs.Events.{Gathers, GivesBack, Leaves, entry_for}
use Rattle.mb_core_spec.specs.Faults.{FewDevices, Says}
use Rattle.mb_core_spec.specs.Flights.{IsMine, is_pin}
use Rattle.mb_core_spec.specs.Histories.{as_picked, picked_ops}
use Rattle.mb_core_spec.specs.Numbers.{open_calls, open_flight}
use Rattle.mb_core_spec.specs.Owed.{Installs, IsIdle, IsPlain, Rises, TablesMove}
use Rattle.mb_core_spec.specs.Performed.{IsReadyFor}
use Rattle.mb_core_spec.specs.State.{CallerState, CoreState, JournalRoom}
use Rattle.mb_core_spec.specs.declared.config.Config.{Config}
use Rattle.mb_core_spec.specs.declared.ready.Ready.{Ready}
use Rattle.mb_core_spec.specs.declared.stages.Stage.TheVariants as stage

-- ---- a core begins

-- nothing is pinned, no current page; stamps are those of one install, the sweep's; and under its checkpointed pages the disk
-- is the volume that opening finds
pub record MayBegin {D : Type 0} (told : D → Option Image) (faults : D → ℕ) (first : D) (config : Config) (cache : CacheState D) (opens : OpenCounts) : Type 0 where
  pub config_is : IsConfig config
  pub stamps : (block : ℕ) → stamp_of cache.stamps block ≤ 1
  pub pins : (block : ℕ) → stamp_of cache.pins block ≡ 0
  pub bare : cache.current ≡ []
  pub counted : TellsCounts opens (counts (map first_seat config.callers))
  pub tells : (image : Image) → told first ≡ Some image → IsSome (told cache.disk)
  pub later : faults first ≤ faults cache.disk
  pub swept : (old image : Image) (tree : Tree) → told first ≡ Some old → told cache.disk ≡ Some image → IsVolume old tree
      → IsVolume (under image cache.sealed) (opening tree config.callers).tree × Kept tree old (opening tree config.callers).tree (under image cache.sealed)

-- ---- calls

-- a caller without a call in flight begins one
pub record MayStart {F D : Type 0} (core : CoreState F D) (at : ℕ) (mine : CallerState) (call : Call) (room : JournalRoom) : Type 0 where
  pub here : slice_get core.callers at ≡ Some mine
  pub call_is : IsCall call
  pub free : mine.flight ≡ None
  pub few : mine.begun < core.config.most
  pub left : Leaves core.journal.room room 0 0
  pub space : open_calls core.callers + 1 ≤ room.history

-- a call in flight that is not inside enters a running volume, with a new ticket; eleven steps of the trace and a fault
-- record may then come without memory
pub record MayEnter {F D : Type 0} (core : CoreState F D) (at : ℕ) (mine : CallerState) (flight : Flight) (ticket : Ticket) (room : JournalRoom) : Type 0 where
  pub here : slice_get core.callers at ≡ Some mine
  pub flies : mine.flight ≡ Some flight
  pub unanswered : flight.answered ≡ false
  pub outside : mine.inside ≡ false
  pub runs : core.stage ≡ stage.Running
  pub ticket_is : ticket ≡ record { caller = at; ordinal = flight.ordinal; incarnation = core.incarnation; moment = flight.moment }
  pub marks : 11 ≤ room.trail
  pub records : 1 ≤ room.records
  pub entries : core.journal.room.history ≤ room.history

-- a call inside gathers: what it reads is what is seen, and what it pins is what its undo log says
pub record MayGather {F D : Type 0} (told : D → Option Image) (faults : D → ℕ) (core : CoreState F D) (at : ℕ) (mine : CallerState) (disk : D) (pages : PagesState) (steps : List Undo) (pins : Stamps) : Type 0 where
  pub here : slice_get core.callers at ≡ Some mine
  pub inside : mine.inside ≡ true
  pub gathers : Gathers core.cache.stamps core.tables mine.pages pages
  pub pinned : (block : ℕ) → stamp_of pins block + total (is_pin block) mine.undo ≡ stamp_of core.cache.pins block + total (is_pin block) steps
  pub reads : (image : Image) → told core.cache.disk ≡ Some image → (block : ℕ) (kept : KeptBlock) → kept_at pages.blocks block ≡ Some kept
      → (kept_at mine.pages.blocks block ≡ Some kept) ⊎ ((under (under image core.cache.sealed) core.cache.current).at block ≡ kept.bytes)
  pub same : told disk ≡ told core.cache.disk
  pub later : faults core.cache.disk ≤ faults disk

-- a call in flight ends, in any stage
pub record MayEnd {F D : Type 0} (core : CoreState F D) (at : ℕ) (mine : CallerState) (pins : Stamps) : Type 0 where
  pub here : slice_get core.callers at ≡ Some mine
  pub back : GivesBack core.cache.pins pins mine.undo

-- it ends with an entry that is not the model's step: the disk's count of faults rose, the fault records name two of its own,
-- or the volume failed
pub record MayAnswer {F D : Type 0} (faults : D → ℕ) (core : CoreState F D) (at : ℕ) (mine : CallerState) (flight : Flight) (answer : Reply) (pins : Stamps) (room : JournalRoom) : Type 0 where
  pub here : slice_get core.callers at ≡ Some mine
  pub flies : open_flight mine.flight ≡ Some flight
  pub idle : IsIdle answer
  pub back : GivesBack core.cache.pins pins mine.undo
  pub left : Leaves core.journal.room room 0 1
  pub says : Says core.journal.records core.config.limit core.stage at flight.ordinal answer
  pub failed : core.stage ≡ stage.Failed → IsFailed answer
  pub device : FewDevices (faults core.first) (faults core.cache.disk) (core.journal.history ++ entry_for at flight None answer ∷ [])

-- a call that is inside, with its ticket
pub record IsInside {F D : Type 0} (core : CoreState F D) (at : ℕ) (mine : CallerState) (flight : Flight) (ticket : Ticket) : Type 0 where
  pub here : slice_get core.callers at ≡ Some mine
  pub flies : mine.flight ≡ Some flight
  pub held : flight.ticket ≡ Some ticket
  pub inside : mine.inside ≡ true

-- a call that has its entry leaves
pub record MayLeave {F D : Type 0} (core : CoreState F D) (at : ℕ) (mine : CallerState) (flight : Flight) (ticket : Ticket) (pins : Stamps) (room : JournalRoom) : Type 0 where
  pub within : IsInside core at mine flight ticket
  pub runs : core.stage ≡ stage.Running
  pub answered : flight.answered ≡ true
  pub back : GivesBack core.cache.pins pins mine.undo
  pub left : Leaves core.journal.room room 1 0

-- a call without its entry meets a stale copy, while nobody else has the right to commit alone
pub record MayStale {F D : Type 0} (core : CoreState F D) (at : ℕ) (mine : CallerState) (flight : Flight) (ticket : Ticket) (pins : Stamps) (room : JournalRoom) : Type 0 where
  pub within : IsInside core at mine flight ticket
  pub runs : core.stage ≡ stage.Running
  pub unanswered : flight.answered ≡ false
  pub floor : IsMine at core.floor
  pub back : GivesBack core.cache.pins pins mine.undo
  pub marks : insiders core.callers + 2 ≤ room.trail
  pub records : 1 ≤ room.records
  pub entries : core.journal.room.history ≤ room.history

-- what a call that finishes was performed over: pages that it gathered, of which none is stale
pub record IsFinished {F D : Type 0} (core : CoreState F D) (at : ℕ) (mine : CallerState) (flight : Flight) (ready : Ready) : Type 0 where
  pub pages : CopyList
  pub given : TableCopy
  pub kept : TableCopy
  pub ready_for : IsReadyFor (shown pages) given.sessions given.opens at flight.call flight.moment ready
  pub plain : IsPlain ready.reply
  pub fresh : AreFresh mine.pages.blocks core.cache.stamps pages
  pub kept_is : mine.pages.tables ≡ Some kept
  pub tables_fresh : TablesAreFresh ready.shared at core.tables kept given

-- a call without its entry is logged, while nobody else has the right to commit alone; `new` has the cache and the table of open
-- files after the install
pub record MayLog {F D : Type 0} (core new : CoreState F D) (at : ℕ) (mine : CallerState) (flight : Flight) (ticket : Ticket) (ready : Ready) (room : JournalRoom) : Type 0 where
  pub within : IsInside core at mine flight ticket
  pub runs : core.stage ≡ stage.Running
  pub unanswered : flight.answered ≡ false
  pub floor : IsMine at core.floor
  pub finished : IsFinished core at mine flight ready
  pub installs : Installs core.cache new.cache core.tables.opens new.tables.opens ready
  pub back : GivesBack core.cache.pins new.cache.pins mine.undo
  pub rises : Rises core.cache.stamps new.cache.stamps
  pub moves : (image : Image) → Moves (under (under image core.cache.sealed) core.cache.current) core.cache.stamps (under (under image core.cache.sealed) new.cache.current) new.cache.stamps
  pub tables : TablesMove core.tables (record core.tables { sessions = with_change core.tables.sessions at ready.session; opens = new.tables.opens; stamp = new.tables.stamp })
  pub once : new.tables.stamp ≤ core.tables.stamp + 1
  pub marks : insiders core.callers + 2 ≤ room.trail
  pub records : 1 ≤ room.records
  pub entries : core.journal.room.history ≤ room.history + 1

-- ---- a checkpoint

-- the volume runs, and the new checkpointed pages read as the old ones under the current ones
pub record MaySeal {F D : Type 0} (core : CoreState F D) (sealed : PageList) (room : JournalRoom) : Type 0 where
  pub runs : core.stage ≡ stage.Running
  pub reads : (image : Image) → under image sealed ≡ under (under image core.cache.sealed) core.cache.current
  pub marks : 1 ≤ insiders core.callers → (insiders core.callers + 2 ≤ room.trail) × (1 ≤ room.records)
  pub entries : core.journal.room.history ≤ room.history

-- a write-back of a checkpointed page: what is read under the pages stays
pub record MayFlush {F D : Type 0} (told : D → Option Image) (faults : D → ℕ) (core : CoreState F D) (disk : D) (sealed : PageList) : Type 0 where
  pub alike : ReadsAlike (told core.cache.disk) core.cache.sealed (told disk) sealed
  pub later : faults core.cache.disk ≤ faults disk

-- ---- faults

-- a fault on a running volume, of a declared caller's crossing, while a call is inside
pub record MayStrike {F D : Type 0} (core : CoreState F D) (ticket : Ticket) (room : JournalRoom) : Type 0 where
  pub declared : ticket.caller < length core.config.callers
  pub runs : core.stage ≡ stage.Running
  pub some : 1 ≤ insiders core.callers
  pub marks : core.journal.room.trail ≤ room.trail + 1
  pub entries : core.journal.room.history ≤ room.history

-- a fault in a recovery, at a crossing of a declared caller: once the dirty pages were dropped, and not between the start of the
-- file system and the restoring of the open files
pub record MayStrikeAgain {F D : Type 0} (core : CoreState F D) (caller : ℕ) (room : JournalRoom) : Type 0 where
  pub declared : caller < length core.config.callers
  pub recovers : (core.stage ≡ stage.Dropped) ⊎ ((done : ℕ) × (core.stage ≡ stage.Restored done))
  pub marks : 1 ≤ room.trail
  pub entries : core.journal.room.history ≤ room.history

-- ---- the steps of a recovery

-- the caller inside with the least number is unwound
pub record MayUnwind {F D : Type 0} (core : CoreState F D) (at : ℕ) (mine : CallerState) (flight : Flight) (ticket : Ticket) (pins : Stamps) (room : JournalRoom) : Type 0 where
  pub within : IsInside core at mine flight ticket
  pub struck : core.stage ≡ stage.Struck
  pub least : EachCaller (λ other one. one.inside ≡ true → at ≤ other) core.callers
  pub back : GivesBack core.cache.pins pins mine.undo
  pub left : Leaves core.journal.room room 1 0

-- after a fault on a running volume nobody is inside any more; after one in a recovery nobody was
abbrev pub AreUnwound : {F D : Type 0} → CoreState F D → Type 0
AreUnwound core = ((core.stage ≡ stage.Struck) × EachCaller (λ caller mine. mine.inside ≡ false) core.callers) ⊎ (core.stage ≡ stage.Again)

-- the dirty pages are dropped: at most as many faults struck as are recovered from
pub record MayDrop {F D : Type 0} (core : CoreState F D) (room : JournalRoom) : Type 0 where
  pub unwound : AreUnwound core
  pub few : length core.journal.records ≤ core.config.limit
  pub entries : core.journal.room.history ≤ room.history

-- the volume is given up: more struck
pub record MayFail {F D : Type 0} (core : CoreState F D) (room : JournalRoom) : Type 0 where
  pub unwound : AreUnwound core
  pub many : core.config.limit < length core.journal.records
  pub entries : core.journal.room.history ≤ room.history

-- the file system is started anew, on a disk that tells what it told, and the log is folded
pub record MayRemount {F D : Type 0} (told : D → Option Image) (faults : D → ℕ) (core : CoreState F D) (disk : D) (oplog : List Logged) (room : JournalRoom) : Type 0 where
  pub dropped : core.stage ≡ stage.Dropped
  pub folds : picked_ops oplog ≡ folded (picked_ops core.journal.oplog)
  pub same : told disk ≡ told core.cache.disk
  pub later : faults core.cache.disk ≤ faults disk
  pub entries : core.journal.room.history ≤ room.history

-- the open files are those of the saved sessions
pub record MayReopen {F D : Type 0} (core : CoreState F D) (opens : OpenCounts) (room : JournalRoom) : Type 0 where
  pub remounted : core.stage ≡ stage.Remounted
  pub counted : TellsCounts opens (counts core.tables.saved)
  pub entries : core.journal.room.history ≤ room.history

-- what a file system made of an operation that is done again: its answer over blocks of the view, and the table that follows,
-- which finds at most 136 open files on an inode
pub record IsDoneAgain {D : Type 0} (told : D → Option Image) (old new : CacheState D) (opens grown : OpenCounts) (logged : Logged) : Type 0 where
  pub pages : ℕ → Option (List ℕ)
  pub changes : ChangeList
  pub picked : Option ℕ
  pub part : (image : Image) → told old.disk ≡ Some image → IsPart pages (under (under image old.sealed) old.current).at
  pub acts : (image : Image) (tree : Tree) → told old.disk ≡ Some image → IsVolume (under (under image old.sealed) old.current) tree
      → Acts pages (under (under image old.sealed) old.current) tree opens logged.op logged.pick (acted.Done changes picked)
  pub view : (base : Image) → under base new.current ≡ under (under base old.current) changes
  pub counted : (made next : TreeAndOpens) → TellsCounts opens made.opens → ((ino : ℕ) → made.opens ino ≤ 136) → IsCarriedOut made (as_picked logged) next → TellsCounts grown next.opens

-- the next operation of the log is done again
pub record MayReplay {F D : Type 0} (told : D → Option Image) (faults : D → ℕ) (core : CoreState F D) (cache : CacheState D) (opens : OpenCounts) (done : ℕ) (logged : Logged) (room : JournalRoom) : Type 0 where
  pub restored : core.stage ≡ stage.Restored done
  pub next : slice_get core.journal.oplog done ≡ Some logged
  pub again : IsDoneAgain told core.cache cache core.tables.opens opens logged
  pub rises : (block : ℕ) → stamp_of cache.stamps block ≤ stamp_of core.cache.stamps block + 1
  pub same : told cache.disk ≡ told core.cache.disk
  pub later : faults core.cache.disk ≤ faults cache.disk
  pub entries : core.journal.room.history ≤ room.history

-- the volume runs again once the whole log was done again
pub record MayResume {F D : Type 0} (core : CoreState F D) (room : JournalRoom) : Type 0 where
  pub restored : core.stage ≡ stage.Restored (length core.journal.oplog)
  pub entries : core.journal.room.history ≤ room.history
