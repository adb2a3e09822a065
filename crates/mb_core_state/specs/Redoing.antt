-- What the steps of a recovery that read come to: the start of the file system, where the log is folded, and an operation of
-- the log that is done again.
use Rattle.std.specs.Prelude.{List, ℕ, ◌<◌, ◌≡◌, Option, None, Some, slice_get}
use Rattle.std.specs.List.{Contains}
use Rattle.mb_kinds.specs.Image.{Image}
use Rattle.mb_kinds.specs.declared.entries.Flight.{Flight}
use Rattle.mb_kinds.specs.declared.replies.Reply.TheVariants as reply
use Rattle.mb_edge.specs.Causes.{Rose}
use Rattle.mb_edge.specs.Damage.{OpenCounts}
use Rattle.mb_folds.specs.Folded.{folded}
use Rattle.mb_session.specs.OpenFiles.{TellsCounts}
use Rattle.mb_tree.specs.Sessions.{counts}
use Rattle.mb_tree.specs.Views.{IsPart}
use Rattle.mb_tree.specs.Volume.{IsVolume}
use Rattle.mb_tree.specs.declared.operations.FsOp.{FsOp}
use Rattle.mb_tree.specs.declared.trees.Tree.{Tree}
use Rattle.mb_iface.specs.Acting.{Acts}
use Rattle.mb_kinds.specs.Changed.{AreChanges, ChangeList}
use Rattle.mb_iface.specs.declared.replies.Acted.TheVariants as acted
use Rattle.mb_oplog.specs.declared.oplogs.Logged.{Logged}
use Rattle.mb_cache.specs.Pages.{PageList, installed, under}
use Rattle.mb_cache.specs.Stamps.{raised_by}
use Rattle.mb_cache.specs.State.{CacheState, seen}
use Rattle.mb_cache.specs.declared.answers.ReadFault.{ReadFault}
use Rattle.mb_cache.specs.declared.answers.ReadFault.TheVariants as fault
use Rattle.mb_tables.specs.Follows.{followed}
use Rattle.mb_journal.specs.Room.{KeepsRoom}
use Rattle.mb_core_spec.specs.Events.{GivesBack, Leaves, answered_by, with_room}
use Rattle.mb_core_spec.specs.Histories.{picked_ops}
use Rattle.mb_core_spec.specs.Numbers.{open_flight}
use Rattle.mb_core_spec.specs.Recovery.{remounting, reopening, replaying, sealing}
use Rattle.mb_core_spec.specs.State.{CallerState, CoreState}
use Rattle.mb_core_spec.specs.declared.stages.Stage.TheVariants as stage
use Rattle.mb_core_state.specs.Answers.{with_disk}

-- ---- the disk fails in a step

-- there is room for the entry of a caller's call in flight, where it has none
abbrev pub HasOpenRoom : {F D : Type 0} → CoreState F D → ℕ → Type 0
HasOpenRoom core caller = (mine : CallerState) (flight : Flight) → slice_get core.callers caller ≡ Some mine → open_flight mine.flight ≡ Some flight → 0 < core.journal.room.history

abbrev pub EndsIf : {F D : Type 0} → CoreState F D → CoreState F D → ℕ → CallerState → Option Flight → Type 0
EndsIf old new caller mine None = (new ≡ with_room old new) × KeepsRoom old.journal.room new.journal.room
EndsIf old new caller mine (Some flight) = (new ≡ with_room (answered_by old caller mine flight reply.Device new.cache.pins) new) × GivesBack old.cache.pins new.cache.pins mine.undo
    × Leaves old.journal.room new.journal.room 0 1

-- the call for which the step was made, where it has no entry, ends with the entry `Device`
abbrev pub EndsByDevice : {F D : Type 0} → CoreState F D → CoreState F D → Option ℕ → Type 0
EndsByDevice old new None = (new ≡ with_room old new) × KeepsRoom old.journal.room new.journal.room
EndsByDevice old new (Some caller) = (mine : CallerState) → slice_get old.callers caller ≡ Some mine → EndsIf old new caller mine (open_flight mine.flight)

-- nothing changed but the disk and room
abbrev pub StaysBut : {F D : Type 0} → CoreState F D → CoreState F D → Type 0
StaysBut old new = (new ≡ with_room (with_disk old new.cache.disk) new) × KeepsRoom old.journal.room new.journal.room

-- the recovery stands where it stood; where the disk failed its count of faults rose
abbrev pub FailsStep : {F D : Type 0} → (D → ℕ) → CoreState F D → CoreState F D → Option ℕ → ReadFault → Type 0
FailsStep faults old new by fault.NoMemory = StaysBut old new
FailsStep faults old new by fault.Device = Rose (faults old.cache.disk) (faults new.cache.disk) × EndsByDevice (with_disk old new.cache.disk) new by

-- ---- the file system is started anew

-- of what was read before nothing is kept: the only clean page is of block 1
abbrev pub IsReadAnew : PageList → Type 0
IsReadAnew clean = (page : ℕ × List ℕ) → Contains clean page → page.0 ≡ 1

-- and the log was folded
pub record IsRemounted {F D : Type 0} (old new : CoreState F D) : Type 0 where
  pub anew : IsReadAnew new.cache.room.clean
  pub folds : picked_ops new.journal.oplog ≡ folded (picked_ops old.journal.oplog)
  pub event : new ≡ with_room (remounting old new.cache.disk new.journal.oplog) new

-- ---- an operation is done again

-- what a file system makes of an operation, over blocks of what is seen
pub record ActsSeen {D : Type 0} (told : D → Option Image) (cache : CacheState D) (opens : OpenCounts) (op : FsOp) (pick : Option ℕ) (changes : ChangeList) : Type 0 where
  pub pages : ℕ → Option (List ℕ)
  pub picked : Option ℕ
  pub part : (view : Image) → seen told cache ≡ Some view → IsPart pages view.at
  pub acts : (view : Image) (tree : Tree) → seen told cache ≡ Some view → IsVolume view tree → Acts pages view tree opens op pick (acted.Done changes picked)

-- the cache with the changes installed
abbrev pub with_changes : {D : Type 0} → CacheState D → ChangeList → CacheState D
with_changes cache changes = record cache { current = installed cache.current changes; stamps = raised_by cache.stamps changes }

-- the changes are installed, and the counts of open files follow
abbrev pub redoing : {F D : Type 0} → CoreState F D → Logged → ChangeList → ℕ → CoreState F D
redoing core logged changes done = replaying core (with_changes core.cache changes) (followed core.tables.opens logged.op logged.pick) done

-- the operation was done again by what the file system answered
pub record IsReplayed {F D : Type 0} (told : D → Option Image) (old new : CoreState F D) (done : ℕ) (logged : Logged) : Type 0 where
  pub changes : ChangeList
  pub are : AreChanges changes
  pub acts : ActsSeen told old.cache old.tables.opens logged.op logged.pick changes
  pub event : new ≡ with_room (redoing (with_disk old new.cache.disk) logged changes done) new

-- of whichever operation of the log stands there
abbrev pub IsReplayedFor : {F D : Type 0} → (D → Option Image) → CoreState F D → CoreState F D → ℕ → Type 0
IsReplayedFor told old new done = (logged : Logged) → slice_get old.journal.oplog done ≡ Some logged → IsReplayed told old new done logged

-- of the operation at which the recovery stands
abbrev pub ReplaysNext : {F D : Type 0} → (D → Option Image) → CoreState F D → CoreState F D → Type 0
ReplaysNext told old new = (done : ℕ) (logged : Logged) → old.stage ≡ stage.Restored done → slice_get old.journal.oplog done ≡ Some logged → IsReplayed told old new done logged

abbrev pub IsRedoneFor : {F D : Type 0} → CoreState F D → CoreState F D → ℕ → ChangeList → Type 0
IsRedoneFor old new done changes = (logged : Logged) → slice_get old.journal.oplog done ≡ Some logged → new ≡ with_room (redoing old logged changes done) new

abbrev pub ActsSeenFor : {F D : Type 0} → (D → Option Image) → CoreState F D → ℕ → ChangeList → Type 0
ActsSeenFor told core done changes = (logged : Logged) → slice_get core.journal.oplog done ≡ Some logged → ActsSeen told core.cache core.tables.opens logged.op logged.pick changes

-- ---- the sessions are opened anew, and a checkpoint is taken

abbrev pub Reopens : {F D : Type 0} → CoreState F D → CoreState F D → Type 0
Reopens old new = (new ≡ with_room (reopening old new.tables.opens) new) × TellsCounts new.tables.opens (counts old.tables.saved)

abbrev pub SealsAll : {F D : Type 0} → CoreState F D → CoreState F D → Type 0
SealsAll old new = (new ≡ with_room (sealing old new.cache.sealed) new) × ((image : Image) → under image new.cache.sealed ≡ under (under image old.cache.sealed) old.cache.current)
