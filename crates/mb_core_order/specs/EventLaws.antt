-- Each event keeps a core in order, where its condition holds.
use Rattle.std.specs.Prelude.{List, ℕ, Option}
use Rattle.mb_kinds.specs.Image.{Image}
use Rattle.mb_kinds.specs.declared.calls.Call.{Call}
use Rattle.mb_kinds.specs.declared.entries.Flight.{Flight}
use Rattle.mb_kinds.specs.declared.faults.Kind.{Kind}
use Rattle.mb_kinds.specs.declared.faults.Ticket.{Ticket}
use Rattle.mb_kinds.specs.declared.replies.Reply.{Reply}
use Rattle.mb_edge.specs.Damage.{OpenCounts}
use Rattle.mb_edge.specs.declared.strokes.Stroke.{Stroke}
use Rattle.mb_gate.specs.declared.ulogs.Undo.{Undo}
use Rattle.mb_oplog.specs.declared.oplogs.Logged.{Logged}
use Rattle.mb_cache.specs.Pages.{PageList}
use Rattle.mb_cache.specs.Stamps.{Stamps}
use Rattle.mb_cache.specs.State.{CacheRoom, CacheState}
use Rattle.mb_core_spec.specs.Begun.{begun_core}
use Rattle.mb_core_spec.specs.Conditions.{MayAnswer, MayBegin, MayDrop, MayEnd, MayEnter, MayFail, MayFlush, MayGather, MayLeave, MayLog, MayRemount, MayReopen, MayReplay, MayResume, MaySeal, MayStale, MayStart, MayStrike, MayStrikeAgain, MayUnwind}
use Rattle.mb_core_spec.specs.Copies.{PagesState}
use Rattle.mb_core_spec.specs.Events.{answered_by, beginning, ended, entering, gathering, leaving, logging, roomy, staling, with_room}
use Rattle.mb_core_spec.specs.Recovery.{dropping, failing, flushing, remounting, reopening, replaying, resuming, sealing, striking, striking_again, unwinding}
use Rattle.mb_core_spec.specs.Right.{Right}
use Rattle.mb_core_spec.specs.State.{CallerState, CoreState, JournalRoom}
use Rattle.mb_core_spec.specs.declared.config.Config.{Config}
use Rattle.mb_core_spec.specs.declared.ready.Ready.{Ready}

-- a core begins in order
abbrev pub CoreBegins : (F D : Type 0) → (D → Option Image) → (D → ℕ) → Type 0
CoreBegins F D told faults = (fs : F) (first : D) (config : Config) (cache : CacheState D) (opens : OpenCounts) (room : JournalRoom) → MayBegin told faults first config cache opens
    → Right told faults (begun_core fs first config cache opens room)

-- a core in order does not look at the cache's room, so an event with the room that the new core has keeps it in order where it
-- does so with the journal's
abbrev pub RoomIsFree : (F D : Type 0) → (D → Option Image) → (D → ℕ) → Type 0
RoomIsFree F D told faults = (event new : CoreState F D) → Right told faults (roomy event new.journal.room) → Right told faults (with_room event new)

-- ---- calls

-- a call begins
abbrev pub CallBegins : (F D : Type 0) → (D → Option Image) → (D → ℕ) → Type 0
CallBegins F D told faults = (core : CoreState F D) (at : ℕ) (mine : CallerState) (call : Call) (room : JournalRoom) → Right told faults core → MayStart core at mine call room
    → Right told faults (roomy (beginning core at mine call) room)

-- a call enters, for the first time or again
abbrev pub CallEnters : (F D : Type 0) → (D → Option Image) → (D → ℕ) → Type 0
CallEnters F D told faults = (core : CoreState F D) (at : ℕ) (mine : CallerState) (flight : Flight) (ticket : Ticket) (reserved : Option ℕ) (room : JournalRoom) → Right told faults core → MayEnter core at mine flight ticket room
    → Right told faults (roomy (entering core at mine flight ticket reserved) room)

-- a call gathers
abbrev pub CallGathers : (F D : Type 0) → (D → Option Image) → (D → ℕ) → Type 0
CallGathers F D told faults = (core : CoreState F D) (at : ℕ) (mine : CallerState) (disk : D) (pages : PagesState) (steps : List Undo) (pins : Stamps) (room : CacheRoom) → Right told faults core → MayGather told faults core at mine disk pages steps pins
    → Right told faults (gathering core disk at mine pages steps pins room)

-- a call meets a stale copy
abbrev pub CallIsStale : (F D : Type 0) → (D → Option Image) → (D → ℕ) → Type 0
CallIsStale F D told faults = (core : CoreState F D) (at : ℕ) (mine : CallerState) (flight : Flight) (ticket : Ticket) (block : ℕ) (pins : Stamps) (room : JournalRoom) → Right told faults core → MayStale core at mine flight ticket pins room
    → Right told faults (roomy (staling core at mine ticket block pins) room)

-- a call is logged
abbrev pub CallIsLogged : (F D : Type 0) → (D → Option Image) → (D → ℕ) → Type 0
CallIsLogged F D told faults = (core : CoreState F D) (new : CoreState F D) (at : ℕ) (mine : CallerState) (flight : Flight) (ticket : Ticket) (ready : Ready) (room : JournalRoom) → Right told faults core → MayLog core new at mine flight ticket ready room
    → Right told faults (roomy (logging core new at mine flight ticket ready) room)

-- a call leaves
abbrev pub CallLeaves : (F D : Type 0) → (D → Option Image) → (D → ℕ) → Type 0
CallLeaves F D told faults = (core : CoreState F D) (at : ℕ) (mine : CallerState) (flight : Flight) (ticket : Ticket) (pins : Stamps) (room : JournalRoom) → Right told faults core → MayLeave core at mine flight ticket pins room
    → Right told faults (roomy (leaving core at mine ticket pins) room)

-- a call ends without a step of the trace: it quits, or had its entry before
abbrev pub CallEnds : (F D : Type 0) → (D → Option Image) → (D → ℕ) → Type 0
CallEnds F D told faults = (core : CoreState F D) (at : ℕ) (mine : CallerState) (pins : Stamps) → Right told faults core → MayEnd core at mine pins
    → Right told faults (ended core at mine pins)

-- a call ends with an entry that is not the model's step
abbrev pub CallIsAnswered : (F D : Type 0) → (D → Option Image) → (D → ℕ) → Type 0
CallIsAnswered F D told faults = (core : CoreState F D) (at : ℕ) (mine : CallerState) (flight : Flight) (answer : Reply) (pins : Stamps) (room : JournalRoom) → Right told faults core → MayAnswer faults core at mine flight answer pins room
    → Right told faults (roomy (answered_by core at mine flight answer pins) room)

-- ---- checkpoints

-- a checkpoint is taken
abbrev pub CheckpointIsTaken : (F D : Type 0) → (D → Option Image) → (D → ℕ) → Type 0
CheckpointIsTaken F D told faults = (core : CoreState F D) (sealed : PageList) (room : JournalRoom) → Right told faults core → MaySeal core sealed room
    → Right told faults (roomy (sealing core sealed) room)

-- a checkpointed page is written back, or its write failed
abbrev pub PageIsFlushed : (F D : Type 0) → (D → Option Image) → (D → ℕ) → Type 0
PageIsFlushed F D told faults = (core : CoreState F D) (disk : D) (sealed : PageList) → Right told faults core → MayFlush told faults core disk sealed
    → Right told faults (flushing core disk sealed)

-- ---- faults and recovery

-- a fault strikes a running volume, whatever it damages
abbrev pub FaultStrikes : (F D : Type 0) → (D → Option Image) → (D → ℕ) → Type 0
FaultStrikes F D told faults = (core : CoreState F D) (ticket : Ticket) (kind : Kind) (nth : ℕ) (strokes : List Stroke) (room : JournalRoom) → Right told faults core → MayStrike core ticket room
    → Right told faults (roomy (striking core ticket kind nth strokes) room)

-- a fault strikes a recovery
abbrev pub FaultStrikesAgain : (F D : Type 0) → (D → Option Image) → (D → ℕ) → Type 0
FaultStrikesAgain F D told faults = (core : CoreState F D) (caller ordinal : ℕ) (kind : Kind) (nth : ℕ) (strokes : List Stroke) (room : JournalRoom) → Right told faults core → MayStrikeAgain core caller room
    → Right told faults (roomy (striking_again core caller ordinal kind nth strokes) room)

-- a call is unwound
abbrev pub CallIsUnwound : (F D : Type 0) → (D → Option Image) → (D → ℕ) → Type 0
CallIsUnwound F D told faults = (core : CoreState F D) (at : ℕ) (mine : CallerState) (flight : Flight) (ticket : Ticket) (pins : Stamps) (room : JournalRoom) → Right told faults core → MayUnwind core at mine flight ticket pins room
    → Right told faults (roomy (unwinding core at mine ticket pins) room)

-- the dirty pages are dropped
abbrev pub PagesAreDropped : (F D : Type 0) → (D → Option Image) → (D → ℕ) → Type 0
PagesAreDropped F D told faults = (core : CoreState F D) (room : JournalRoom) → Right told faults core → MayDrop core room
    → Right told faults (roomy (dropping core) room)

-- the volume fails
abbrev pub VolumeFails : (F D : Type 0) → (D → Option Image) → (D → ℕ) → Type 0
VolumeFails F D told faults = (core : CoreState F D) (room : JournalRoom) → Right told faults core → MayFail core room
    → Right told faults (roomy (failing core) room)

-- the file system is started anew, and the log is folded
abbrev pub VolumeIsRemounted : (F D : Type 0) → (D → Option Image) → (D → ℕ) → Type 0
VolumeIsRemounted F D told faults = (core : CoreState F D) (disk : D) (oplog : List Logged) (room : JournalRoom) → Right told faults core → MayRemount told faults core disk oplog room
    → Right told faults (roomy (remounting core disk oplog) room)

-- the open files are restored
abbrev pub FilesAreReopened : (F D : Type 0) → (D → Option Image) → (D → ℕ) → Type 0
FilesAreReopened F D told faults = (core : CoreState F D) (opens : OpenCounts) (room : JournalRoom) → Right told faults core → MayReopen core opens room
    → Right told faults (roomy (reopening core opens) room)

-- an operation of the log is done again
abbrev pub OperationIsReplayed : (F D : Type 0) → (D → Option Image) → (D → ℕ) → Type 0
OperationIsReplayed F D told faults = (core : CoreState F D) (cache : CacheState D) (opens : OpenCounts) (done : ℕ) (logged : Logged) (room : JournalRoom) → Right told faults core → MayReplay told faults core cache opens done logged room
    → Right told faults (roomy (replaying core cache opens done) room)

-- the volume runs again
abbrev pub VolumeResumes : (F D : Type 0) → (D → Option Image) → (D → ℕ) → Type 0
VolumeResumes F D told faults = (core : CoreState F D) (room : JournalRoom) → Right told faults core → MayResume core room
    → Right told faults (roomy (resuming core) room)
