-- What each answer of an event means: when it comes, and what it made of the core.
use Rattle.std.specs.Prelude.{List, ℕ, ◌+◌, ◌≡◌, ◌≢◌, ◌≤◌, Bool, if◌then◌else◌, nat_lt, Option, Some, length, slice_set}
use Rattle.mb_kinds.specs.Image.{Image}
use Rattle.mb_kinds.specs.declared.entries.Flight.{Flight}
use Rattle.mb_kinds.specs.declared.faults.Kind.{Kind}
use Rattle.mb_kinds.specs.declared.faults.Ticket.{Ticket}
use Rattle.mb_kinds.specs.declared.replies.Reply.TheVariants as reply
use Rattle.mb_edge.specs.Causes.{Rose}
use Rattle.mb_edge.specs.declared.strokes.Stroke.{Stroke}
use Rattle.mb_iface.specs.declared.replies.Need.{Need}
use Rattle.mb_cache.specs.State.{CacheState}
use Rattle.mb_callers.specs.Gathering.{GathersBlocks, GathersTables}
use Rattle.mb_core_spec.specs.Copies.{LiveTables, PagesState, TableCopy}
use Rattle.mb_core_spec.specs.Events.{GivesBack, answered_by, gathering, leaving, with_room}
use Rattle.mb_core_spec.specs.Recovery.{striking}
use Rattle.mb_core_spec.specs.State.{CallerState, CoreState}
use Rattle.mb_core_spec.specs.declared.stages.Stage.{Stage}
use Rattle.mb_core_spec.specs.declared.stages.Stage.TheVariants as stage
use Rattle.mb_core_state.specs.Mine.{OfFlight, OfMine}
use Rattle.mb_core_state.specs.declared.answers.Fault.{Fault}
use Rattle.mb_core_state.specs.declared.answers.Fault.TheVariants as fault
use Rattle.mb_core_state.specs.declared.answers.Gathered.{Gathered}
use Rattle.mb_core_state.specs.declared.answers.Gathered.TheVariants as gathered
use Rattle.mb_core_state.specs.declared.answers.Left.{Left}
use Rattle.mb_core_state.specs.declared.answers.Left.TheVariants as left
use Rattle.mb_core_state.specs.declared.answers.Phase.{Phase}
use Rattle.mb_core_state.specs.declared.answers.Phase.TheVariants as phase

-- the ticket is of another incarnation, and nothing changed
pub record IsSkipped {F D : Type 0} (old new : CoreState F D) (ticket : Ticket) (mine now : ℕ) : Type 0 where
  pub mine_is : mine ≡ ticket.incarnation
  pub now_is : now ≡ old.incarnation
  pub other : mine ≢ now
  pub same : new ≡ old

-- the ticket is of the present incarnation
abbrev pub IsPresent : {F D : Type 0} → CoreState F D → Ticket → Type 0
IsPresent core ticket = ticket.incarnation ≡ core.incarnation

-- the core with another disk
abbrev pub with_disk : {F D : Type 0} → CoreState F D → D → CoreState F D
with_disk core disk = record core { cache = record core.cache { disk = disk } }

-- the core after reads of blocks: the disk was read, and other pages are clean ones
abbrev pub with_read : {F D : Type 0} → CoreState F D → CacheState D → CoreState F D
with_read core cache = record core { cache = record core.cache { disk = cache.disk; room = cache.room } }

-- the core after a caller gathered: other states, another cache's disk, pins and room
abbrev pub after_gathering : {F D : Type 0} → CoreState F D → CoreState F D → CoreState F D
after_gathering old new = record old { cache = record old.cache { disk = new.cache.disk; pins = new.cache.pins; room = new.cache.room }; callers = new.callers }

-- a copy of the tables as they are
abbrev pub live_copy : LiveTables → TableCopy
live_copy live = record { sessions = live.sessions; opens = live.opens; stamp = live.stamp }

-- ---- a call leaves

abbrev pub Leaving : {F D : Type 0} → CoreState F D → CoreState F D → Ticket → CallerState → Left → Type 0
Leaving old new ticket mine (left.Skip was now) = IsSkipped old new ticket was now
Leaving old new ticket mine (left.Left answer) = IsPresent old ticket × (mine.answer ≡ Some answer)
    × (new ≡ with_room (leaving old ticket.caller mine ticket new.cache.pins) new) × GivesBack old.cache.pins new.cache.pins mine.undo

-- of whichever state its caller has
abbrev pub LeavesFor : {F D : Type 0} → CoreState F D → CoreState F D → Ticket → Left → Type 0
LeavesFor old new ticket result = OfMine old ticket.caller (λ mine. Leaving old new ticket mine result)

-- ---- a fault strikes

abbrev pub Strikes : {F D : Type 0} → CoreState F D → CoreState F D → Ticket → Kind → ℕ → List Stroke → Fault → Type 0
Strikes old new ticket kind nth strokes (fault.Skip was now) = IsSkipped old new ticket was now
Strikes old new ticket kind nth strokes (fault.Struck number) = IsPresent old ticket × (number ≡ length old.journal.records + 1)
    × (new ≡ with_room (striking old ticket kind nth strokes) new)

-- ---- a call gathers

-- at block 0 the tables, else the blocks that are asked for, are pinned and kept, with the caller and in its pages alike
pub record KeepsGathered {F D : Type 0} (told : D → Option Image) (old new : CoreState F D) (caller : ℕ) (need : Need) (mine : CallerState) (pages got : PagesState) : Type 0 where
  pub kept : CallerState
  pub tables : need.first ≡ 0 → GathersTables old.cache new.cache (live_copy old.tables) mine kept pages got
  pub blocks : 1 ≤ need.first → GathersBlocks told old.cache new.cache need mine kept pages got
  pub callers : new.callers ≡ slice_set old.callers caller kept

abbrev pub KeepsGatheredFor : {F D : Type 0} → (D → Option Image) → CoreState F D → CoreState F D → ℕ → Need → PagesState → PagesState → Type 0
KeepsGatheredFor told old new caller need pages got = OfMine old caller (λ mine. KeepsGathered told old new caller need mine pages got)

abbrev pub Gathering : {F D : Type 0} → (D → Option Image) → (D → ℕ) → CoreState F D → CoreState F D → Ticket → Need → CallerState → Flight → PagesState → PagesState → Gathered → Type 0
Gathering told faults old new ticket need mine flight pages got (gathered.Skip was now) = IsSkipped old new ticket was now × (got ≡ pages)
Gathering told faults old new ticket need mine flight pages got gathered.Device = IsPresent old ticket × Rose (faults old.cache.disk) (faults new.cache.disk)
    × (new ≡ with_room (answered_by (with_disk old new.cache.disk) ticket.caller mine flight reply.Device new.cache.pins) new) × GivesBack old.cache.pins new.cache.pins mine.undo × (got ≡ pages)
Gathering told faults old new ticket need mine flight pages got gathered.NoMemory = IsPresent old ticket × (new ≡ with_room (with_disk old new.cache.disk) new) × (got ≡ pages)
Gathering told faults old new ticket need mine flight pages got gathered.Done = IsPresent old ticket × (by : KeepsGathered told old new ticket.caller need mine pages got)
    × (new ≡ with_room (gathering old new.cache.disk ticket.caller mine by.kept.pages by.kept.undo new.cache.pins new.cache.room) new)

-- of whichever state and call its caller has
abbrev pub GathersFor : {F D : Type 0} → (D → Option Image) → (D → ℕ) → CoreState F D → CoreState F D → Ticket → Need → PagesState → PagesState → Gathered → Type 0
GathersFor told faults old new ticket need pages got result = OfFlight old ticket.caller (λ mine flight. Gathering told faults old new ticket need mine flight pages got result)

-- ---- the next step of a recovery

abbrev pub phase_of : Stage → Bool → ℕ → Phase
phase_of stage.Running inside logged = phase.Idle
phase_of stage.Struck inside logged = if inside then phase.Unwind else phase.Drop
phase_of stage.Again inside logged = phase.Drop
phase_of stage.Dropped inside logged = phase.Remount
phase_of stage.Remounted inside logged = phase.Reopen
phase_of (stage.Restored done) inside logged = if nat_lt done logged then phase.Replay (done + 1) else phase.Resume
phase_of stage.Failed inside logged = phase.Idle
