-- What each event of a call makes of a core. The equations leave the journal's room as it was: `roomy` sets it.
use Rattle.std.specs.Prelude.{List, [], ◌∷◌, ◌++◌, ℕ, ◌+◌, ◌≡◌, ◌≤◌, ◌⊎◌, true, false, if◌then◌else◌, Option, Some, None, slice_set, nat_eq, nat_le, min}
use Rattle.mb_kinds.specs.declared.calls.Call.{Call}
use Rattle.mb_kinds.specs.declared.entries.Entry.{Entry}
use Rattle.mb_kinds.specs.declared.entries.Flight.{Flight}
use Rattle.mb_kinds.specs.declared.faults.Ticket.{Ticket}
use Rattle.mb_kinds.specs.declared.replies.Reply.{Reply}
use Rattle.mb_tree.specs.Sessions.{with_change}
use Rattle.mb_tree.specs.declared.operations.FsOp.{FsOp}
use Rattle.mb_gate.specs.declared.ulogs.Undo.{Undo}
use Rattle.mb_gate.specs.declared.ulogs.Undo.TheVariants as undo
use Rattle.mb_oplog.specs.declared.oplogs.Logged.{Logged}
use Rattle.mb_cache.specs.Stamps.{Stamps, stamp_of}
use Rattle.mb_cache.specs.State.{CacheRoom}
use Rattle.mb_core_spec.specs.Callers.{begun, total}
use Rattle.mb_cache.specs.Kept.{KeptBlock, kept_at}
use Rattle.mb_core_spec.specs.Copies.{LiveTables, PagesState, no_pages}
use Rattle.mb_core_spec.specs.Flights.{is_pin}
use Rattle.mb_core_spec.specs.State.{CallerState, CoreState, JournalRoom, JournalState}
use Rattle.mb_core_spec.specs.declared.ready.Ready.{Ready}
use Rattle.mb_core_spec.specs.declared.steps.Step.{Step}
use Rattle.mb_core_spec.specs.declared.steps.Step.TheVariants as step

-- one step more in the trace
abbrev pub marked : JournalState → Step → JournalState
marked journal one = record journal { trail = journal.trail ++ one ∷ [] }

-- one caller's state changes
abbrev pub at_caller : {F D : Type 0} → CoreState F D → ℕ → CallerState → CoreState F D
at_caller core caller mine = record core { callers = slice_set core.callers caller mine }

-- ---- the room that an event leaves

abbrev pub roomy : {F D : Type 0} → CoreState F D → JournalRoom → CoreState F D
roomy core room = record core { journal = record core.journal { room = room } }

-- what an event makes of a core, with the room of the cache and of the journal that the new core has. A core in order does not
-- look at the cache's
abbrev pub with_room : {F D : Type 0} → CoreState F D → CoreState F D → CoreState F D
with_room event new = record event { cache = record event.cache { room = new.cache.room }; journal = record event.journal { room = new.journal.room } }

-- an event takes room for so many steps of the trace and so many entries at most
pub record Leaves (old left : JournalRoom) (steps entries : ℕ) : Type 0 where
  pub trail : old.trail ≤ left.trail + steps
  pub history : old.history ≤ left.history + entries
  pub records : old.records ≤ left.records

-- ---- a call begins, enters, and gathers

-- a call that began and did not enter yet
abbrev pub first_flight : Call → ℕ → ℕ → Flight
first_flight call ordinal moment = record { call = call; ordinal = ordinal; moment = moment; ticket = None; answered = false }

-- a call begins: it has its ordinal and its moment, and waits
abbrev pub begins_at : CallerState → Call → ℕ → CallerState
begins_at mine call moment = record mine { begun = mine.begun + 1; flight = Some (first_flight call (mine.begun + 1) moment) }

abbrev pub begins : ℕ → List CallerState → CallerState → Call → CallerState
begins start callers mine call = begins_at mine call (start + (begun callers + 1))

abbrev pub beginning : {F D : Type 0} → CoreState F D → ℕ → CallerState → Call → CoreState F D
beginning core caller mine call = at_caller core caller (begins core.config.start core.callers mine call)

-- what is taken back of a call that entered: a descriptor, where it reserved one
abbrev pub first_undo : Option ℕ → List Undo
first_undo None = undo.Entered ∷ []
first_undo (Some fd) = undo.Entered ∷ undo.Reserved fd ∷ []

-- a call enters, with a ticket of the present incarnation
abbrev pub goes_in : CallerState → Flight → Ticket → Option ℕ → CallerState
goes_in mine flight ticket reserved = record mine {
  flight = Some (record flight { ticket = Some ticket });
  inside = true;
  undo = first_undo reserved;
  reserved = reserved;
  stales = 0;
}

abbrev pub entering : {F D : Type 0} → CoreState F D → ℕ → CallerState → Flight → Ticket → Option ℕ → CoreState F D
entering core caller mine flight ticket reserved = record (at_caller core caller (goes_in mine flight ticket reserved)) { journal = marked core.journal (step.Entered ticket) }

-- what a call gathers: each copy is an old one, or has the present stamp
pub record Gathers (stamps : Stamps) (live : LiveTables) (old new : PagesState) : Type 0 where
  pub blocks : (block : ℕ) (kept : KeptBlock) → kept_at new.blocks block ≡ Some kept → (kept_at old.blocks block ≡ Some kept) ⊎ (kept.stamp ≡ stamp_of stamps block)
  pub tables : (new.tables ≡ old.tables) ⊎ (new.tables ≡ Some (record { sessions = live.sessions; opens = live.opens; stamp = live.stamp }))

abbrev pub gathering : {F D : Type 0} → CoreState F D → D → ℕ → CallerState → PagesState → List Undo → Stamps → CacheRoom → CoreState F D
gathering core disk caller mine pages undo pins room = record (at_caller core caller (record mine { pages = pages; undo = undo })) { cache = record core.cache { disk = disk; pins = pins; room = room } }

-- ---- what a call did is taken back

-- the pins of these steps are given back
pub record GivesBack (old new : Stamps) (steps : List Undo) : Type 0 where
  pub each : (block : ℕ) → stamp_of new block + total (is_pin block) steps ≡ stamp_of old block

-- the right to commit alone is given back where this caller has it
abbrev pub without : ℕ → Option ℕ → Option ℕ
without caller None = None
without caller (Some holder) = if nat_eq caller holder then None else Some holder

abbrev pub taken_back : CallerState → CallerState
taken_back mine = record mine { undo = []; reserved = None; stales = 0; pages = no_pages }

abbrev pub given_back : {F D : Type 0} → CoreState F D → ℕ → CallerState → Stamps → CoreState F D
given_back core caller mine pins = record (at_caller core caller (taken_back mine)) { cache = record core.cache { pins = pins }; floor = without caller core.floor }

-- ---- a call is logged, leaves, ends

abbrev pub entry_for : ℕ → Flight → Option ℕ → Reply → Entry
entry_for caller flight pick answer = record { caller = caller; ordinal = flight.ordinal; call = flight.call; pick = pick; moment = flight.moment; reply = answer }

abbrev pub logged_op : Option FsOp → Option ℕ → List Logged
logged_op None pick = []
logged_op (Some op) pick = (record { op = op; pick = pick }) ∷ []

-- an entry, its operation where it has one, and the step of the trace
abbrev pub booked : JournalState → Entry → List Logged → Ticket → JournalState
booked journal entry ops ticket = record journal { history = journal.history ++ entry ∷ []; oplog = journal.oplog ++ ops; trail = journal.trail ++ step.Logged ticket ∷ [] }

-- the call in flight has its entry, whose reply is to be handed out; what it took is given back
abbrev pub with_entry : CallerState → Flight → Reply → CallerState
with_entry mine flight reply = record (taken_back mine) { flight = Some (record flight { answered = true }); answer = Some reply }

-- the call has its entry; what it took is given back; the cache and the table of open files are those after the install
abbrev pub logging : {F D : Type 0} → CoreState F D → CoreState F D → ℕ → CallerState → Flight → Ticket → Ready → CoreState F D
logging core new caller mine flight ticket ready = record core {
  cache = record core.cache { current = new.cache.current; stamps = new.cache.stamps; pins = new.cache.pins; room = new.cache.room };
  tables = record core.tables { sessions = with_change core.tables.sessions caller ready.session; opens = new.tables.opens; stamp = new.tables.stamp };
  journal = booked core.journal (entry_for caller flight ready.pick ready.reply) (logged_op ready.op ready.pick) ticket;
  callers = slice_set core.callers caller (with_entry mine flight ready.reply);
  floor = without caller core.floor;
}

-- from its fourth stale answer on a ticket's call has the right to commit alone
abbrev pub floor_after : ℕ → ℕ → Option ℕ → Option ℕ
floor_after caller stales floor = if nat_le 3 stales then Some caller else floor

-- the step that takes it back
abbrev pub floor_undo : ℕ → Option ℕ → List Undo
floor_undo caller None = []
floor_undo caller (Some holder) = if nat_eq caller holder then undo.Floor ∷ [] else []

-- what it gathered is stale: it keeps nothing of it, and gathers anew. Its stale answers are counted up to four
abbrev pub gathers_anew : CallerState → ℕ → Option ℕ → CallerState
gathers_anew mine caller floor = record mine { pages = no_pages; stales = min (mine.stales + 1) 4; undo = first_undo mine.reserved ++ floor_undo caller floor }

abbrev pub staling : {F D : Type 0} → CoreState F D → ℕ → CallerState → Ticket → ℕ → Stamps → CoreState F D
staling core caller mine ticket block pins = record (at_caller core caller (gathers_anew mine caller (floor_after caller mine.stales core.floor))) {
  cache = record core.cache { pins = pins };
  floor = floor_after caller mine.stales core.floor;
  journal = marked core.journal (step.Stale ticket block);
}

-- a call ends: it is no call in flight any more
abbrev pub ended : {F D : Type 0} → CoreState F D → ℕ → CallerState → Stamps → CoreState F D
ended core caller mine pins = given_back core caller (record mine { flight = None; inside = false; answer = None }) pins

-- the call that has its entry leaves
abbrev pub leaving : {F D : Type 0} → CoreState F D → ℕ → CallerState → Ticket → Stamps → CoreState F D
leaving core caller mine ticket pins = record (ended core caller mine pins) { journal = marked core.journal (step.Left ticket) }

-- a call ends with an entry that is not the model's step: the disk failed, it met two faults, or the volume failed
abbrev pub answered_by : {F D : Type 0} → CoreState F D → ℕ → CallerState → Flight → Reply → Stamps → CoreState F D
answered_by core caller mine flight answer pins = record (ended core caller mine pins) { journal = record core.journal { history = core.journal.history ++ entry_for caller flight None answer ∷ [] } }
