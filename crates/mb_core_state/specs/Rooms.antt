-- The cache of a core that begins, what events ask of the pins, and what a fault and a call that finishes leave.
use Rattle.std.specs.Prelude.{List, [], ℕ, ◌+◌, ◌≡◌, ◌≤◌, Some, slice_get}
use Rattle.mb_edge.specs.Damage.{Volatile, damaged}
use Rattle.mb_edge.specs.declared.strokes.Stroke.{Stroke}
use Rattle.mb_cache.specs.Stamps.{stamp_of}
pub use Rattle.mb_cache.specs.State.{fresh_cache}
use Rattle.mb_core_spec.specs.Callers.{total}
use Rattle.mb_core_spec.specs.Flights.{is_pin}
use Rattle.mb_core_spec.specs.State.{CallerState, CoreState, JournalRoom}
use Rattle.mb_journal.specs.Room.{KeepsRoom}
use Rattle.mb_core_state.specs.declared.answers.Finished.{Finished}
use Rattle.mb_core_state.specs.declared.answers.Finished.TheVariants as finished

-- the pins that a caller's steps took are there to be given back
abbrev pub HasPins : {F D : Type 0} → CoreState F D → ℕ → Type 0
HasPins core caller = (mine : CallerState) (block : ℕ) → slice_get core.callers caller ≡ Some mine → total (is_pin block) mine.undo ≤ stamp_of core.cache.pins block

-- what the strokes of a fault leave of the current pages and of the counts of open files
abbrev pub damaged_both : {F D : Type 0} → CoreState F D → List Stroke → Volatile
damaged_both core strokes = damaged (record { pages = core.cache.current; opens = core.tables.opens }) strokes

-- a core after the strokes of a fault
abbrev pub damaged_core : {F D : Type 0} → CoreState F D → List Stroke → CoreState F D
damaged_core core strokes = record core {
  cache = record core.cache { current = (damaged_both core strokes).pages };
  tables = record core.tables { opens = (damaged_both core strokes).opens };
}

-- a call that is logged leaves the steps that the calls inside may come to, with a checkpoint's, and a fault record
pub record LeavesEntry (old left : JournalRoom) : Type 0 where
  pub trail : 11 ≤ left.trail
  pub records : 1 ≤ left.records
  pub history : old.history ≤ left.history + 1

-- what a call that finishes leaves of the journal's room, by the answer
abbrev pub FinishLeaves : JournalRoom → JournalRoom → Finished → Type 0
FinishLeaves old left (finished.Skip mine now) = left ≡ old
FinishLeaves old left (finished.Busy holder) = left ≡ old
FinishLeaves old left (finished.Stale block) = (10 ≤ left.trail) × (old.history ≤ left.history) × (old.records ≤ left.records)
FinishLeaves old left finished.NoMemory = KeepsRoom old left
FinishLeaves old left finished.Logged = LeavesEntry old left
