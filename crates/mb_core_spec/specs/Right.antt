-- When a core is in order. Each part is a definition over the values that it names alone; this module joins them.
use Rattle.std.specs.Prelude.{[], ℕ, ◌≤◌, ◌≡◌, Option, Some, IsSome, length}
use Rattle.mb_kinds.specs.Image.{Image}
use Rattle.mb_tree.specs.Volume.{IsVolume}
use Rattle.mb_tree.specs.declared.trees.Tree.{Tree}
use Rattle.mb_cache.specs.Pages.{under}
use Rattle.mb_core_spec.specs.Bounds.{HasMarks, IsConfig, StampsAreFew, replayed}
use Rattle.mb_core_spec.specs.Callers.{EachCaller, insiders}
use Rattle.mb_core_spec.specs.Copies.{AreTrue, KeepsCopies}
use Rattle.mb_core_spec.specs.Faults.{FewDevices}
use Rattle.mb_core_spec.specs.Flights.{ArePins, FloorIsFresh, IsAnswered, IsFloor, IsFlying, IsUndoable, MayBeInside, runs}
use Rattle.mb_core_spec.specs.Numbers.{IsNumbered, open_calls}
use Rattle.mb_core_spec.specs.Seen.{Holds}
use Rattle.mb_core_spec.specs.State.{CoreState}
use Rattle.mb_core_spec.specs.Traced.{IsTrailed}
use Rattle.mb_core_spec.specs.declared.stages.Stage.TheVariants as stage

-- what holds of a core on every disk
pub record IsOrderly {F D : Type 0} (core : CoreState F D) : Type 0 where
  -- numbers, moments and fault records; the trace
  pub numbered : IsNumbered core.config core.journal core.callers core.stage
  pub trailed : IsTrailed core.journal core.callers core.stage
  -- the calls in flight
  pub flying : EachCaller (λ caller mine. IsFlying caller mine.inside (runs core.stage) core.incarnation mine.answer mine.flight) core.callers
  pub answers : EachCaller (λ caller mine. IsAnswered caller core.journal.history mine) core.callers
  pub unwound : EachCaller (λ caller mine. MayBeInside core.stage mine.inside) core.callers
  pub copies : core.stage ≡ stage.Running → EachCaller (λ caller mine. KeepsCopies caller core.cache.stamps core.tables mine.pages) core.callers
  pub undoable : EachCaller (λ caller mine. IsUndoable caller core.floor mine) core.callers
  pub pinned : ArePins core.cache.pins core.callers
  pub floor : IsFloor core.floor core.callers
  pub fresh : core.stage ≡ stage.Running → FloorIsFresh core.floor core.cache.stamps core.tables core.callers
  pub incarnation : core.incarnation ≤ length core.journal.records
  -- room: what must not want memory has it
  pub marks : HasMarks core.stage (insiders core.callers) core.journal.room
  pub entries : open_calls core.callers ≤ core.journal.room.history
  -- bounds
  pub stamps : StampsAreFew (runs core.stage) (length core.journal.history) (length core.journal.records) (replayed core.stage) core.cache.stamps
  pub logged : length core.journal.oplog ≤ length core.journal.history
  pub sessions : length core.tables.sessions ≡ length core.callers
  pub saved : length core.tables.saved ≡ length core.callers
  pub dropped : core.stage ≡ stage.Failed → core.cache.current ≡ []
  pub within : replayed core.stage ≤ length core.journal.oplog
  pub bounds : IsConfig core.config
  pub changes : core.tables.stamp ≤ length core.journal.history

-- a core in order
pub record Right {F D : Type 0} (told : D → Option Image) (faults : D → ℕ) (core : CoreState F D) : Type 0 where
  -- where the disk tells its blocks, and told a volume at the beginning: history, checkpoint, log and view
  pub holds : (first image : Image) (tree : Tree) → told core.first ≡ Some first → told core.cache.disk ≡ Some image → IsVolume first tree → Holds tree first (under image core.cache.sealed) core
  -- where the disk tells its blocks and the volume runs: a copy with the present stamp is what is seen
  pub seen : (first image : Image) → told core.first ≡ Some first → told core.cache.disk ≡ Some image → core.stage ≡ stage.Running
      → EachCaller (λ caller mine. AreTrue (under (under image core.cache.sealed) core.cache.current).at core.cache.stamps mine.pages.blocks) core.callers
  pub tells : (first : Image) → told core.first ≡ Some first → IsSome (told core.cache.disk)
  -- on every disk
  pub orderly : IsOrderly core
  pub later : faults core.first ≤ faults core.cache.disk
  pub devices : FewDevices (faults core.first) (faults core.cache.disk) core.journal.history
