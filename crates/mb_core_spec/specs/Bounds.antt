-- What may still come without memory, how high stamps are, and what a core is begun with.
use Rattle.std.specs.Prelude.{ℕ, ◌+◌, ◌*◌, ◌≤◌, Bool, true, false, length}
use Rattle.mb_cache.specs.Stamps.{Stamps, stamp_of}
use Rattle.mb_core_spec.specs.State.{JournalRoom}
use Rattle.mb_core_spec.specs.declared.config.Config.{Config}
use Rattle.mb_core_spec.specs.declared.stages.Stage.{Stage}
use Rattle.mb_core_spec.specs.declared.stages.Stage.TheVariants as stage

-- the steps of the trace that may still come without memory: that each call inside leaves or is unwound, and once a fault
-- and the step after its unwinding; the checkpoint's own step is not counted
abbrev pub HasMarks : Stage → ℕ → JournalRoom → Type 0
HasMarks stage.Running inside room = 1 ≤ inside → (inside + 2 ≤ room.trail) × (1 ≤ room.records)
HasMarks stage.Struck inside room = inside + 1 ≤ room.trail
HasMarks stage.Again inside room = 1 ≤ room.trail
HasMarks _ inside room = Unit {0}

-- how many operations of the log were done again in this recovery
abbrev pub replayed : Stage → ℕ
replayed (stage.Restored done) = done
replayed _ = 0

-- installs are counted: one for the sweep at opening, one for each entry, and in each recovery at most one for each operation
abbrev pub StampsAreFew : Bool → ℕ → ℕ → ℕ → Stamps → Type 0
StampsAreFew true entries faults again stamps = (block : ℕ) → stamp_of stamps block ≤ 1 + entries + 4294967296 * faults
StampsAreFew false entries faults again stamps = (block : ℕ) → 4294967296 + stamp_of stamps block ≤ 1 + entries + 4294967296 * faults + again

-- what a core is begun with: one to eight callers, moments below 2 ^ 32, a checkpoint at 1 to 4,096 logged operations, and at most 255
-- faults to be recovered from
pub record IsConfig (config : Config) : Type 0 where
  pub some : 1 ≤ length config.callers
  pub callers : length config.callers ≤ 8
  pub moments : config.start + config.most * length config.callers ≤ 4294967295
  pub due : 1 ≤ config.threshold
  pub often : config.threshold ≤ 4096
  pub limit : config.limit ≤ 255
