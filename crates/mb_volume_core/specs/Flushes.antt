-- The checkpointed page that is written back with a call that left.
use Rattle.std.specs.Prelude.{ℕ, ◌≡◌, Option}
use Rattle.mb_kinds.specs.Image.{Image}
use Rattle.mb_cache.specs.State.{Flushes}
use Rattle.mb_cache.specs.declared.answers.Flushed.{Flushed}
use Rattle.mb_core_spec.specs.Events.{with_room}
use Rattle.mb_core_spec.specs.Recovery.{flushing}
use Rattle.mb_core_spec.specs.State.{CoreState}
use Rattle.mb_core_state.specs.declared.answers.Left.{Left}
use Rattle.mb_core_state.specs.declared.answers.Left.TheVariants as left

-- it is written where the call left, if the disk does not fail
abbrev pub FlushesAfter : {F D : Type 0} → (D → Option Image) → (D → ℕ) → Left → CoreState F D → CoreState F D → Type 0
FlushesAfter told faults (left.Left answer) old new = (flushed : Flushed) × Flushes told faults old.cache new.cache flushed × (new ≡ with_room (flushing old new.cache.disk new.cache.sealed) new)
FlushesAfter told faults (left.Skip mine was) old new = new ≡ old
