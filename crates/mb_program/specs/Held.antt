-- What a run held at its end.
use Rattle.std.specs.Prelude.{◌≡◌, ℕ, Option}
use Rattle.mb_kinds.specs.Image.{Image}
use Rattle.mb_core_spec.specs.Right.{Right}
use Rattle.mb_core_spec.specs.State.{CoreState}
use Rattle.mb_fsops.specs.declared.v7.V7.{V7}
use Rattle.mb_program.specs.declared.finish.Held.{Held}
use Rattle.mb_program.specs.declared.finish.Held.TheVariants as held

-- the disk that is held
abbrev pub held_disk : {D : Type 0} → Held D → D
held_disk (held.Disk disk) = disk
held_disk (held.Core core) = core.cache.disk

-- the disk itself is held, with the image that it told
abbrev pub IsGivenBack : {D : Type 0} → (D → Option Image) → D → Held D → Type 0
IsGivenBack told disk (held.Disk back) = told back ≡ told disk
IsGivenBack told disk (held.Core core) = ⊥

-- the disk itself is held, and was not asked
abbrev pub IsUntouched : {D : Type 0} → D → Held D → Type 0
IsUntouched disk (held.Disk back) = back ≡ disk
IsUntouched disk (held.Core core) = ⊥

-- a core in order that was begun over the disk, whose image it keeps as far as the last checkpoint
abbrev pub IsCoreOver : {D : Type 0} → (D → Option Image) → (D → ℕ) → D → CoreState V7 D → Type 0
IsCoreOver told faults disk core = (told core.first ≡ told disk) × Right told faults core

-- the disk itself is held, with the image that it told, or a core that was begun over it
abbrev pub KeepsImage : {D : Type 0} → (D → Option Image) → (D → ℕ) → D → Held D → Type 0
KeepsImage told faults disk (held.Disk back) = told back ≡ told disk
KeepsImage told faults disk (held.Core core) = IsCoreOver told faults disk core

-- the core that the run drove is held
abbrev pub HoldsCore : {D : Type 0} → Held D → (CoreState V7 D → Type 0) → Type 0
HoldsCore (held.Disk disk) Fact = ⊥
HoldsCore (held.Core core) Fact = Fact core

-- the disk itself is held
abbrev pub HoldsDisk : {D : Type 0} → Held D → (D → Type 0) → Type 0
HoldsDisk (held.Disk disk) Fact = Fact disk
HoldsDisk (held.Core core) Fact = ⊥
