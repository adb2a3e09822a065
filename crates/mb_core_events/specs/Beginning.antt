-- How a core begins over a disk, and how it is refused.
use Rattle.std.specs.Prelude.{List, [], ℕ, ◌<◌, ◌≤◌, ◌≡◌, ◌⊎◌, Option, IfSome, Err, length}
use Rattle.std.specs.FinMap as fin
use Rattle.mb_kinds.specs.Image.{Image}
use Rattle.mb_tree.specs.Volume.{IsVolume}
use Rattle.mb_edge.specs.Causes.{Rose}
use Rattle.mb_rules.specs.TreeOf.{tree_of}
use Rattle.mb_check.specs.Whole.{IsScanned, nameless_in}
use Rattle.mb_check.specs.declared.scans.OpenFault.{OpenFault}
use Rattle.mb_check.specs.declared.scans.OpenFault.TheVariants.{Device, NoMemory}
use Rattle.mb_cache.specs.Pages.{PageList}
use Rattle.mb_cache.specs.declared.answers.ReadFault.{ReadFault}
use Rattle.mb_cache.specs.declared.answers.ReadFault.TheVariants as read
use Rattle.mb_core_spec.specs.Begun.{begun_core}
use Rattle.mb_core_spec.specs.State.{CoreState}
use Rattle.mb_core_spec.specs.declared.config.Config.{Config}
use Rattle.mb_core_state.specs.Opening.{IsSwept}

-- no entry, record, step or logged operation, every caller idle, no page current, none pinned and none a clean one. The disk
-- that it keeps as the first one tells what the given disk told, and so does the one under its pages; counts of faults do
-- not fall
pub record IsBegunOver {F D : Type 0} (told : D → Option Image) (faults : D → ℕ) (fs : F) (disk : D) (config : Config) (core : CoreState F D) : Type 0 where
  pub begun : core ≡ begun_core fs core.first config core.cache fin.empty core.journal.room
  pub first : told core.first ≡ told disk
  pub tells : told core.cache.disk ≡ told disk
  pub scanned : faults disk ≤ faults core.first
  pub later : faults core.first ≤ faults core.cache.disk
  pub bare : core.cache.current ≡ []
  pub free : core.cache.pins ≡ []
  pub unread : core.cache.room.clean ≡ []

-- what the disk tells is a volume of the tree that its bytes show
abbrev pub TellsVolume : Option Image → Type 0
TellsVolume told = IfSome told (λ image. IsVolume image (tree_of image))

-- where no file is nameless, no page waits to be written
abbrev pub IsUnswept : Option Image → PageList → Type 0
IsUnswept told sealed = IfSome told (λ image. nameless_in (tree_of image) ≡ [] → sealed ≡ [])

-- the scan says which rule is broken first; a fault of the device has its cause; and the disk given back tells what it told
pub record IsRefused {D : Type 0} (told : D → Option Image) (faults : D → ℕ) (disk : D) (fault : OpenFault) (back : D) : Type 0 where
  pub scan : IfSome (told disk) (λ image. IsScanned image (Err fault))
  pub tells : told back ≡ told disk
  pub later : faults disk ≤ faults back
  pub device : fault ≡ Device → Rose (faults disk) (faults back)

-- the nameless files were reclaimed, where there are some
abbrev pub IsSweptIf : {F D : Type 0} → (D → Option Image) → CoreState F D → CoreState F D → List ℕ → Type 0
IsSweptIf told old new inos = ((inos ≡ []) × (new ≡ old)) ⊎ ((0 < length inos) × IsSwept told old new inos)

-- a read that failed is why nothing is begun
abbrev pub refused_by : ReadFault → OpenFault
refused_by read.Device = Device
refused_by read.NoMemory = NoMemory
