-- What opening a volume for some callers answers.
use Rattle.std.specs.Prelude.{List, ℕ, ◌+◌, ◌≡◌, ◌≤◌, Result, Ok, Err}
use Rattle.mb_kinds.specs.Image.{Image}
use Rattle.mb_kinds.specs.declared.credentials.Cred.{Cred}
use Rattle.mb_edge.specs.Causes.{Rose}
use Rattle.mb_tree.specs.Opening.{opening}
use Rattle.mb_tree.specs.Volume.{IsVolume}
use Rattle.mb_tree.specs.declared.machines.Machine.{Machine}
use Rattle.mb_tree.specs.declared.trees.Tree.{Tree}
use Rattle.mb_rules.specs.TreeOf.{tree_of}
use Rattle.mb_check_files.specs.Surveyed.{TellsFiles}
use Rattle.mb_check_files.specs.declared.surveys.VolumeFiles.{VolumeFiles}
use Rattle.mb_check.specs.Whole.{IsUnsound}
use Rattle.mb_check.specs.declared.scans.OpenFault.{OpenFault}
use Rattle.mb_check.specs.declared.scans.OpenFault.TheVariants.{Unsound, Device, NoMemory}

-- the machine is what the callers find on the volume that the image is
pub record IsOpening (image : Image) (callers : List Cred) (machine : Machine) : Type 0 where
  pub tree : Tree
  pub volume : IsVolume image tree
  pub opens : machine ≡ opening tree callers

-- it is that, or the image is no volume, by the first rule that it breaks in the order of the scan
abbrev pub IsOpened : Image → List Cred → Result Machine OpenFault → Type 0
IsOpened image callers (Ok machine) = IsOpening image callers machine
IsOpened image callers (Err (Unsound block rule)) = IsUnsound image block rule
IsOpened image callers (Err Device) = Unit {0}
IsOpened image callers (Err NoMemory) = Unit {0}

-- what is kept of the files of a volume
pub record AreFilesOf (image : Image) (files : VolumeFiles) : Type 0 where
  pub volume : IsVolume image (tree_of image)
  pub tells : TellsFiles image files
  pub whole : files.held + files.free ≡ (tree_of image).cap
  pub few : files.held + files.free ≤ 262144

abbrev pub AreOpened : Image → Result VolumeFiles OpenFault → Type 0
AreOpened image (Ok files) = AreFilesOf image files
AreOpened image (Err (Unsound block rule)) = IsUnsound image block rule
AreOpened image (Err Device) = Unit {0}
AreOpened image (Err NoMemory) = Unit {0}

-- the count of faults never falls, and Device comes only where it rose
abbrev pub IsDeviceFault : {T : Type 0} → Result T OpenFault → Type 0
IsDeviceFault (Ok made) = ⊥
IsDeviceFault (Err (Unsound block rule)) = ⊥
IsDeviceFault (Err Device) = Unit {0}
IsDeviceFault (Err NoMemory) = ⊥

pub record OpenCause {T : Type 0} (before now : ℕ) (result : Result T OpenFault) : Type 0 where
  pub later : before ≤ now
  pub failed : IsDeviceFault result → Rose before now
