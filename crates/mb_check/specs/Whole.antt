-- The scan from its fourth part on, and what it tells of a volume.
use Rattle.std.specs.Prelude.{List, ◌++◌, ℕ, ◌+◌, ◌≤◌, ◌≡◌, Bool, not, ◌&&◌, nat_eq, Some, None, Result, Ok, Err, is_some, filter, length}
use Rattle.std.specs.FinMap as fin
use Rattle.std.specs.List.{range_with_len}
use Rattle.mb_kinds.specs.Image.{Image}
use Rattle.mb_tree.specs.Cost.{cost}
use Rattle.mb_tree.specs.Counting.{sum_below}
use Rattle.mb_tree.specs.Inodes.{is_directory}
use Rattle.mb_tree.specs.Opening.{is_nameless}
use Rattle.mb_tree.specs.Volume.{IsVolume}
use Rattle.mb_tree.specs.declared.trees.Tree.{Tree}
use Rattle.mb_rules.specs.Items.{Item}
use Rattle.mb_rules.specs.Files.{root_items}
use Rattle.mb_rules.specs.Parents.{parents_items}
use Rattle.mb_rules.specs.Slots.{slots_items}
use Rattle.mb_rules.specs.Scan.{scan}
use Rattle.mb_rules.specs.TreeOf.{chain_of, tree_of}
use Rattle.mb_edge.specs.Causes.{Rose}
use Rattle.mb_check_files.specs.declared.inodes.InodeKept.{InodeKept}
use Rattle.mb_check_files.specs.declared.stops.Stop.{Stop}
use Rattle.mb_check_files.specs.declared.stops.Stop.TheVariants as stops
use Rattle.mb_check.specs.Tallies.{one_if}
use Rattle.mb_check.specs.declared.scans.OpenFault.{OpenFault}
use Rattle.mb_check.specs.declared.scans.OpenFault.TheVariants.{Unsound, Device, NoMemory}
use Rattle.mb_check.specs.declared.scans.Scan.{Scan}

-- the root; slots; parents and link counts
abbrev pub late_items : (ℕ → List ℕ) → List Item
late_items blocks = root_items blocks ++ (slots_items blocks ++ parents_items blocks)

-- how many inodes are in use
abbrev pub count_nodes : Tree → ℕ
count_nodes tree = sum_below (λ ino. one_if (is_some (fin.get tree.nodes ino))) (tree.last + 1)

-- the numbers of the files without a name, in rising order; inode 1 is none of them
abbrev pub nameless_in : Tree → List ℕ
nameless_in tree = filter (λ ino. is_nameless ino (fin.get tree.nodes ino)) (range_with_len 0 (tree.last + 1))

-- the figures are those of a tree with so many free blocks
pub record Tells (tree : Tree) (free : ℕ) (told : Scan) : Type 0 where
  pub nodes : told.nodes ≡ count_nodes tree
  pub held : told.held ≡ cost tree
  pub free_blocks : told.free ≡ free
  pub nameless : told.nameless ≡ nameless_in tree

-- the image is a volume of the tree that its bytes show, or no volume at all
pub record IsSoundAs (image : Image) (told : Scan) : Type 0 where
  pub none : scan image ≡ None
  pub volume : IsVolume image (tree_of image)
  pub tells : Tells (tree_of image) (length (chain_of image.at)) told

pub record IsUnsound (image : Image) (block rule : ℕ) : Type 0 where
  pub found : scan image ≡ Some (record { block = block; rule = rule })
  pub no_volume : (tree : Tree) → IsVolume image tree → ⊥

abbrev pub IsScanned : Image → Result Scan OpenFault → Type 0
IsScanned image (Ok told) = IsSoundAs image told
IsScanned image (Err (Unsound block rule)) = IsUnsound image block rule
IsScanned image (Err Device) = Unit {0}
IsScanned image (Err NoMemory) = Unit {0}

-- what is kept of a file without a name
abbrev pub is_nameless_kept : ℕ → InodeKept → Bool
is_nameless_kept ino kept = not (nat_eq kept.mode 0) && nat_eq kept.nlink 0 && not (is_directory kept.mode) && not (nat_eq ino 1)

-- a pass that ended is why the image is not opened
abbrev pub fault_of : Stop → OpenFault
fault_of (stops.Broken broken) = Unsound broken.block broken.rule
fault_of stops.Device = Device
fault_of stops.NoMemory = NoMemory

-- the count of faults never falls, and Device comes only where it rose
abbrev pub IsDiskFault : Result Scan OpenFault → Type 0
IsDiskFault (Ok told) = ⊥
IsDiskFault (Err (Unsound block rule)) = ⊥
IsDiskFault (Err Device) = Unit {0}
IsDiskFault (Err NoMemory) = ⊥

pub record HasFailed (before now : ℕ) (result : Result Scan OpenFault) : Type 0 where
  pub later : before ≤ now
  pub failed : IsDiskFault result → Rose before now
