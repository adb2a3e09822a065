-- What is kept of the inodes that the root reaches, while directories are read again (rule 13).
use Rattle.std.specs.Prelude.{List, ℕ, ◌+◌, ◌/◌, ◌≤◌, ◌<◌, ◌≡◌, true, Some, Bool, slice_get, length, count_by}
use Rattle.mb_tree.specs.Blocks.{slot_in}
use Rattle.mb_tree.specs.Inodes.{is_directory}
use Rattle.mb_tree.specs.Volume.{last_inode}
use Rattle.mb_rules.specs.Files.{mode_at, size_at}
use Rattle.mb_rules.specs.Parents.{is_reached}
use Rattle.mb_check.specs.declared.reaching.Reach.{Reach}

-- each inode that is flagged stands once in the list, and the root reaches it
pub record Reaching (blocks : ℕ → List ℕ) (reach : Reach) : Type 0 where
  pub sized : length reach.flags.items ≡ last_inode blocks + 1
  pub listed : (ino : ℕ) → slice_get reach.flags.items ino ≡ Some true → (at : ℕ) × (slice_get reach.list.items at ≡ Some ino)
  pub flagged : (at ino : ℕ) → slice_get reach.list.items at ≡ Some ino → slice_get reach.flags.items ino ≡ Some true
  pub once : length reach.list.items ≡ count_by (λ flag. flag) reach.flags.items
  pub reached : (ino : ℕ) → slice_get reach.flags.items ino ≡ Some true → is_reached blocks (last_inode blocks) ino ≡ true

-- nothing that was reached is lost
pub record Grows (old new : Reach) : Type 0 where
  pub flags : (ino : ℕ) → slice_get old.flags.items ino ≡ Some true → slice_get new.flags.items ino ≡ Some true
  pub list : (at ino : ℕ) → slice_get old.list.items at ≡ Some ino → slice_get new.list.items at ≡ Some ino

-- an inode more
pub record Marks (blocks : ℕ → List ℕ) (ino : ℕ) (old new : Reach) : Type 0 where
  pub reaching : Reaching blocks new
  pub grows : Grows old new
  pub flag : ino ≤ last_inode blocks → slice_get new.flags.items ino ≡ Some true

-- all to which the first n slots of a directory lead, but for the first two, is reached
abbrev pub ReachesSlots : (ℕ → List ℕ) → ℕ → ℕ → Reach → Type 0
ReachesSlots blocks dir n reach = (at : ℕ) → 2 ≤ at → at < n → (slot_in blocks dir at).ino ≤ last_inode blocks → slice_get reach.flags.items (slot_in blocks dir at).ino ≡ Some true

pub record Advances (blocks : ℕ → List ℕ) (dir n : ℕ) (old new : Reach) : Type 0 where
  pub reaching : Reaching blocks new
  pub grows : Grows old new
  pub slots : ReachesSlots blocks dir n new

-- a directory that the root reaches
pub record IsReachedDirectory (blocks : ℕ → List ℕ) (dir : ℕ) : Type 0 where
  pub within : dir ≤ last_inode blocks
  pub enough : 2 ≤ last_inode blocks
  pub reached : is_reached blocks (last_inode blocks) dir ≡ true
  pub directory : is_directory (mode_at blocks dir) ≡ true

-- all slots of an inode, where it is a directory
abbrev pub ReachesAll : (ℕ → List ℕ) → ℕ → Reach → Type 0
ReachesAll blocks dir reach = is_directory (mode_at blocks dir) ≡ true → ReachesSlots blocks dir (size_at blocks dir / 16) reach

pub record AdvancesOver (blocks : ℕ → List ℕ) (dir : ℕ) (old new : Reach) : Type 0 where
  pub reaching : Reaching blocks new
  pub grows : Grows old new
  pub slots : ReachesAll blocks dir new

-- the flags are those of the inodes that the root reaches
abbrev pub AreReached : (ℕ → List ℕ) → List Bool → Type 0
AreReached blocks flags = (ino : ℕ) → ino ≤ last_inode blocks → slice_get flags ino ≡ Some (is_reached blocks (last_inode blocks) ino)
