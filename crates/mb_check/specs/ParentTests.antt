-- What rules 13 and 14 go by, once all slots were gone through.
use Rattle.std.specs.Prelude.{List, ℕ, ◌+◌, ◌≤◌, ◌≡◌, Bool, true, false, not, ◌&&◌, nat_eq}
use Rattle.mb_tree.specs.Blocks.{slot_in}
use Rattle.mb_tree.specs.Inodes.{is_directory}
use Rattle.mb_tree.specs.Volume.{last_inode}
use Rattle.mb_rules.specs.Files.{mode_at}
use Rattle.mb_check.specs.Reaching.{AreReached}
use Rattle.mb_check.specs.Tallies.{KeepsCounts}
use Rattle.mb_check.specs.declared.tallies.Late.{Late}
use Rattle.mb_check.specs.declared.tallies.Late.TheVariants.{Never, Once, Often}
use Rattle.mb_check.specs.declared.tallies.SlotCounts.{SlotCounts}

-- the second slot of each directory leads to an inode
abbrev pub LeadUp : (ℕ → List ℕ) → Type 0
LeadUp blocks = (dir : ℕ) → 1 ≤ dir → dir ≤ last_inode blocks → is_directory (mode_at blocks dir) ≡ true → (slot_in blocks dir 1).ino ≤ last_inode blocks

-- all slots are counted, and the flags are those of the inodes that the root reaches
pub record KnowsLinks (blocks : ℕ → List ℕ) (counts : SlotCounts) (reached : List Bool) : Type 0 where
  pub counted : KeepsCounts blocks (last_inode blocks + 1) 0 counts
  pub upward : LeadUp blocks
  pub flags : AreReached blocks reached

-- rule 13 by what is counted: of the root, and of another directory
abbrev pub fits_parent : Late → ℕ → ℕ → Bool → Bool
fits_parent Never dir up reached = nat_eq dir 2 && nat_eq up 2
fits_parent (Once holder) dir up reached = not (nat_eq dir 2) && nat_eq holder up && reached
fits_parent Often dir up reached = false
