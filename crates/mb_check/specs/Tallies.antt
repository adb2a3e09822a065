-- What is counted of the slots of directories while they are gone through, for rules 13 and 14.
use Rattle.std.specs.Prelude.{List, ℕ, ◌+◌, ◌≤◌, ◌<◌, ◌≡◌, Bool, true, ◌&&◌, nat_le, min, if◌then◌else◌, Some, slice_get, length, count_by, drop}
use Rattle.mb_tree.specs.Blocks.{slot_in}
use Rattle.mb_tree.specs.Counting.{sum_below}
use Rattle.mb_tree.specs.Inodes.{is_directory}
use Rattle.mb_tree.specs.Trees.{leads_to}
use Rattle.mb_tree.specs.Volume.{last_inode}
use Rattle.mb_rules.specs.Files.{mode_at}
use Rattle.mb_rules.specs.Parents.{late_from}
use Rattle.mb_rules.specs.Slots.{slots_at}
use Rattle.mb_check.specs.declared.tallies.Late.{Late}
use Rattle.mb_check.specs.declared.tallies.Late.TheVariants.{Never, Once, Often}
use Rattle.mb_check.specs.declared.tallies.Tally.{Tally}
use Rattle.mb_check.specs.declared.tallies.SlotCounts.{SlotCounts}

abbrev pub one_if : Bool → ℕ
one_if b = if b then 1 else 0

-- of the first n slots of a directory, those after the first skip that lead to an inode
abbrev pub slots_to : ℕ → (ℕ → List ℕ) → ℕ → ℕ → ℕ → ℕ
slots_to skip blocks ino dir n = sum_below (λ at. one_if (nat_le skip at && leads_to ino (slot_in blocks dir at))) n

-- those of the directories before it too
abbrev pub slots_so_far : ℕ → (ℕ → List ℕ) → ℕ → ℕ → ℕ → ℕ
slots_so_far skip blocks ino dir n = sum_below (λ d. count_by (leads_to ino) (drop skip (slots_at blocks d))) dir + slots_to skip blocks ino dir n

-- a directory with such a slot after its second: one before that directory, or itself
pub data HoldsLate (blocks : ℕ → List ℕ) (ino dir n : ℕ) : ℕ → Type 0 where
  before : {holder : ℕ} → holder < dir → 0 < late_from blocks ino holder → HoldsLate blocks ino dir n holder
  itself : {holder : ℕ} → holder ≡ dir → 0 < slots_to 2 blocks ino dir n → HoldsLate blocks ino dir n holder

abbrev pub IsLate : Late → ℕ → (ℕ → Type 0) → Type 0
IsLate Never count holds = count ≡ 0
IsLate (Once dir) count holds = (count ≡ 1) × holds dir
IsLate Often count holds = 2 ≤ count

-- what is counted of one inode, over the directories below dir and the first n slots of dir
pub record KeepsTally (blocks : ℕ → List ℕ) (dir n ino : ℕ) (tally : Tally) : Type 0 where
  pub all : tally.all ≡ min (slots_so_far 0 blocks ino dir n) 65535
  pub late : IsLate tally.late (slots_so_far 2 blocks ino dir n) (HoldsLate blocks ino dir n)

abbrev pub KeepsTallies : (ℕ → List ℕ) → ℕ → ℕ → List Tally → Type 0
KeepsTallies blocks dir n tallies = (ino : ℕ) (tally : Tally) → slice_get tallies ino ≡ Some tally → KeepsTally blocks dir n ino tally

-- a directory whose second slot was gone through
pub data IsPassed (dir n : ℕ) : ℕ → Type 0 where
  below : {d : ℕ} → d < dir → IsPassed dir n d
  within : {d : ℕ} → d ≡ dir → 2 ≤ n → IsPassed dir n d

-- the inode to which the second slot of each such directory leads
abbrev pub KeepsParents : (ℕ → List ℕ) → ℕ → ℕ → List ℕ → Type 0
KeepsParents blocks dir n parents = (d up : ℕ) → IsPassed dir n d → is_directory (mode_at blocks d) ≡ true → slice_get parents d ≡ Some up → up ≡ (slot_in blocks d 1).ino

-- all that is counted
pub record KeepsCounts (blocks : ℕ → List ℕ) (dir n : ℕ) (counts : SlotCounts) : Type 0 where
  pub tallies : KeepsTallies blocks dir n counts.tallies.items
  pub parents : KeepsParents blocks dir n counts.parents.items
  pub sized : length counts.tallies.items ≡ last_inode blocks + 1
  pub aligned : length counts.parents.items ≡ last_inode blocks + 1

-- one slot more that leads to the inode, in a directory; a late one stands after the second
abbrev pub late_more : Late → ℕ → Late
late_more Never dir = Once dir
late_more (Once other) dir = Often
late_more Often dir = Often

abbrev pub tally_more : Tally → ℕ → Bool → Tally
tally_more tally dir late = record { all = min (tally.all + 1) 65535; late = if late then late_more tally.late dir else tally.late }
