-- The parts of a file that stand one after another from part 0 on, as a list of their addresses.
use Rattle.std.specs.Prelude.{List, ℕ, Bool, ◌+◌, ◌<◌, ◌≤◌, ◌≡◌, length, slice_index}
use Rattle.mb_check_files.specs.Passes.{count_met}
use Rattle.mb_check_files.specs.declared.part_lists.Run.{Run}
use Rattle.mb_check_files.specs.declared.part_lists.Run.TheVariants.{Whole, Ended, Torn}
use Rattle.mb_check_files.specs.declared.part_lists.PartList.{PartList}

-- the other list has these numbers first
pub record Extends (old new : List ℕ) : Type 0 where
  pub longer : length old ≤ length new
  pub same : (k : ℕ) → k < length old → slice_index new k ≡ slice_index old k

-- a part is there behind one that is missing
pub record IsTorn (address : ℕ → ℕ) (below : ℕ) : Type 0 where
  pub hole : ℕ
  pub part : ℕ
  pub order : hole < part
  pub low : part < below
  pub missing : address hole ≡ 0
  pub there : 0 < address part

-- what the run says of the parts below a number, of which the first count are listed
abbrev pub RunsTo : (ℕ → ℕ) → ℕ → ℕ → Run → Type 0
RunsTo address count below Whole = count ≡ below
RunsTo address count below Ended = (count < below) × ((p : ℕ) → count ≤ p → p < below → address p ≡ 0)
RunsTo address count below Torn = IsTorn address below

-- the parts below a number were gone through, and those from 0 on that are there without a gap stand in the list
-- from a place on
pub record ListsParts (address : ℕ → ℕ) (from below : ℕ) (parts : PartList) : Type 0 where
  pub count : ℕ
  pub whole : length parts.addresses.items ≡ from + count
  pub listed : (p : ℕ) → p < count → slice_index parts.addresses.items (from + p) ≡ address p
  pub there : (p : ℕ) → p < count → 0 < address p
  pub run : RunsTo address count below parts.run

-- the next n parts were gone through, which are at these addresses
abbrev pub Notes : PartList → PartList → (ℕ → ℕ) → ℕ → Type 0
Notes old new next n = (address : ℕ → ℕ) (from below : ℕ) → ((k : ℕ) → k < n → address (below + k) ≡ next k) → ListsParts address from below old → ListsParts address from (below + n) new

-- for each address that was listed a block was met
pub record IsPaid (old new : PartList) (before now : List Bool) : Type 0 where
  pub paid : length new.addresses.items + count_met before ≤ length old.addresses.items + count_met now

-- the run where the next part is missing
abbrev pub run_passed : Run → Run
run_passed Whole = Ended
run_passed Ended = Ended
run_passed Torn = Torn
