use Rattle.std.proofs.Common.{ℕ, List, ◌≡◌, ◌≤◌, ◌*◌, ◌/◌, ◌%◌, Ok, IfSome}
use Rattle.mb_word.specs.Fields.{index_entry}
use Rattle.mb_rules.specs.Items.{each_from, walked}
use Rattle.mb_rules.specs.Files.{address_items}
use Rattle.mb_check_files.specs.Indexes.{under_single}
use Rattle.mb_check_files.specs.Passes.{Stands, AreBounds}
use Rattle.mb_check_files.specs.PartLists.{Notes, Extends, IsPaid}
use Rattle.mb_check_files.proofs.addresses.double.Given as goal

-- the places so far were gone through, and their parts were noted
abbrev pub invariant-loop-place : goal.invariant-loop-place
invariant-loop-place g l = record {
  told : g.D.Disk.told l.disk ≡ g.D.Disk.told l.fn.disk;
  later : g.D.Disk.faults l.fn.disk ≤ g.D.Disk.faults l.disk;
  walk : IfSome (g.D.Disk.told l.fn.disk) (λ image. (list : List ℕ) → AreBounds image.at l.bounds → Stands l.initial.met list
      → (after : List ℕ) × (walked list (each_from (λ place. address_items image.at 1 l.address (index_entry l.block place)) 0 l.place) ≡ Ok after) × Stands l.met after);
  notes : IfSome (g.D.Disk.told l.fn.disk) (λ image. Notes l.initial.parts l.parts (λ k. under_single image.at (index_entry l.block (k / 128)) (k % 128)) (128 * l.place));
  kept : Extends l.initial.parts.addresses.items l.parts.addresses.items;
  few : IsPaid l.initial.parts l.parts l.initial.met l.met;
}
