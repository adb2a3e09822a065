use Rattle.std.proofs.Common.{ℕ, ◌≡◌, ◌≤◌, IfSome}
use Rattle.mb_check.specs.Directories.{KeepsDirectory, slots_before}
use Rattle.mb_check_tree.specs.Listings.{first_slots}
use Rattle.mb_check_tree.proofs.listings.directory_slots.Given as goal

-- the slots of the parts so far
abbrev pub invariant-loop-part : goal.invariant-loop-part
invariant-loop-part g l = record {
  told : g.D.Disk.told l.disk ≡ g.D.Disk.told l.fn.disk;
  later : g.D.Disk.faults l.fn.disk ≤ g.D.Disk.faults l.disk;
  slots : IfSome (g.D.Disk.told l.fn.disk) (λ image. (dir : ℕ) → KeepsDirectory image.at l.table dir l.kept → l.slots ≡ first_slots image.at dir (slots_before l.kept.size l.part));
}
