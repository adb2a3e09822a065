use Rattle.std.proofs.Common.{ℕ, List, ◌≡◌, ◌+◌, ◌*◌, Ok}
use Rattle.mb_tree.specs.Blocks.{part_address, part_bytes}
use Rattle.mb_tree.specs.Volume.{last_inode}
use Rattle.mb_rules.specs.Items.{each_from, walked}
use Rattle.mb_rules.specs.Slots.{slot_items}
use Rattle.mb_check_files.specs.InodeTables.{KeepsInodes}
use Rattle.mb_check.specs.SlotTests.{KnowsNames}
use Rattle.mb_check.proofs.directories.block_slots.Given as goal

-- the slots so far pass, and their names are known
abbrev pub invariant-loop-place : goal.invariant-loop-place
invariant-loop-place l = record {
  walk : (blocks : ℕ → List ℕ) (met : List ℕ) → KeepsInodes blocks l.table (last_inode blocks) → l.block ≡ part_bytes blocks l.ino l.part → l.number ≡ part_address blocks l.ino l.part
      → KnowsNames blocks l.ino (32 * l.part) l.fn.names → walked met (each_from (slot_items blocks l.ino) (32 * l.part) l.place) ≡ Ok met;
  names : (blocks : ℕ → List ℕ) → l.block ≡ part_bytes blocks l.ino l.part → KnowsNames blocks l.ino (32 * l.part) l.fn.names → KnowsNames blocks l.ino (32 * l.part + l.place) l.names;
}
