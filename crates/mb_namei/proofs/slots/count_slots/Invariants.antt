use Rattle.std.proofs.Common.{◌≡◌, ◌≤◌}
use Rattle.mb_tree.specs.Blocks.{slot_of}
use Rattle.mb_namei.specs.Slots.{used_below}
use Rattle.mb_namei.proofs.slots.count_slots.Given as goal

abbrev pub invariant-loop-place : goal.invariant-loop-place
invariant-loop-place l = record {
  used : used_below (slot_of l.bytes) l.place ≡ l.used;
  few : l.used ≤ l.place;
}
