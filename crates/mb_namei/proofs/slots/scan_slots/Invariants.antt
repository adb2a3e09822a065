use Rattle.mb_tree.specs.Blocks.{slot_of}
use Rattle.mb_namei.specs.Slots.{AreUnnamed}
use Rattle.mb_namei.proofs.slots.scan_slots.Given as goal

abbrev pub invariant-loop-place : goal.invariant-loop-place
invariant-loop-place l = AreUnnamed (slot_of l.bytes) l.name l.place
