use Rattle.mb_tree.specs.Blocks.{slot_of}
use Rattle.mb_namei.specs.Slots.{IsFirstEmpty}
use Rattle.mb_namei.proofs.slots.first_gap.Given as goal

abbrev pub invariant-loop-place : goal.invariant-loop-place
invariant-loop-place l = IsFirstEmpty (slot_of l.bytes) l.place 32 32
