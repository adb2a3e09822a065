-- The first slots of a directory.
use Rattle.std.specs.Prelude.{List, ℕ, map}
use Rattle.std.specs.List.{range_with_len}
use Rattle.mb_tree.specs.Blocks.{slot_in}
use Rattle.mb_tree.specs.declared.nodes.PlainSlot.{PlainSlot}

unfoldable pub first_slots : (ℕ → List ℕ) → ℕ → ℕ → List PlainSlot
first_slots blocks dir n = map (slot_in blocks dir) (range_with_len 0 n)
