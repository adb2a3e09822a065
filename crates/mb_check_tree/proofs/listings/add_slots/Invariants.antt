use Rattle.std.proofs.Common.{ℕ, List, ◌≡◌, ◌+◌, ◌*◌}
use Rattle.mb_tree.specs.Blocks.{part_bytes}
use Rattle.mb_check_tree.specs.Listings.{first_slots}
use Rattle.mb_check_tree.proofs.listings.add_slots.Given as goal

-- the slots so far
abbrev pub invariant-loop-place : goal.invariant-loop-place
invariant-loop-place l = (blocks : ℕ → List ℕ) (dir part : ℕ) → l.block ≡ part_bytes blocks dir part → l.fn.slots ≡ first_slots blocks dir (32 * part) → l.slots ≡ first_slots blocks dir (32 * part + l.place)
