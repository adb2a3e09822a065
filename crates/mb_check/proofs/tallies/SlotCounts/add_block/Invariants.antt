use Rattle.std.proofs.Common.{ℕ, List, ◌≡◌, ◌+◌, ◌*◌}
use Rattle.mb_tree.specs.Blocks.{part_bytes}
use Rattle.mb_check.specs.Tallies.{KeepsCounts}
use Rattle.mb_check.proofs.tallies.SlotCounts.add_block.Given as goal

-- the slots so far are counted
abbrev pub invariant-loop-place : goal.invariant-loop-place
invariant-loop-place l = (blocks : ℕ → List ℕ) → l.block ≡ part_bytes blocks l.dir l.part → KeepsCounts blocks l.dir (32 * l.part) l.fn.self → KeepsCounts blocks l.dir (32 * l.part + l.place) l.self
