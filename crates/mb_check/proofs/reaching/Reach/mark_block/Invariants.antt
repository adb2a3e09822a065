use Rattle.std.proofs.Common.{ℕ, List, ◌≡◌, ◌+◌, ◌*◌, ◌/◌, ◌≤◌}
use Rattle.mb_tree.specs.Blocks.{part_bytes}
use Rattle.mb_rules.specs.Files.{size_at}
use Rattle.mb_check.specs.Reaching.{Advances, IsReachedDirectory, Reaching, ReachesSlots}
use Rattle.mb_check.proofs.reaching.Reach.mark_block.Given as goal

-- all to which the slots so far lead is reached
abbrev pub invariant-loop-place : goal.invariant-loop-place
invariant-loop-place l = (blocks : ℕ → List ℕ) (dir : ℕ) → l.block ≡ part_bytes blocks dir l.part → IsReachedDirectory blocks dir → 32 * l.part + l.count ≤ size_at blocks dir / 16
    → Reaching blocks l.fn.self → ReachesSlots blocks dir (32 * l.part) l.fn.self → Advances blocks dir (32 * l.part + l.place) l.fn.self l.self
