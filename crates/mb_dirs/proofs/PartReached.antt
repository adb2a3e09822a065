-- The block of a part that was reached within a step.
use Rattle.std.proofs.Common.{ℕ, ◌≡◌, ◌<◌, ◌≤◌, Bool, List, length, subst, arith}
use Rattle.mb_kinds.specs.Image.{Image}
use Rattle.mb_tree.specs.Blocks.{part_address}
use Rattle.mb_tree.specs.Cost.{most_parts}
use Rattle.mb_tree.specs.Places.{place_of}
use Rattle.mb_tree.specs.declared.trees.Tree.{Tree}
use Rattle.mb_blocks.specs.Growing.{Reaches}
use Rattle.mb_blocks.proofs.PartPlaces.{place_is}
use Rattle.mb_blocks.proofs.Reached.{got}
use Rattle.mb_nodes.specs.Stored.{IsStored}
use Rattle.mb_moves.specs.Advancing.{IsNearTo}
use Rattle.mb_moves.specs.Midway.{IsMidway}
use Rattle.mb_moves.proofs.Within.{midway_near, midway_reached}

module _ (image : Image) (tree : Tree) (looks has : ℕ → Bool) (old new : ℕ → List ℕ) (ino part : ℕ) (midway : IsMidway image tree looks has old ino) (below : part < most_parts)
    (reaches : Reaches old new (place_of ino part)) (block : ℕ) (is : part_address new ino part ≡ block) where
  then : IsMidway image tree looks has new ino
  then = midway_reached image tree looks has old new ino part midway below reaches

  pub some : 0 < part_address new ino part
  some = (got has old midway.left midway.ready.laid ino part midway.ready.is below new reaches).here

  pub in_volume : (0 < block) × (block < 262144)
  in_volume =
      (let real = some in
      let range = then.ready.laid.in_range (place_of ino part) (place_is has ino part then.ready.is below) real in
      let b = range.below in
      let f = then.ready.few_blocks in (
        omega (arith, real, is),
        omega (arith, b, f, is),
      ))

  pub sized : (other : ℕ) → length (new other) ≡ 512
  sized = then.ready.laid.sized

  pub block_near : (chain : List ℕ) → IsStored image tree chain → 1 ≤ ino → ino ≤ tree.last → IsNearTo image tree looks block
  block_near chain stored low high = subst (IsNearTo image tree looks) is ((midway_near image tree chain looks has new ino stored low high then).1 part below some)
