-- A directory that cannot grow, or cannot be made, for want of blocks is refused.
use Rattle.std.proofs.Common.{ℕ, ◌≡◌, ◌+◌, ◌/◌, ◌%◌, ◌<◌, ◌≤◌, true, false, List, [], ◌++◌, length, Some, None, nat_le, Err, refl, ap, subst, ◌∙◌, arith}
use Rattle.std.specs.FinMap as fin
use Rattle.std.proofs.lemmas.Bool.Decides.{nat_tests}
use Rattle.mb_kinds.specs.Image.{Image}
use Rattle.mb_kinds.specs.declared.errors.Errno.TheVariants.{ENOSPC}
use Rattle.mb_tree.specs.Blocks.{pointers}
use Rattle.mb_tree.specs.Cost.{body_cost, cost, cost_at, first_parts, index_blocks, parts_for}
use Rattle.mb_tree.specs.Effect.{fitting}
use Rattle.mb_tree.specs.Places.{place_of}
use Rattle.mb_tree.specs.Volume.{HasBody, HasDirectory, body_has_addresses, has_addresses}
use Rattle.mb_tree.specs.declared.nodes.Body.TheVariants.{Directory}
use Rattle.mb_tree.specs.declared.nodes.Node.{Node}
use Rattle.mb_tree.specs.declared.nodes.PlainSlot.{PlainSlot}
use Rattle.mb_tree.specs.declared.trees.Tree.{Tree}
use Rattle.mb_tree.proofs.FiniteMaps.{get_here, get_there}
use Rattle.mb_tree.proofs.Sums.{sum_but}
use Rattle.mb_blocks.specs.Growing.{missing}
use Rattle.mb_blocks.proofs.Groupings.{first_length}
use Rattle.mb_nodes.specs.Bodies.{HasSlots}
use Rattle.mb_nodes.specs.Stored.{IsStored, with_node}
use Rattle.mb_nodes.proofs.MoreSlots.{slots_cost}
use Rattle.mb_nodes.proofs.NodeParts.{addressed, node_stored}
use Rattle.mb_nodes.proofs.OneInode.{laid_stored, leads_stored}

module _ (image : Image) (tree : Tree) (chain : List ℕ) (stored : IsStored image tree chain) (ino : ℕ) (within : (1 ≤ ino) × (ino ≤ tree.last)) (wanted : Node) where
  -- a node that costs more than the old one and the free blocks does not fit
  pub over_full : cost_at (fin.get tree.nodes ino) + length chain < body_cost wanted.body → fitting tree (fin.insert tree.nodes ino wanted) ≡ Err ENOSPC
  over_full over =
      let moved = sum_but (λ j. cost_at (fin.get tree.nodes j)) (λ j. cost_at (fin.get (with_node tree ino wanted).nodes j)) ino (tree.last + 1) (omega (arith, within.1)) (λ j apart. ap cost_at (get_there tree.nodes ino wanted j apart)) in
      let here : cost_at (fin.get (with_node tree ino wanted).nodes ino) ≡ body_cost wanted.body = ap cost_at (get_here tree.nodes ino wanted) in
      let room = stored.capacity in
      let more : tree.cap < cost (with_node tree ino wanted) = omega (arith, moved, here, room, over) in
      let t : nat_le (cost (with_node tree ino wanted)) tree.cap ≡ false = grind (arith, nat_tests) in
      rw t refl

module _ (image : Image) (tree : Tree) (chain : List ℕ) (stored : IsStored image tree chain) (ino : ℕ) (node : Node) (has : fin.get tree.nodes ino ≡ Some node) (slots more : List PlainSlot)
    (body : node.body ≡ Directory slots) (some_more : 0 < length more) (in_one : length slots % 32 + length more ≤ 32) (short : length chain < missing (pointers image.at) (place_of ino (length slots / 32)))
    (wanted : Node) (now : wanted.body ≡ Directory (slots ++ more)) where
  dir : HasDirectory image.at ino slots
  dir = subst (HasBody image.at ino) body (node_stored image tree chain stored ino node has).body

  is : has_addresses tree ino ≡ true
  is = addressed image tree chain stored ino node has (ap body_has_addresses body)

  was : HasSlots image.at ino slots
  was = record { each = dir.each; parts = dir.parts }

  pub grow_refused : fitting tree (fin.insert tree.nodes ino wanted) ≡ Err ENOSPC
  grow_refused =
      let c = slots_cost (has_addresses tree) image.at chain (laid_stored image tree chain stored) (leads_stored image tree chain stored) stored.sizes.few_blocks ino is slots more was some_more in_one in
      let a : cost_at (fin.get tree.nodes ino) ≡ body_cost (Directory slots) = ap cost_at has ∙ ap body_cost body in
      let b : body_cost wanted.body ≡ body_cost (Directory (slots ++ more)) = ap body_cost now in
      over_full image tree chain stored ino (stored.numbers ino node has) wanted (omega (arith, a, b, c, short))

pub make_refused : (image : Image) (tree : Tree) (chain : List ℕ) → IsStored image tree chain → (ino : ℕ) → (1 ≤ ino) × (ino ≤ tree.last) → fin.get tree.nodes ino ≡ None → chain ≡ []
    → (wanted : Node) (slots : List PlainSlot) → wanted.body ≡ Directory slots → 0 < length slots → fitting tree (fin.insert tree.nodes ino wanted) ≡ Err ENOSPC
make_refused image tree chain stored ino within none empty wanted slots now some =
    let a : cost_at (fin.get tree.nodes ino) ≡ 0 = ap cost_at none in
    let b : body_cost wanted.body ≡ length (first_parts (parts_for (length slots))) + index_blocks (first_parts (parts_for (length slots))) = ap body_cost now in
    let c = first_length (parts_for (length slots)) in
    let e : length chain ≡ 0 = ap length empty in
    let p : 0 < parts_for (length slots) = omega (arith, some) in
    over_full image tree chain stored ino within wanted (omega (arith, a, b, c, e, p))
