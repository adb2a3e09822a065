-- A directory of a stored tree at which an operation looks.
use Rattle.std.proofs.Common.{ℕ, ◌≡◌, ◌/◌, ◌<◌, ◌≤◌, Bool, true, List, [], length, ap, subst, ◌∙◌, arith}
use Rattle.mb_kinds.specs.Image.{Image}
use Rattle.mb_tree.specs.Blocks.{part_address, part_in}
use Rattle.mb_tree.specs.Cost.{most_parts}
use Rattle.mb_tree.specs.Volume.{HasBody, HasDirectory, body_has_addresses, node_has_addresses, has_addresses}
use Rattle.mb_tree.specs.declared.nodes.Node.{Node}
use Rattle.mb_tree.specs.declared.nodes.PlainSlot.{PlainSlot}
use Rattle.mb_tree.specs.declared.trees.Tree.{Tree}
use Rattle.mb_blocks.proofs.PartBytes.{held_part, some_is}
use Rattle.mb_nodes.specs.Stored.{IsStored}
use Rattle.mb_nodes.proofs.NodeParts.{node_stored, slots_few}
use Rattle.mb_nodes.proofs.OneInode.{laid_stored}
use Rattle.mb_dirs.specs.Steps.{IsLookedThrough}

module _ (image : Image) (tree : Tree) (chain : List ℕ) (looks : ℕ → Bool) (stored : IsStored image tree chain) (dir : ℕ) (node : Node) (slots : List PlainSlot) (look : IsLookedThrough tree looks dir node slots) where
  pub holds : HasDirectory image.at dir slots
  holds = subst (HasBody image.at dir) look.body (node_stored image tree chain stored dir node look.has).body

  pub on : body_has_addresses node.body ≡ true
  on = ap body_has_addresses look.body

  pub is_on : has_addresses tree dir ≡ true
  is_on = ap node_has_addresses look.has ∙ on

  pub within : (1 ≤ dir) × (dir ≤ tree.last)
  within = stored.numbers dir node look.has

  pub few : length slots ≤ 8388608
  few = (let p = slots_few (has_addresses tree) image.at [] chain (laid_stored image tree chain stored) stored.sizes.few_blocks dir is_on (length slots) holds.parts in omega (arith, p))

  pub held : (at : ℕ) → at < length slots → 0 < part_address image.at dir (at / 32)
  held at low =
      let f = few in
      let below : at / 32 < most_parts = omega (arith, f, low) in
      let was = some_is (part_in image.at dir (at / 32)) ((holds.parts (at / 32) below).1 (omega (arith, low))) in
      (held_part image.at dir (at / 32) was.0 was.1).1
