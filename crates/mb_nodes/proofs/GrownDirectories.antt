-- A directory grows by slots in its last part, or in a new one.
use Rattle.std.proofs.Common.{ℕ, ◌≡◌, ◌+◌, ◌*◌, ◌/◌, ◌%◌, ◌<◌, ◌≤◌, true, List, [], ◌++◌, length, Some, refl, sym, ap, subst, ◌∙◌, arith}
use Rattle.std.specs.FinMap as fin
use Rattle.mb_kinds.specs.Image.{Image}
use Rattle.mb_word.specs.Fields.{inode_block, inode_place, size_of}
use Rattle.mb_tree.specs.Blocks.{pointers, part_address}
use Rattle.mb_tree.specs.Cost.{most_parts, cost_at, body_cost}
use Rattle.mb_tree.specs.Places.{place_of}
use Rattle.mb_tree.specs.Volume.{HasDirectory, HasBody, HasNode, body_has_addresses, has_addresses}
use Rattle.mb_tree.specs.declared.nodes.Body.TheVariants.{Directory}
use Rattle.mb_tree.specs.declared.nodes.Node.{Node}
use Rattle.mb_tree.specs.declared.nodes.PlainSlot.{PlainSlot}
use Rattle.mb_tree.specs.declared.trees.Tree.{Tree}
use Rattle.mb_blocks.specs.Growing.{Reaches, missing}
use Rattle.mb_blocks.proofs.PartWriting.{rewritten_held}
use Rattle.mb_blocks.proofs.Pointing.{part_kept}
use Rattle.mb_blocks.proofs.Reached.{got}
use Rattle.mb_blocks.specs.Inodes.{HasFields, IsRewritten}
use Rattle.mb_nodes.specs.Bodies.{HasSlots, HasWritten}
use Rattle.mb_nodes.specs.Stored.{Follows, IsStored}
use Rattle.mb_nodes.specs.Underway.{AgreesOff, IsUnderway}
use Rattle.mb_nodes.proofs.MoreSlots.{more_slots, slots_cost}
use Rattle.mb_nodes.proofs.NodeParts.{addressed, node_stored, slots_few}
use Rattle.mb_nodes.proofs.Underway.{after_reaching, after_rewriting, after_writing, begun, finished, mine_listed}

pub node_fields : (blocks : ℕ → List ℕ) (ino : ℕ) (node : Node) → HasFields blocks ino node → HasBody blocks ino node.body → HasNode blocks ino node
node_fields blocks ino node has body = record { used = has.used; mode = has.mode; nlink = has.nlink; uid = has.uid; gid = has.gid; atime = has.atime; mtime = has.mtime; ctime = has.ctime; body = body }

module _ (image : Image) (tree : Tree) (chain : List ℕ) (stored : IsStored image tree chain) (ino : ℕ) (node : Node) (slots more : List PlainSlot)
    (has : fin.get tree.nodes ino ≡ Some node) (body : node.body ≡ Directory slots) (some_more : 0 < length more) (in_one : length slots % 32 + length more ≤ 32)
    (one two new : ℕ → List ℕ) (reaches : Reaches image.at one (place_of ino (length slots / 32))) (writes : HasWritten one two (part_address one ino (length slots / 32)) (length slots % 32) more)
    (written : IsRewritten two new ino) (tops : (p : ℕ) → p < 13 → (pointers new).top ino p ≡ (pointers two).top ino p)
    (changed : Node) (now : changed.body ≡ Directory (slots ++ more)) (fields : HasFields new ino changed) (sized : size_of (new (inode_block ino)) (inode_place ino) ≡ 16 * length (slots ++ more)) where
  within : (1 ≤ ino) × (ino ≤ tree.last)
  within = stored.numbers ino node has

  dir : HasDirectory image.at ino slots
  dir = subst (HasBody image.at ino) body (node_stored image tree chain stored ino node has).body

  is : has_addresses tree ino ≡ true
  is = addressed image tree chain stored ino node has (ap body_has_addresses body)

  same_has : AgreesOff tree ino (has_addresses tree)
  same_has j apart = refl

  abbrev start : IsUnderway image tree chain ino (has_addresses tree) image.at chain
  start = begun image tree chain stored ino within

  below : length slots / 32 < most_parts
  below = (let few = slots_few (has_addresses tree) image.at [] chain start.laid stored.sizes.few_blocks ino is (length slots) dir.parts in omega (arith, few))

  -- the tree with the slots is stored, and the chain is shorter by what they cost
  pub grown_directory : (left : List ℕ) × Follows image tree new (record tree { nodes = fin.insert tree.nodes ino changed }) left
      × (length chain ≡ length left + missing (pointers image.at) (place_of ino (length slots / 32)))
  grown_directory =
      let reach = got (has_addresses tree) image.at chain start.laid ino (length slots / 32) is below one reaches in
      let under_one : IsUnderway image tree chain ino (has_addresses tree) one reach.left =
      after_reaching image tree chain stored ino within (has_addresses tree) same_has image.at chain start (length slots / 32) one reaches is below in
      let under_two : IsUnderway image tree chain ino (has_addresses tree) two reach.left =
      after_writing image tree chain stored ino within (has_addresses tree) same_has one reach.left under_one is (length slots / 32) below two reach.here writes.others writes.full in
      let low = mine_listed image tree chain stored ino within (has_addresses tree) same_has two reach.left under_two in
      let under_new : IsUnderway image tree chain ino (has_addresses tree) new reach.left =
      after_rewriting image tree chain stored ino within (has_addresses tree) same_has two reach.left under_two new written (λ t. tops) in
      let parts_same = part_kept (has_addresses tree) two new (rewritten_held (has_addresses tree) two new ino [] reach.left under_two.laid low written (λ t. tops)) ino in
      let was : HasSlots image.at ino slots = record { each = dir.each; parts = dir.parts } in
      let after : HasSlots new ino (slots ++ more) =
      more_slots (has_addresses tree) image.at chain start.laid start.leads stored.sizes.few_blocks ino is slots more was some_more in_one one two new reaches
      writes.others writes.full writes.kept writes.here (λ q. parts_same q is) in
      let whole : HasDirectory new ino (slots ++ more) = record { sized = sized; each = after.each; parts = after.parts } in (
        reach.left,
        finished image tree chain stored ino within (has_addresses tree) same_has new reach.left under_new changed (is ∙ sym (ap body_has_addresses now))
            (node_fields new ino changed fields (subst (HasBody new ino) (sym now) whole))
            (let a = ap body_cost now in
            let b : cost_at (fin.get tree.nodes ino) ≡ body_cost (Directory slots) = ap cost_at has ∙ ap body_cost body in
            let c = slots_cost (has_addresses tree) image.at chain start.laid start.leads stored.sizes.few_blocks ino is slots more was some_more in_one in
            let d = reach.count in
            omega (arith, a, b, c, d)),
        reach.count,
      )
