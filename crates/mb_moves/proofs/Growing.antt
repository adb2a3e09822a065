-- Steps at one inode that add addresses.
use Rattle.std.proofs.Common.{ℕ, ◌≡◌, ◌+◌, ◌*◌, ◌/◌, ◌%◌, ◌<◌, ◌≤◌, Bool, true, List, [], ◌++◌, length, Some, None, refl, ap, subst, ◌∙◌, arith}
use Rattle.std.specs.FinMap as fin
use Rattle.mb_kinds.specs.Image.{Image}
use Rattle.mb_word.specs.Fields.{inode_block, inode_place, size_of}
use Rattle.mb_tree.specs.Blocks.{pointers, part_address}
use Rattle.mb_tree.specs.Cost.{most_parts}
use Rattle.mb_tree.specs.Maps.{Numbered}
use Rattle.mb_tree.specs.Places.{place_of}
use Rattle.mb_tree.specs.Volume.{HasBody, HasDirectory, body_has_addresses, has_addresses, node_has_addresses}
use Rattle.mb_tree.specs.declared.nodes.Body.TheVariants.{Regular, Directory}
use Rattle.mb_tree.specs.declared.nodes.Node.{Node}
use Rattle.mb_tree.specs.declared.nodes.PlainSlot.{PlainSlot}
use Rattle.mb_tree.specs.declared.trees.Tree.{Tree}
use Rattle.mb_blocks.specs.Growing.{Reaches, missing}
use Rattle.mb_blocks.specs.Inodes.{HasFields, IsRewritten}
use Rattle.mb_blocks.proofs.PartWriting.{rewritten_held, written_pointers}
use Rattle.mb_blocks.proofs.Pointing.{its_pointers}
use Rattle.mb_blocks.proofs.Reached.{got}
use Rattle.mb_nodes.specs.Bodies.{HasWritten}
use Rattle.mb_nodes.specs.Laws.{filled}
use Rattle.mb_nodes.specs.Stored.{IsStored, with_node}
use Rattle.mb_nodes.specs.Underway.{AgreesOff, IsUnderway}
use Rattle.mb_nodes.proofs.Filling.{filled_now}
use Rattle.mb_nodes.proofs.GrownDirectories.{grown_directory}
use Rattle.mb_nodes.proofs.NodeParts.{node_stored, slots_few}
use Rattle.mb_nodes.proofs.Underway.{after_reaching, after_rewriting, after_writing, begun, mine_listed}
use Rattle.mb_moves.specs.Advancing.{Advances}
use Rattle.mb_moves.proofs.Growth.{LosesNone, grown_advances, loses_by, loses_then}

module _ (image : Image) (tree : Tree) (chain : List ℕ) (looks : ℕ → Bool) (stored : IsStored image tree chain) (ino : ℕ) (node : Node) (has : fin.get tree.nodes ino ≡ Some node) where
  within : (1 ≤ ino) × (ino ≤ tree.last)
  within = stored.numbers ino node has

  same_has : AgreesOff tree ino (has_addresses tree)
  same_has j apart = refl

  start : IsUnderway image tree chain ino (has_addresses tree) image.at chain
  start = begun image tree chain stored ino within

  is : has_addresses tree ino ≡ body_has_addresses node.body
  is = ap node_has_addresses has

  -- a hole filled
  pub filled_advances : (size : ℕ) (parts : Numbered (List ℕ)) (part : ℕ) → node.body ≡ Regular size parts → fin.get parts part ≡ None → part < most_parts
      → (new : ℕ → List ℕ) → Reaches image.at new (place_of ino part)
      → (left : List ℕ) × Advances image tree looks new (filled tree ino node size parts part) left × (length chain ≡ length left + missing (pointers image.at) (place_of ino part))
  filled_advances size parts part body none below new reaches =
      let on : has_addresses tree ino ≡ true = is ∙ ap body_has_addresses body in
      let reach = got (has_addresses tree) image.at chain start.laid ino part on below new reaches in
      let under = after_reaching image tree chain stored ino within (has_addresses tree) same_has image.at chain start part new reaches on below in
      let now = filled_now image tree chain stored ino node size parts part has body none below new reaches in
      (now.0, grown_advances image tree chain stored ino (has_addresses tree) same_has (λ t. t) new reach.left under reach.same _ (λ t. on) looks now.0 now.1, now.2)

  -- a directory grown
  module _ (changed : Node) (slots more : List PlainSlot) (body : node.body ≡ Directory slots) (now : changed.body ≡ Directory (slots ++ more)) (some_more : 0 < length more)
      (in_one : length slots % 32 + length more ≤ 32) (one two new : ℕ → List ℕ) (reaches : Reaches image.at one (place_of ino (length slots / 32)))
      (writes : HasWritten one two (part_address one ino (length slots / 32)) (length slots % 32) more) (written : IsRewritten two new ino)
      (tops : (p : ℕ) → p < 13 → (pointers new).top ino p ≡ (pointers two).top ino p) (fields : HasFields new ino changed)
      (sized : size_of (new (inode_block ino)) (inode_place ino) ≡ 16 * length (slots ++ more)) where
    pub growth_advances : (left : List ℕ) × Advances image tree looks new (with_node tree ino changed) left × (length chain ≡ length left + missing (pointers image.at) (place_of ino (length slots / 32)))
    growth_advances =
        let dir : HasDirectory image.at ino slots = subst (HasBody image.at ino) body (node_stored image tree chain stored ino node has).body in
        let on : has_addresses tree ino ≡ true = is ∙ ap body_has_addresses body in
        let few = slots_few (has_addresses tree) image.at [] chain start.laid stored.sizes.few_blocks ino on (length slots) dir.parts in
        let below : length slots / 32 < most_parts = omega (arith, few) in
        let reach = got (has_addresses tree) image.at chain start.laid ino (length slots / 32) on below one reaches in
        let under_one = after_reaching image tree chain stored ino within (has_addresses tree) same_has image.at chain start (length slots / 32) one reaches on below in
        let under_two =
        after_writing image tree chain stored ino within (has_addresses tree) same_has one reach.left under_one on (length slots / 32) below two reach.here writes.others writes.full in
        let low = mine_listed image tree chain stored ino within (has_addresses tree) same_has two reach.left under_two in
        let under_new = after_rewriting image tree chain stored ino within (has_addresses tree) same_has two reach.left under_two new written (λ t. tops) in
        let then_two : LosesNone (has_addresses tree) one two =
        loses_by (has_addresses tree) one two (written_pointers (has_addresses tree) one two ino (length slots / 32) [] reach.left under_one.laid on below reach.here writes.others writes.full) in
        let then_new : LosesNone (has_addresses tree) two new =
        loses_by (has_addresses tree) two new (its_pointers (has_addresses tree) two new (rewritten_held (has_addresses tree) two new ino [] reach.left under_two.laid low written (λ t. tops))) in
        let follows = grown_directory image tree chain stored ino node slots more has body some_more in_one one two new reaches writes written tops changed now fields sized in
        let none : LosesNone (has_addresses tree) image.at new =
        loses_then (has_addresses tree) image.at one new reach.same (loses_then (has_addresses tree) one two new then_two then_new) in
        (follows.0, grown_advances image tree chain stored ino (has_addresses tree) same_has (λ t. t) new reach.left under_new none changed (λ t. on) looks follows.0 follows.1, follows.2)
