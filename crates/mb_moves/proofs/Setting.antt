-- Steps at one inode that set no address.
use Rattle.std.proofs.Common.{ℕ, ◌≡◌, ◌≢◌, ◌/◌, ◌%◌, ◌<◌, ◌≤◌, Bool, true, List, [], length, Some, slice_set, refl, sym, ap, subst, ◌∙◌, arith}
use Rattle.std.specs.FinMap as fin
use Rattle.mb_kinds.specs.Image.{Image}
use Rattle.mb_word.specs.Fields.{isize_of, inode_block, inode_place, size_of}
use Rattle.mb_tree.specs.Blocks.{pointers, part_address, part_in}
use Rattle.mb_tree.specs.Cost.{most_parts}
use Rattle.mb_tree.specs.Maps.{Numbered}
use Rattle.mb_tree.specs.Volume.{HasBody, HasDirectory, HasFile, body_has_addresses, has_addresses, node_has_addresses}
use Rattle.mb_tree.specs.declared.nodes.Body.TheVariants.{Regular, Directory}
use Rattle.mb_tree.specs.declared.nodes.Node.{Node}
use Rattle.mb_tree.specs.declared.nodes.PlainSlot.{PlainSlot}
use Rattle.mb_tree.specs.declared.trees.Tree.{Tree}
use Rattle.mb_blocks.specs.Inodes.{HasFields, IsRewritten}
use Rattle.mb_blocks.proofs.PartBytes.{held_part, some_is}
use Rattle.mb_blocks.proofs.PartWriting.{rewritten_held, written_pointers}
use Rattle.mb_blocks.proofs.Pointing.{its_pointers}
use Rattle.mb_nodes.specs.Bodies.{IsSlotSet, KeepsBody}
use Rattle.mb_nodes.specs.Stored.{Follows, IsStored, with_node}
use Rattle.mb_nodes.specs.Underway.{AgreesOff, IsUnderway}
use Rattle.mb_nodes.proofs.NodeParts.{node_stored, slots_few}
use Rattle.mb_nodes.proofs.Setting.{put_now, set_now, sized_now}
use Rattle.mb_nodes.proofs.SlotSetting.{slot_now}
use Rattle.mb_nodes.proofs.Underway.{after_rewriting, after_writing, begun, mine_listed}
use Rattle.mb_moves.specs.Advancing.{Advances}
use Rattle.mb_moves.proofs.Growth.{grown_advances, loses_by}

module _ (image : Image) (tree : Tree) (chain : List ℕ) (looks : ℕ → Bool) (stored : IsStored image tree chain) (ino : ℕ) (node : Node) (has : fin.get tree.nodes ino ≡ Some node) where
  within : (1 ≤ ino) × (ino ≤ tree.last)
  within = stored.numbers ino node has

  same_has : AgreesOff tree ino (has_addresses tree)
  same_has j apart = refl

  start : IsUnderway image tree chain ino (has_addresses tree) image.at chain
  start = begun image tree chain stored ino within

  is : has_addresses tree ino ≡ body_has_addresses node.body
  is = ap node_has_addresses has

  low : inode_block ino < isize_of (image.at 1)
  low = mine_listed image tree chain stored ino within (has_addresses tree) same_has image.at chain start

  -- the inode written
  pub rewritten_advances : (new : ℕ → List ℕ) → IsRewritten image.at new ino → (has_addresses tree ino ≡ true → (p : ℕ) → p < 13 → (pointers new).top ino p ≡ (pointers image.at).top ino p)
      → (changed : Node) → (body_has_addresses changed.body ≡ true → has_addresses tree ino ≡ true) → (free : List ℕ) → Follows image tree new (with_node tree ino changed) free
      → Advances image tree looks new (with_node tree ino changed) free
  rewritten_advances new written tops changed also =
      grown_advances image tree chain stored ino (has_addresses tree) same_has (λ t. t) new chain
      (after_rewriting image tree chain stored ino within (has_addresses tree) same_has image.at chain start new written tops)
      (loses_by (has_addresses tree) image.at new (its_pointers (has_addresses tree) image.at new (rewritten_held (has_addresses tree) image.at new ino [] chain start.laid low written tops))) changed also looks

  -- a part's block written
  pub written_advances : (part : ℕ) → has_addresses tree ino ≡ true → part < most_parts → (new : ℕ → List ℕ) → 0 < part_address image.at ino part
      → ((block : ℕ) → block ≢ part_address image.at ino part → new block ≡ image.at block) → length (new (part_address image.at ino part)) ≡ 512
      → (changed : Node) (free : List ℕ) → Follows image tree new (with_node tree ino changed) free → Advances image tree looks new (with_node tree ino changed) free
  written_advances part on below new some others long changed =
      grown_advances image tree chain stored ino (has_addresses tree) same_has (λ t. t) new chain
      (after_writing image tree chain stored ino within (has_addresses tree) same_has image.at chain start on part below new some others long)
      (loses_by (has_addresses tree) image.at new (written_pointers (has_addresses tree) image.at new ino part [] chain start.laid on below some others long)) changed (λ t. on) looks

  pub set_advances : (changed : Node) → changed.body ≡ node.body → (new : ℕ → List ℕ) → IsRewritten image.at new ino → KeepsBody image.at new ino → HasFields new ino changed
      → Advances image tree looks new (with_node tree ino changed) chain
  set_advances changed body new written keeps fields =
      rewritten_advances new written (λ t. keeps.tops) changed (λ t. is ∙ ap body_has_addresses (sym body) ∙ t) chain
      (set_now image tree chain stored ino node has new written (λ t. keeps.tops) changed body fields keeps.sized keeps.area)

  pub sized_advances : (changed : Node) (size more : ℕ) (parts : Numbered (List ℕ)) → node.body ≡ Regular size parts → changed.body ≡ Regular more parts
      → (new : ℕ → List ℕ) → IsRewritten image.at new ino → ((p : ℕ) → p < 13 → (pointers new).top ino p ≡ (pointers image.at).top ino p)
      → HasFields new ino changed → size_of (new (inode_block ino)) (inode_place ino) ≡ more → Advances image tree looks new (with_node tree ino changed) chain
  sized_advances changed size more parts body now new written tops fields sized =
      rewritten_advances new written (λ t. tops) changed (λ t. is ∙ ap body_has_addresses body) chain
      (sized_now image tree chain stored ino node has new written tops size more parts body changed now fields sized)

  pub put_advances : (size : ℕ) (parts : Numbered (List ℕ)) (part : ℕ) (was : List ℕ) → node.body ≡ Regular size parts → fin.get parts part ≡ Some was
      → (new : ℕ → List ℕ) → ((block : ℕ) → block ≢ part_address image.at ino part → new block ≡ image.at block) → length (new (part_address image.at ino part)) ≡ 512
      → Advances image tree looks new (with_node tree ino (record node { body = Regular size (fin.insert parts part (new (part_address image.at ino part))) })) chain
  put_advances size parts part was body there new others long =
      let file : HasFile image.at ino size parts = subst (HasBody image.at ino) body (node_stored image tree chain stored ino node has).body in
      let found = held_part image.at ino part was (sym (file.each part) ∙ there) in
      written_advances part (is ∙ ap body_has_addresses body) found.0 new found.1 others long (record node { body = Regular size (fin.insert parts part (new (part_address image.at ino part))) }) chain
      (put_now image tree chain stored ino node has size parts part was body there new others long)

  pub slot_advances : (slots : List PlainSlot) → node.body ≡ Directory slots → (at : ℕ) → at < length slots → (slot : PlainSlot) (new : ℕ → List ℕ)
      → IsSlotSet image.at new (part_address image.at ino (at / 32)) (at % 32) slot
      → Advances image tree looks new (with_node tree ino (record node { body = Directory (slice_set slots at slot) })) chain
  slot_advances slots body at less slot new sets =
      let dir : HasDirectory image.at ino slots = subst (HasBody image.at ino) body (node_stored image tree chain stored ino node has).body in
      let on : has_addresses tree ino ≡ true = is ∙ ap body_has_addresses body in
      let few = slots_few (has_addresses tree) image.at [] chain start.laid stored.sizes.few_blocks ino on (length slots) dir.parts in
      let below : at / 32 < most_parts = omega (arith, few, less) in
      let was = some_is (part_in image.at ino (at / 32)) ((dir.parts (at / 32) below).1 (omega (arith, less))) in
      written_advances (at / 32) on below new (held_part image.at ino (at / 32) was.0 was.1).1 sets.others sets.full (record node { body = Directory (slice_set slots at slot) }) chain
      (slot_now image tree chain stored ino node has slots body at less slot new sets)
