-- A slot of a directory written where it stands.
use Rattle.std.proofs.Common.{ℕ, ◌≡◌, ◌≢◌, inl, inr, ◌+◌, ◌*◌, ◌/◌, ◌%◌, ◌<◌, ◌≤◌, true, List, length, map, Option, Some, IsSome, unwrap_or, slice_set, refl, sym, ap, subst, ◌∙◌, arith, []}
use Rattle.std.specs.FinMap as fin
use Rattle.std.specs.List.{range_with_len}
use Rattle.std.proofs.lemmas.Bool.{cases_eq}
use Rattle.std.proofs.lemmas.List.{length-set}
use Rattle.mb_kinds.specs.Image.{Image, zeros}
use Rattle.mb_word.specs.Fields.{inode_block, inode_place, size_of}
use Rattle.mb_tree.specs.Blocks.{part_address, part_in, part_bytes, slot_in, slot_of}
use Rattle.mb_tree.specs.Cost.{most_parts, first_parts, parts_for, index_blocks, cost_at, body_cost}
use Rattle.mb_tree.specs.Volume.{HasBody, HasDirectory, body_has_addresses, has_addresses}
use Rattle.mb_tree.specs.declared.nodes.Body.TheVariants.{Directory}
use Rattle.mb_tree.specs.declared.nodes.Node.{Node}
use Rattle.mb_tree.specs.declared.nodes.PlainSlot.{PlainSlot}
use Rattle.mb_tree.specs.declared.trees.Tree.{Tree}
use Rattle.mb_blocks.proofs.PartBytes.{held_part, part_found, some_from, some_is}
use Rattle.mb_blocks.proofs.PartWriting.{beside_part, low_same, written_part}
use Rattle.mb_nodes.specs.Bodies.{IsSlotSet}
use Rattle.mb_nodes.specs.Stored.{Follows, IsStored, with_node}
use Rattle.mb_nodes.specs.Underway.{AgreesOff, IsUnderway}
use Rattle.mb_nodes.proofs.Filling.{its_fields, node_with}
use Rattle.mb_nodes.proofs.Making.{same_fields}
use Rattle.mb_nodes.proofs.NodeParts.{addressed, node_stored, slots_few}
use Rattle.mb_nodes.proofs.SlotRanges.{map_range_set}
use Rattle.mb_nodes.proofs.Underway.{after_writing, begun, finished, mine_listed}

module _ (image : Image) (tree : Tree) (chain : List ℕ) (stored : IsStored image tree chain) (ino : ℕ) (node : Node) (has : fin.get tree.nodes ino ≡ Some node) (slots : List PlainSlot)
    (body : node.body ≡ Directory slots) (at : ℕ) (low : at < length slots) (slot : PlainSlot) (new : ℕ → List ℕ) (sets : IsSlotSet image.at new (part_address image.at ino (at / 32)) (at % 32) slot) where
  within : (1 ≤ ino) × (ino ≤ tree.last)
  within = stored.numbers ino node has

  same_has : AgreesOff tree ino (has_addresses tree)
  same_has j apart = refl

  start : IsUnderway image tree chain ino (has_addresses tree) image.at chain
  start = begun image tree chain stored ino within

  dir : HasDirectory image.at ino slots
  dir = subst (HasBody image.at ino) body (node_stored image tree chain stored ino node has).body

  is : has_addresses tree ino ≡ true
  is = addressed image tree chain stored ino node has (ap body_has_addresses body)

  abbrev p : ℕ
  p = at / 32

  below : p < most_parts
  below = (let few = slots_few (has_addresses tree) image.at [] chain start.laid stored.sizes.few_blocks ino is (length slots) dir.parts in omega (arith, few, low))

  held : 0 < part_address image.at ino p
  held = (let was = some_is (part_in image.at ino p) ((dir.parts p below).1 (omega (arith, low))) in (held_part image.at ino p was.0 was.1).1)

  block_same : new (inode_block ino) ≡ image.at (inode_block ino)
  block_same = low_same (has_addresses tree) image.at new ino p [] chain start.laid is below held sets.others sets.full (inode_block ino) (mine_listed image tree chain stored ino within (has_addresses tree) same_has image.at chain start)

  this_part : part_in new ino p ≡ Some (new (part_address image.at ino p))
  this_part = written_part (has_addresses tree) image.at new ino p [] chain start.laid is below held sets.others sets.full

  that_part : (q : ℕ) → q ≢ p → part_in new ino q ≡ part_in image.at ino q
  that_part q apart = beside_part (has_addresses tree) image.at new ino p [] chain start.laid is below held sets.others sets.full q apart

  was_part : part_in image.at ino p ≡ Some (image.at (part_address image.at ino p))
  was_part = part_found image.at ino p (part_address image.at ino p) below refl held

  other_slot : (k : ℕ) → k < length slots → k ≢ at → slot_in image.at ino k ≡ slot_in new ino k
  other_slot k less apart = elim (cases_eq (k / 32) p) [
    | inr away ↦ ap (λ o. slot_of (unwrap_or o zeros) (k % 32)) (sym (that_part (k / 32) away))
    | inl e ↦
        (let d : k / 32 ≡ at / 32 = e in
        let off : k % 32 ≢ at % 32 = (λ f. apart (omega (arith, d, f))) in
        ap (λ q. slot_of (part_bytes image.at ino q) (k % 32)) e
        ∙ ap (λ o. slot_of (unwrap_or o zeros) (k % 32)) was_part
        ∙ sym (sets.kept (k % 32) (omega arith) off)
        ∙ ap (λ o. slot_of (unwrap_or o zeros) (k % 32)) (sym this_part)
        ∙ ap (λ q. slot_of (part_bytes new ino q) (k % 32)) (sym e))
  ]

  this_slot : slot_in new ino at ≡ slot
  this_slot = ap (λ o. slot_of (unwrap_or o zeros) (at % 32)) this_part ∙ sets.here

  many : length (slice_set slots at slot) ≡ length slots
  many = length-set slots at slot

  whole : HasDirectory new ino (slice_set slots at slot)
  whole = record {
    sized = ap (λ (b : List ℕ). size_of b (inode_place ino)) block_same ∙ dir.sized ∙ ap (λ n. 16 * n) (sym many);
    each =
        ap (λ (xs : List PlainSlot). slice_set xs at slot) dir.each
        ∙ ap (λ (x : PlainSlot). slice_set (map (slot_in image.at ino) (range_with_len 0 (length slots))) at x) (sym this_slot ∙ ap (slot_in new ino) (let e : at ≡ 0 + at = omega arith in e))
        ∙ map_range_set (slot_in image.at ino) (slot_in new ino) 0 (length slots) at low
        (λ k less apart. ap (slot_in image.at ino) (let e : 0 + k ≡ k = omega arith in e) ∙ other_slot k less apart ∙ ap (slot_in new ino) (let e : k ≡ 0 + k = omega arith in e))
        ∙ ap (λ n. map (slot_in new ino) (range_with_len 0 n)) (sym many);
    parts = λ q few. elim (cases_eq q p) [
      | inl e ↦ (
        (λ some. (let d : q ≡ at / 32 = e in omega (arith, d, low, many))),
        λ there. some_from (part_in new ino q) (new (part_address image.at ino p)) (ap (part_in new ino) e ∙ this_part),
      )
      | inr apart ↦
          (let was = dir.parts q few in (
            (λ some. (let l = was.0 (subst (λ (o : Option (List ℕ)). IsSome o) (that_part q apart) some) in omega (arith, l, many))),
            λ there. subst (λ (o : Option (List ℕ)). IsSome o) (sym (that_part q apart)) (was.1 (omega (arith, there, many))),
          ))
    ];
  }

  pub slot_now : Follows image tree new (with_node tree ino (record node { body = Directory (slice_set slots at slot) })) chain
  slot_now =
      finished image tree chain stored ino within (has_addresses tree) same_has new chain
      (after_writing image tree chain stored ino within (has_addresses tree) same_has image.at chain start is p below new held sets.others sets.full)
      (record node { body = Directory (slice_set slots at slot) }) is
      (node_with new ino node (Directory (slice_set slots at slot)) (same_fields image.at new ino node block_same (its_fields image.at ino node (node_stored image tree chain stored ino node has))) whole)
      (let a : cost_at (fin.get tree.nodes ino) ≡ body_cost (Directory slots) = ap cost_at has ∙ ap body_cost body in
      let b : body_cost (Directory (slice_set slots at slot)) ≡ body_cost (Directory slots) = ap (λ n. length (first_parts (parts_for n)) + index_blocks (first_parts (parts_for n))) many in
      omega (arith, a, b))
