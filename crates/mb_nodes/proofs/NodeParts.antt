-- The parts of a node are those to which its inode's addresses lead.
use Rattle.std.proofs.Common.{ℕ, ◌≡◌, inl, inr, ◌*◌, ◌<◌, ◌≤◌, Bool, true, List, [], length, map, Option, Some, None, refl, sym, ap, subst, ◌∙◌, arith}
use Rattle.std.specs.Prelude.{is_some}
use Rattle.std.specs.FinMap as fin
use Rattle.std.specs.List.{Contains}
use Rattle.std.proofs.lemmas.Bool.{cases_lt}
use Rattle.std.proofs.lemmas.Bool.Decides.{Decides-eqb}
use Rattle.std.proofs.lemmas.List.{length-map}
use Rattle.std.proofs.lemmas.Map.Made.{IsDistinct-from_AllPairs}
use Rattle.std.proofs.lemmas.Map.Steps.{length-le_from_distinct_below}
use Rattle.mb_kinds.specs.Image.{Image}
use Rattle.mb_word.specs.Fields.{fsize_of}
use Rattle.mb_tree.specs.Blocks.{pointers, part_address, part_in}
use Rattle.mb_tree.specs.Cost.{most_parts, first_parts, parts_for, parts_of, body_cost}
use Rattle.mb_tree.specs.Places.{at, IsPlace, place_of}
use Rattle.mb_tree.specs.Volume.{HasBody, HasNode, HasInode, body_has_addresses, node_has_addresses, has_addresses}
use Rattle.mb_tree.specs.declared.nodes.Body.{Body}
use Rattle.mb_tree.specs.declared.nodes.Body.TheVariants.{Regular, Directory, Special}
use Rattle.mb_tree.specs.declared.nodes.Node.{Node}
use Rattle.mb_tree.specs.declared.trees.Tree.{Tree}
use Rattle.mb_blocks.specs.Laid.{AreOnce, IndexesLeadOn, IsLaid}
use Rattle.mb_blocks.specs.Owners.{Enumerates, HoldsParts}
use Rattle.mb_blocks.proofs.Families.{map_from, map_once}
use Rattle.mb_blocks.proofs.Groupings.{below_first, first_below, first_length, first_once, has_in, in_has, keys_once}
use Rattle.mb_blocks.proofs.HeldLists.{cost_enumerated}
use Rattle.mb_blocks.proofs.Keys.{key_in}
use Rattle.mb_blocks.proofs.Owning.{mine_place}
use Rattle.mb_blocks.proofs.PartBytes.{entry_is, held_part, part_found, some_from, some_is}
use Rattle.mb_blocks.proofs.PartPlaces.{place_is, place_once}
use Rattle.mb_blocks.proofs.Pointing.{zero_entry}
use Rattle.mb_nodes.specs.Bodies.{HasPartsBelow}
use Rattle.mb_nodes.specs.Stored.{IsStored}
use Rattle.mb_nodes.proofs.OneInode.{laid_stored, leads_stored}

is_there : (o : Option (List ℕ)) (was : List ℕ) → o ≡ Some was → is_some o ≡ true
is_there None was e = cc
is_there (Some x) was e = refl

there_is : (o : Option (List ℕ)) → is_some o ≡ true → (was : List ℕ) × (o ≡ Some was)
there_is None t = cc
there_is (Some x) t = (x, refl)

module _ (has : ℕ → Bool) (blocks : ℕ → List ℕ) (loose chain : List ℕ) (laid : IsLaid has blocks loose chain) (few : fsize_of (blocks 1) ≤ 262144) (ino : ℕ) (is : has ino ≡ true) where
  -- no inode has more parts in a row than the volume has blocks
  too_many : (m : ℕ) → 262144 < m → m ≤ most_parts → ((k : ℕ) → k < m → 0 < part_address blocks ino k) → ⊥
  too_many m many within held =
      let f : ℕ → ℕ = λ k. part_address blocks ino k in
      let place : (k : ℕ) → Contains (first_parts m) k → IsPlace has (place_of ino k) = λ k among. place_is has ino k is (let b = first_below m k among in omega (arith, b, within)) in
      let once : AreOnce (map f (first_parts m)) =
      map_once f (first_parts m) (first_once m) (λ x y one two e.
      (let a = first_below m x one in
      let b = first_below m y two in
      (place_once ino x ino y (omega (arith, a, within)) (omega (arith, b, within)) (laid.once (place_of ino x) (place_of ino y) (place x one) (place y two) (held x a) e)).1)) in
      let below : length (map f (first_parts m)) ≤ 262144 =
      length-le_from_distinct_below (map f (first_parts m)) 262144 (IsDistinct-from_AllPairs Decides-eqb (map f (first_parts m)) once)
      (λ q among. (let k = map_from f (first_parts m) q (in_has (map f (first_parts m)) q among) in
      let open_to = laid.in_range (place_of ino k.0) (place k.0 k.1) (held k.0 (first_below m k.0 k.1)) in
      let low = open_to.below in
      let e = k.2 in
      omega (arith, low, e, few))) in
      let n : length (map f (first_parts m)) ≡ m = length-map (first_parts m) f ∙ first_length m in
      omega (arith, below, n, many)

  slot_held : (n : ℕ) → HasPartsBelow blocks ino n → (k : ℕ) → k < most_parts → 512 * k < 16 * n → 0 < part_address blocks ino k
  slot_held n parts k below low =
      let was = some_is (part_in blocks ino k) ((parts k below).1 low) in
      (held_part blocks ino k was.0 was.1).1

  pub slots_few : (n : ℕ) → HasPartsBelow blocks ino n → parts_for n ≤ 262144
  slots_few n parts = elim (cases_lt 262144 (parts_for n)) [
    | inl over ↦ absurd (too_many 262145 (omega arith) (omega arith) (λ k low. slot_held n parts k (omega (arith, low)) (omega (arith, low, over))))
    | inr fits ↦ fits
  ]

  pub below_given : (n : ℕ) → HasPartsBelow blocks ino n → (k : ℕ) → Contains (first_parts (parts_for n)) k → (k < most_parts) × (0 < part_address blocks ino k)
  below_given n parts k among =
      let low = first_below (parts_for n) k among in
      let fits = slots_few n parts in
      let below : k < most_parts = omega (arith, low, fits) in
      (below, slot_held n parts k below (omega (arith, low)))

  pub below_there : (n : ℕ) → HasPartsBelow blocks ino n → (k : ℕ) → k < most_parts → 0 < part_address blocks ino k → Contains (first_parts (parts_for n)) k
  below_there n parts k below some =
      let found = part_found blocks ino k (part_address blocks ino k) below refl some in
      let low = (parts k below).0 (some_from (part_in blocks ino k) (blocks (part_address blocks ino k)) found) in
      below_first (parts_for n) k (omega (arith, low))

  pub parts_given : (body : Body) → HasBody blocks ino body → body_has_addresses body ≡ true → (k : ℕ) → Contains (parts_of body) k → (k < most_parts) × (0 < part_address blocks ino k)
  parts_given (Regular size parts) body t k among =
      let there : is_some (fin.get parts k) ≡ true = sym (key_in parts k) ∙ has_in (fin.keys parts) k among in
      let was = there_is (fin.get parts k) there in
      let held = held_part blocks ino k was.0 (sym (body.each k) ∙ was.1) in
      (held.0, held.1)
  parts_given (Directory slots) body t k among = below_given (length slots) body.parts k among
  parts_given (Special size area) body t k among = cc

  pub parts_there : (body : Body) → HasBody blocks ino body → body_has_addresses body ≡ true → (k : ℕ) → k < most_parts → 0 < part_address blocks ino k → Contains (parts_of body) k
  parts_there (Regular size parts) body t k below some =
      let found = part_found blocks ino k (part_address blocks ino k) below refl some in
      in_has (fin.keys parts) k (key_in parts k ∙ is_there (fin.get parts k) (blocks (part_address blocks ino k)) (body.each k ∙ found))
  parts_there (Directory slots) body t k below some = below_there (length slots) body.parts k below some
  parts_there (Special size area) body t k below some = cc

  -- what the cost's lemmas ask for
  pub holds : (parts : List ℕ) → AreOnce parts → ((k : ℕ) → Contains parts k → (k < most_parts) × (0 < part_address blocks ino k))
      → ((k : ℕ) → k < most_parts → 0 < part_address blocks ino k → Contains parts k) → IndexesLeadOn has blocks → HoldsParts (pointers blocks) ino parts
  holds parts once given there leads = record {
    once = once;
    given = given;
    there = there;
    hole = zero_entry blocks;
    leads = λ q h up some.
        (let on = leads q (mine_place has ino is q h) up some in
        let e = entry_is blocks (at (pointers blocks) q) on.0 some in
        let real = on.2 in
        (on.0, on.1, omega (arith, e, real)));
    apart = λ q r h g some e. laid.once q r (mine_place has ino is q h) (mine_place has ino is r g) some e;
  }

pub parts_once : (body : Body) → AreOnce (parts_of body)
parts_once (Regular size parts) = keys_once parts
parts_once (Directory slots) = first_once (parts_for (length slots))
parts_once (Special size area) = λ i j d below within. absurd (omega (arith, within))

module _ (image : Image) (tree : Tree) (chain : List ℕ) (stored : IsStored image tree chain) (ino : ℕ) (node : Node) (has : fin.get tree.nodes ino ≡ Some node) where
  pub node_stored : HasNode image.at ino node
  node_stored =
      let r = stored.numbers ino node has in
      subst (HasInode image.at ino) has (stored.inodes ino (omega (arith, r.0)) r.1)

  module _ (t : body_has_addresses node.body ≡ true) where
    pub addressed : has_addresses tree ino ≡ true
    addressed = ap node_has_addresses has ∙ t

    pub node_holds : HoldsParts (pointers image.at) ino (parts_of node.body)
    node_holds =
        let laid = laid_stored image tree chain stored in
        let few = stored.sizes.few_blocks in
        holds (has_addresses tree) image.at [] chain laid few ino addressed (parts_of node.body) (parts_once node.body)
        (parts_given (has_addresses tree) image.at [] chain laid few ino addressed node.body node_stored.body t)
        (parts_there (has_addresses tree) image.at [] chain laid few ino addressed node.body node_stored.body t)
        (leads_stored image tree chain stored)

    -- a list of all blocks of a node is as long as the node costs
    pub node_cost : (held : List ℕ) → Enumerates image.at ino held → length held ≡ body_cost node.body
    node_cost held list = cost_enumerated image.at ino (parts_of node.body) held node_holds list
