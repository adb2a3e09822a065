-- A hole of a regular file filled with zeros, with the index blocks that are missing on the way.
use Rattle.std.proofs.Common.{ℕ, ◌≡◌, inl, inr, ◌+◌, ◌<◌, true, List, [], length, Some, None, refl, sym, ap, subst, ◌∙◌, arith}
use Rattle.std.specs.FinMap as fin
use Rattle.std.proofs.lemmas.Bool.{cases_eq}
use Rattle.mb_kinds.specs.Image.{Image, zeros}
use Rattle.mb_tree.specs.Blocks.{pointers, part_address, part_in}
use Rattle.mb_tree.specs.Cost.{most_parts, cost, cost_at, body_cost, parts_of}
use Rattle.mb_tree.specs.Maps.{Numbered}
use Rattle.mb_tree.specs.Places.{place_of}
use Rattle.mb_tree.specs.Volume.{HasFile, HasBody, HasNode, body_has_addresses, has_addresses}
use Rattle.mb_tree.specs.declared.nodes.Body.{Body}
use Rattle.mb_tree.specs.declared.nodes.Body.TheVariants.{Regular}
use Rattle.mb_tree.specs.declared.nodes.Node.{Node}
use Rattle.mb_tree.specs.declared.trees.Tree.{Tree}
use Rattle.mb_tree.proofs.FiniteMaps.{get_here, get_there, one_or_not}
use Rattle.mb_tree.proofs.Sums.{sum_but}
use Rattle.mb_blocks.specs.Growing.{Reaches, missing}
use Rattle.mb_blocks.specs.Laid.{IsLaid}
use Rattle.mb_blocks.specs.Owners.{HoldsParts}
use Rattle.mb_blocks.proofs.Keys.{keys_more}
use Rattle.mb_blocks.proofs.Missing.{cost_missing, keys_count}
use Rattle.mb_blocks.proofs.PartBytes.{part_found}
use Rattle.mb_blocks.proofs.Reached.{fields_kept, got, new_part, other_part, size_kept}
use Rattle.mb_blocks.specs.Inodes.{HasFields}
use Rattle.mb_nodes.specs.Stored.{Follows, IsStored}
use Rattle.mb_nodes.specs.Underway.{IsUnderway}
use Rattle.mb_nodes.proofs.NodeParts.{addressed, node_holds, node_stored}
use Rattle.mb_nodes.proofs.Underway.{after_reaching, begun, finished}

-- the fields of a node that its inode has, and the node whose inode has them
pub its_fields : (blocks : ℕ → List ℕ) (ino : ℕ) (node : Node) → HasNode blocks ino node → HasFields blocks ino node
its_fields blocks ino node has = record { used = has.used; mode = has.mode; nlink = has.nlink; uid = has.uid; gid = has.gid; atime = has.atime; mtime = has.mtime; ctime = has.ctime }

pub node_with : (blocks : ℕ → List ℕ) (ino : ℕ) (node : Node) (body : Body) → HasFields blocks ino node → HasBody blocks ino body → HasNode blocks ino (record node { body = body })
node_with blocks ino node body has body_has = record {
  used = has.used;
  mode = has.mode;
  nlink = has.nlink;
  uid = has.uid;
  gid = has.gid;
  atime = has.atime;
  mtime = has.mtime;
  ctime = has.ctime;
  body = body_has;
}

module _ (image : Image) (tree : Tree) (chain : List ℕ) (stored : IsStored image tree chain) (ino : ℕ) (node : Node) (size : ℕ) (parts : Numbered (List ℕ)) (part : ℕ)
    (has : fin.get tree.nodes ino ≡ Some node) (body : node.body ≡ Regular size parts) (none : fin.get parts part ≡ None) (below : part < most_parts) where
  inode : HasNode image.at ino node
  inode = node_stored image tree chain stored ino node has

  file : HasFile image.at ino size parts
  file = subst (HasBody image.at ino) body inode.body

  with_addresses : body_has_addresses node.body ≡ true
  with_addresses = ap body_has_addresses body

  is : has_addresses tree ino ≡ true
  is = addressed image tree chain stored ino node has with_addresses

  abbrev start : IsUnderway image tree chain ino (has_addresses tree) image.at chain
  start = begun image tree chain stored ino (stored.numbers ino node has)

  abbrev laid : IsLaid (has_addresses tree) image.at [] chain
  laid = start.laid

  no_address : part_address image.at ino part ≡ 0
  no_address = elim (cases_eq (part_address image.at ino part) 0) [
    | inl e ↦ e
    | inr some ↦ absurd (let found : part_in image.at ino part ≡ Some (image.at (part_address image.at ino part)) = part_found image.at ino part (part_address image.at ino part) below refl (omega (arith, some)) in
        let clash : None ≡ Some (image.at (part_address image.at ino part)) = sym none ∙ file.each part ∙ found in cc)
  ]

  abbrev filled : Numbered (List ℕ)
  filled = fin.insert parts part zeros

  costs : body_cost (Regular size filled) ≡ body_cost (Regular size parts) + missing (pointers image.at) (place_of ino part)
  costs =
      cost_missing (pointers image.at) ino (fin.keys parts) (fin.keys filled) part
      (subst (λ (b : Body). HoldsParts (pointers image.at) ino (parts_of b)) body (node_holds image tree chain stored ino node has with_addresses))
      (keys_more parts part zeros) below no_address (keys_count parts part zeros none)

  abbrev next : Tree
  next = record tree { nodes = fin.insert tree.nodes ino (record node { body = Regular size filled }) }

  -- where the chain has less than is missing, the tree with the part would pass the capacity
  pub refused : length chain < missing (pointers image.at) (place_of ino part) → tree.cap < cost next
  refused short =
      let within = stored.numbers ino node has in
      let moved = sum_but (λ j. cost_at (fin.get tree.nodes j)) (λ j. cost_at (fin.get next.nodes j)) ino (tree.last + 1) (omega (arith, within.1)) (λ j apart. ap cost_at (get_there tree.nodes ino (record node { body = Regular size filled }) j apart)) in
      let a : cost_at (fin.get next.nodes ino) ≡ body_cost (Regular size filled) = ap cost_at (get_here tree.nodes ino (record node { body = Regular size filled })) in
      let b : cost_at (fin.get tree.nodes ino) ≡ body_cost (Regular size parts) = ap cost_at has ∙ ap body_cost body in
      let c = costs in
      let d = stored.capacity in
      omega (arith, moved, a, b, c, d, short)

  module _ (new : ℕ → List ℕ) (reaches : Reaches image.at new (place_of ino part)) where
    file_now : HasFile new ino size filled
    file_now = record {
      sized = size_kept (has_addresses tree) image.at chain laid ino part is below new reaches ∙ file.sized;
      each = λ p. elim (one_or_not p part) [
        | inl same ↦ rw same (get_here parts part zeros ∙ sym (new_part (has_addresses tree) image.at chain laid ino part is below new reaches no_address))
        | inr apart ↦ get_there parts part zeros p apart ∙ file.each p ∙ sym (other_part (has_addresses tree) image.at chain laid ino part is below new reaches p apart)
      ];
    }

    -- the tree with the part is stored, and the chain is shorter by what it costs
    pub filled_now : (left : List ℕ) × Follows image tree new (record tree { nodes = fin.insert tree.nodes ino (record node { body = Regular size filled }) }) left
        × (length chain ≡ length left + missing (pointers image.at) (place_of ino part))
    filled_now =
        let within = stored.numbers ino node has in
        let reach = got (has_addresses tree) image.at chain laid ino part is below new reaches in
        let under = after_reaching image tree chain stored ino within (has_addresses tree) (λ j apart. refl) image.at chain start part new reaches is below in (
          reach.left,
          finished image tree chain stored ino within (has_addresses tree) (λ j apart. refl) new reach.left under (record node { body = Regular size filled }) is
              (node_with new ino node (Regular size filled) (fields_kept (has_addresses tree) image.at chain laid ino part is below new reaches node (its_fields image.at ino node inode)) file_now)
              (let b : cost_at (fin.get tree.nodes ino) ≡ body_cost (Regular size parts) = ap cost_at has ∙ ap body_cost body in
              let c = costs in
              let d = reach.count in
              omega (arith, b, c, d)),
          reach.count,
        )
