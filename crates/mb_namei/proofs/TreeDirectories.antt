-- A directory of a volume's tree, as it stands on the volume's blocks.
use Rattle.std.proofs.Common.{ℕ, ◌≡◌, inl, inr, ◌*◌, ◌<◌, ◌≤◌, true, nat_eq, [], length, sym, ap, subst, ◌∙◌, arith}
use Rattle.std.proofs.lemmas.Bool.{cases_lt}
use Rattle.mb_kinds.specs.Image.{Image}
use Rattle.mb_word.specs.Fields.{inode_block, inode_place, size_of}
use Rattle.mb_tree.specs.Blocks.{pointers}
use Rattle.mb_tree.specs.Cost.{parts_for}
use Rattle.mb_tree.specs.Places.{Place, at, IsPlace}
use Rattle.mb_tree.specs.Places.Place.{Top, Under}
use Rattle.mb_tree.specs.Trees.{IsThere, IsDirectoryAt}
use Rattle.mb_tree.specs.Volume.{IsVolume, HasDirectory, HasNode, HasBody, has_addresses, node_has_addresses, body_has_addresses}
use Rattle.mb_tree.specs.declared.trees.Tree.{Tree}
use Rattle.std.proofs.lemmas.Bool.Decides.{nat_tests}
use Rattle.mb_iface.specs.Near.{top_of, IsNear}
use Rattle.mb_iface.specs.Near.IsNear.{inode_list, held}
use Rattle.mb_blocks.proofs.Groupings.{below_first}
use Rattle.mb_blocks.proofs.Owning.{mine_place}
use Rattle.mb_nodes.proofs.NodeParts.{slots_few, below_given, node_stored}
use Rattle.mb_nodes.proofs.OneInode.{laid_stored, in_list}
use Rattle.mb_nodes.proofs.Volumes.{stored_of}
use Rattle.mb_bmap.specs.Ways.{route_of, way}
use Rattle.mb_bmap.proofs.Walking.{route_is, place_way}
use Rattle.mb_namei.specs.Directories.{IsBlockOf, IsDirectoryOn}

top_mine : (ino : ℕ) (q : Place) → IsPlace (nat_eq ino) q → top_of q ≡ ino
top_mine ino (Top other p) h = (let t = h.0 in grind (arith, nat_tests))
top_mine ino (Under q k) h = top_mine ino q h.0

module _ (image : Image) (tree : Tree) (volume : IsVolume image tree) where
  -- the block of an inode in use is one of the i-list
  pub near_inode : (Looks : ℕ → Type 0) (ino block : ℕ) → IsThere tree.nodes ino → block ≡ inode_block ino → IsNear image tree Looks block
  near_inode Looks ino block there is =
      let r = volume.sound.numbers ino there.node there.has in
      let low : 0 < ino = omega (arith, r.0) in
      let l = in_list image tree volume.chain (stored_of image tree volume) ino low r.1 in
      inode_list (omega (arith, is)) (omega (arith, is, l))

  pub near_block : (Looks : ℕ → Type 0) (ino block : ℕ) → Looks ino → IsThere tree.nodes ino → has_addresses tree ino ≡ true → IsBlockOf image.at ino block → IsNear image tree Looks block
  near_block Looks ino block looks there is of = elim of [
    | inl own ↦ near_inode Looks ino block there own
    | inr led ↦ held led.place (mine_place (has_addresses tree) ino is led.place led.own) (subst Looks (sym (top_mine ino led.place led.own)) looks) led.leads
  ]

  -- an address on the way to a part is below the greatest volume's end
  bounded_place : (q : Place) → IsPlace (has_addresses tree) q → at (pointers image.at) q < 262144
  bounded_place q h = elim (cases_lt 0 (at (pointers image.at) q)) [
    | inl some ↦ (let b = (volume.held.in_range q h some).below in let f = volume.sizes.few_blocks in omega (arith, b, f))
    | inr none ↦ omega (arith, none)
  ]

  module _ (dir : ℕ) (is : IsDirectoryAt tree.nodes dir) where
    pub holds_addresses : has_addresses tree dir ≡ true
    holds_addresses = ap node_has_addresses is.has ∙ ap body_has_addresses is.body

    pub stands : HasNode image.at dir is.node
    stands = node_stored image tree volume.chain (stored_of image tree volume) dir is.node is.has

    pub slots_stand : HasDirectory image.at dir is.slots
    slots_stand = subst (HasBody image.at dir) is.body stands.body

    few : parts_for (length is.slots) ≤ 262144
    few = slots_few (has_addresses tree) image.at [] volume.chain (laid_stored image tree volume.chain (stored_of image tree volume)) volume.sizes.few_blocks dir holds_addresses (length is.slots) slots_stand.parts

    pub few_slots : length is.slots ≤ 8388608
    few_slots = (let f = few in omega (arith, f))

    pub directory_on : (size : ℕ) → size_of (image.at (inode_block dir)) (inode_place dir) ≡ size → IsDirectoryOn image.at dir size is.slots
    directory_on size sized = record {
      sized = sym sized ∙ slots_stand.sized;
      each = slots_stand.each;
      held = λ part low.
          (let s : size ≡ 16 * length is.slots = sym sized ∙ slots_stand.sized in
          below_given (has_addresses tree) image.at [] volume.chain (laid_stored image tree volume.chain (stored_of image tree volume)) volume.sizes.few_blocks dir holds_addresses
          (length is.slots) slots_stand.parts part (below_first (parts_for (length is.slots)) part (omega (arith, low, s))));
      bounded = λ part below level low. bounded_place (way dir (route_of part).places level) (place_way part (route_of part) (route_is part below) dir (has_addresses tree) holds_addresses level low);
    }
