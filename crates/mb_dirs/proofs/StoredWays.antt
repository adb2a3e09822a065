-- The way to a part of a node of a stored tree.
use Rattle.std.proofs.Common.{ℕ, zero, suc, ◌≡◌, inl, inr, ◌+◌, ◌-◌, ◌<◌, ◌≤◌, Bool, true, List, Some, slice_index, sym, ap, subst, ◌∙◌, arith}
use Rattle.std.specs.FinMap as fin
use Rattle.std.proofs.lemmas.Bool.{cases_lt}
use Rattle.mb_kinds.specs.Image.{Image}
use Rattle.mb_tree.specs.Blocks.{pointers, entry_in, part_address}
use Rattle.mb_tree.specs.Cost.{most_parts}
use Rattle.mb_tree.specs.Places.{at}
use Rattle.mb_tree.specs.Volume.{body_has_addresses, node_has_addresses, has_addresses}
use Rattle.mb_tree.specs.declared.nodes.Node.{Node}
use Rattle.mb_tree.specs.declared.trees.Tree.{Tree}
use Rattle.mb_blocks.proofs.Pointing.{zero_entry}
use Rattle.mb_bmap.specs.Locating.{address_on, IsBounded, IsFirstHole, IsOnWayTo}
use Rattle.mb_bmap.specs.Ways.{route_of, way}
use Rattle.mb_bmap.proofs.Walking.{place_way, route_is}
use Rattle.mb_nodes.specs.Stored.{IsStored}
use Rattle.mb_moves.specs.Advancing.{IsNearTo}
use Rattle.mb_moves.specs.Looking.{looked_at}
use Rattle.mb_moves.proofs.Asking.{inode_near, node_looked}
use Rattle.mb_moves.proofs.Nearness.{place_near}

-- below a hole there are holes
down : (blocks : ℕ → List ℕ) (ino : ℕ) (places : List ℕ) (level more : ℕ) → at (pointers blocks) (way ino places level) ≡ 0 → at (pointers blocks) (way ino places (more + level)) ≡ 0
down blocks ino places level zero hole = ap (λ n. at (pointers blocks) (way ino places n)) (let e : 0 + level ≡ level = omega arith in e) ∙ hole
down blocks ino places level (suc more) hole =
    ap (λ n. at (pointers blocks) (way ino places n)) (let e : suc more + level ≡ suc (more + level) = omega arith in e)
    ∙ under (more + level) (down blocks ino places level more hole)
  where
    under : (n : ℕ) → at (pointers blocks) (way ino places n) ≡ 0 → at (pointers blocks) (way ino places (suc n)) ≡ 0
    under n none = ap (λ b. entry_in blocks b (slice_index places (suc n))) none ∙ zero_entry blocks (slice_index places (suc n))

module _ (image : Image) (tree : Tree) (chain : List ℕ) (stored : IsStored image tree chain) (ino : ℕ) (node : Node) (has : fin.get tree.nodes ino ≡ Some node)
    (on : body_has_addresses node.body ≡ true) (part : ℕ) (below : part < most_parts) where
  is : has_addresses tree ino ≡ true
  is = ap node_has_addresses has ∙ on

  pub way_bounded : IsBounded image.at ino (route_of part)
  way_bounded level low =
      let q = way ino (route_of part).places level in
      elim (cases_lt 0 (at (pointers image.at) q)) [
        | inl some ↦ (let range = stored.held.in_range q (place_way part (route_of part) (route_is part below) ino (has_addresses tree) is level low) some in
            let b = range.below in let f = stored.sizes.few_blocks in omega (arith, b, f))
        | inr none ↦ omega (arith, none)
      ]

  pub no_hole : 0 < part_address image.at ino part → (level : ℕ) → level ≤ (route_of part).depth → IsFirstHole image.at ino (route_of part) level → ⊥
  no_hole some level low hole =
      let r = route_of part in
      let more = r.depth - level in
      let end : more + level ≡ r.depth = omega (arith, low) in
      let none : part_address image.at ino part ≡ 0 =
      sym (ap (at (pointers image.at)) ((route_is part below).leads ino)) ∙ sym (ap (λ n. at (pointers image.at) (way ino r.places n)) end) ∙ down image.at ino r.places level more hole.hole in
      omega (arith, some, none)

  pub part_bounded : part_address image.at ino part < 262144
  part_bounded =
      (let b = way_bounded (route_of part).depth (omega arith) in
      let e : address_on image.at ino (route_of part) (route_of part).depth ≡ part_address image.at ino part = ap (at (pointers image.at)) ((route_is part below).leads ino) in
      omega (arith, b, e))

  pub way_near : (looks : ℕ → Bool) → looks ino ≡ true → (block : ℕ) → IsOnWayTo image.at ino (route_of part) (route_of part).depth block → IsNearTo image tree looks block
  way_near looks looked block (inl is_inode) =
      (let within = stored.numbers ino node has in subst (IsNearTo image tree looks) (sym is_inode) (inode_near image tree chain stored looks ino within.0 within.1))
  way_near looks looked block (inr index) =
      subst (IsNearTo image tree looks) (sym index.2)
      (place_near image tree looks (way ino (route_of part).places index.0)
      (place_way part (route_of part) (route_is part below) ino (looked_at tree looks) (node_looked tree looks ino node has on looked) index.0 (let l = index.1 in omega (arith, l))))
