-- Fields of an inode set, its addresses as before; and a part of a regular file written where it stands.
use Rattle.std.proofs.Common.{ℕ, ◌≡◌, ◌≢◌, ◌↔◌, inl, inr, ◌+◌, ◌*◌, ◌/◌, ◌%◌, ◌<◌, ◌≤◌, true, List, [], length, map, Option, Some, IsSome, unwrap_or, refl, sym, ap, subst, ◌∙◌, arith}
use Rattle.std.specs.FinMap as fin
use Rattle.std.specs.FinMap.{len-insert, len-entries}
use Rattle.std.specs.FinSet as set
use Rattle.std.specs.Prelude.{is_some, cond}
use Rattle.std.specs.Cmp.{nat_cmp_total}
use Rattle.std.specs.List.{range_with_len}
use Rattle.std.proofs.Math.Path.{fun_ext}
use Rattle.std.proofs.lemmas.List.{length-map}
use Rattle.mb_kinds.specs.Image.{Image, zeros}
use Rattle.mb_word.specs.Fields.{inode_block, inode_place, size_of, area_of}
use Rattle.mb_tree.specs.Blocks.{pointers, part_address, part_in, slot_of, slot_in}
use Rattle.mb_tree.specs.Cost.{most_parts, index_blocks, cost_at, body_cost}
use Rattle.mb_tree.specs.Maps.{Numbered}
use Rattle.mb_tree.specs.Volume.{HasFile, HasBody, body_has_addresses, node_has_addresses, has_addresses}
use Rattle.mb_tree.specs.declared.nodes.Body.{Body}
use Rattle.mb_tree.specs.declared.nodes.Body.TheVariants.{Regular, Directory, Special}
use Rattle.mb_tree.specs.declared.nodes.Node.{Node}
use Rattle.mb_tree.specs.declared.trees.Tree.{Tree}
use Rattle.mb_tree.proofs.FiniteMaps.{get_here, get_there, one_or_not}
use Rattle.mb_blocks.proofs.Keys.{key_in}
use Rattle.mb_blocks.proofs.PartBytes.{held_part}
use Rattle.mb_blocks.proofs.PartWriting.{beside_part, low_same, rewritten_held, written_part}
use Rattle.mb_blocks.proofs.Pointing.{part_kept}
use Rattle.mb_blocks.proofs.Shares.{is_in, touched_same}
use Rattle.mb_blocks.specs.Inodes.{HasFields, IsRewritten}
use Rattle.mb_nodes.specs.Stored.{Follows, IsStored}
use Rattle.mb_nodes.specs.Underway.{AgreesOff, IsUnderway}
use Rattle.mb_nodes.proofs.Filling.{its_fields, node_with}
use Rattle.mb_nodes.proofs.GrownDirectories.{node_fields}
use Rattle.mb_nodes.proofs.Making.{same_fields}
use Rattle.mb_nodes.proofs.NodeParts.{addressed, node_stored}
use Rattle.mb_nodes.proofs.Underway.{after_rewriting, after_writing, begun, finished, mine_listed}

-- a body stays where its size, its area and its parts stay
pub body_alike : (old new : ℕ → List ℕ) (ino : ℕ) (body : Body) → size_of (new (inode_block ino)) (inode_place ino) ≡ size_of (old (inode_block ino)) (inode_place ino)
    → area_of (new (inode_block ino)) (inode_place ino) ≡ area_of (old (inode_block ino)) (inode_place ino) → (body_has_addresses body ≡ true → (part : ℕ) → part_in new ino part ≡ part_in old ino part)
    → HasBody old ino body → HasBody new ino body
body_alike old new ino (Regular size parts) sized area parts_same has = record { sized = sized ∙ has.sized; each = λ part. has.each part ∙ sym (parts_same refl part) }
body_alike old new ino (Directory slots) sized area parts_same has =
    let slot : slot_in new ino ≡ slot_in old ino = fun_ext (λ k. ap (λ o. slot_of (unwrap_or o zeros) (k % 32)) (parts_same refl (k / 32))) in
    record {
      sized = sized ∙ has.sized;
      each = has.each ∙ ap (λ f. map f (range_with_len 0 (length slots))) (sym slot);
      parts = λ p low. subst (λ (found : Option (List ℕ)). IsSome found ↔ (512 * p < 16 * length slots)) (sym (parts_same refl p)) (has.parts p low);
    }
body_alike old new ino (Special size kept) sized area parts_same has = record { sized = sized ∙ has.sized; kept = area ∙ has.kept }

module _ (image : Image) (tree : Tree) (chain : List ℕ) (stored : IsStored image tree chain) (ino : ℕ) (node : Node) (has : fin.get tree.nodes ino ≡ Some node) where
  within : (1 ≤ ino) × (ino ≤ tree.last)
  within = stored.numbers ino node has

  same_has : AgreesOff tree ino (has_addresses tree)
  same_has j apart = refl

  start : IsUnderway image tree chain ino (has_addresses tree) image.at chain
  start = begun image tree chain stored ino within

  module _ (new : ℕ → List ℕ) (written : IsRewritten image.at new ino) (tops : has_addresses tree ino ≡ true → (p : ℕ) → p < 13 → (pointers new).top ino p ≡ (pointers image.at).top ino p)
      (changed : Node) (body : changed.body ≡ node.body) (fields : HasFields new ino changed) (sized : size_of (new (inode_block ino)) (inode_place ino) ≡ size_of (image.at (inode_block ino)) (inode_place ino))
      (area : area_of (new (inode_block ino)) (inode_place ino) ≡ area_of (image.at (inode_block ino)) (inode_place ino)) where
    -- mode, owner, times, link count
    pub set_now : Follows image tree new (record tree { nodes = fin.insert tree.nodes ino changed }) chain
    set_now =
        let low = mine_listed image tree chain stored ino within (has_addresses tree) same_has image.at chain start in
        let held = rewritten_held (has_addresses tree) image.at new ino [] chain start.laid low written tops in
        let is : has_addresses tree ino ≡ body_has_addresses node.body = ap node_has_addresses has in
        let whole : HasBody new ino node.body =
        body_alike image.at new ino node.body sized area (λ t part. part_kept (has_addresses tree) image.at new held ino part (is ∙ t)) (node_stored image tree chain stored ino node has).body in
        finished image tree chain stored ino within (has_addresses tree) same_has new chain
        (after_rewriting image tree chain stored ino within (has_addresses tree) same_has image.at chain start new written tops) changed
        (is ∙ sym (ap body_has_addresses body)) (node_fields new ino changed fields (subst (HasBody new ino) (sym body) whole))
        (let a = ap body_cost body in let b : cost_at (fin.get tree.nodes ino) ≡ body_cost node.body = ap cost_at has in omega (arith, a, b))

  module _ (new : ℕ → List ℕ) (written : IsRewritten image.at new ino) (tops : (p : ℕ) → p < 13 → (pointers new).top ino p ≡ (pointers image.at).top ino p) (size more : ℕ) (parts : Numbered (List ℕ))
      (body : node.body ≡ Regular size parts) (changed : Node) (now : changed.body ≡ Regular more parts) (fields : HasFields new ino changed) (sized : size_of (new (inode_block ino)) (inode_place ino) ≡ more) where
    -- the size of a file, with its other fields
    pub sized_now : Follows image tree new (record tree { nodes = fin.insert tree.nodes ino changed }) chain
    sized_now =
        let low = mine_listed image tree chain stored ino within (has_addresses tree) same_has image.at chain start in
        let held = rewritten_held (has_addresses tree) image.at new ino [] chain start.laid low written (λ t. tops) in
        let is : has_addresses tree ino ≡ true = addressed image tree chain stored ino node has (ap body_has_addresses body) in
        let file : HasFile image.at ino size parts = subst (HasBody image.at ino) body (node_stored image tree chain stored ino node has).body in
        let file_now : HasFile new ino more parts = record { sized = sized; each = λ part. file.each part ∙ sym (part_kept (has_addresses tree) image.at new held ino part is) } in
        finished image tree chain stored ino within (has_addresses tree) same_has new chain
        (after_rewriting image tree chain stored ino within (has_addresses tree) same_has image.at chain start new written (λ t. tops)) changed
        (is ∙ sym (ap body_has_addresses now)) (node_fields new ino changed fields (subst (HasBody new ino) (sym now) file_now))
        (let a = ap body_cost now in let b : cost_at (fin.get tree.nodes ino) ≡ body_cost (Regular size parts) = ap cost_at has ∙ ap body_cost body in omega (arith, a, b))

  module _ (size : ℕ) (parts : Numbered (List ℕ)) (part : ℕ) (was : List ℕ) (body : node.body ≡ Regular size parts) (there : fin.get parts part ≡ Some was) (new : ℕ → List ℕ)
      (others : (block : ℕ) → block ≢ part_address image.at ino part → new block ≡ image.at block) (long : length (new (part_address image.at ino part)) ≡ 512) where
    abbrev bytes : List ℕ
    bytes = new (part_address image.at ino part)

    file : HasFile image.at ino size parts
    file = subst (HasBody image.at ino) body (node_stored image tree chain stored ino node has).body

    found : (part < most_parts) × (0 < part_address image.at ino part) × (image.at (part_address image.at ino part) ≡ was)
    found = held_part image.at ino part was (sym (file.each part) ∙ there)

    is : has_addresses tree ino ≡ true
    is = addressed image tree chain stored ino node has (ap body_has_addresses body)

    block_same : new (inode_block ino) ≡ image.at (inode_block ino)
    block_same = low_same (has_addresses tree) image.at new ino part [] chain start.laid is found.0 found.1 others long (inode_block ino) (mine_listed image tree chain stored ino within (has_addresses tree) same_has image.at chain start)

    file_now : HasFile new ino size (fin.insert parts part bytes)
    file_now = record {
      sized = ap (λ (b : List ℕ). size_of b (inode_place ino)) block_same ∙ file.sized;
      each = λ p. elim (one_or_not p part) [
        | inl same ↦ rw same (get_here parts part bytes ∙ sym (written_part (has_addresses tree) image.at new ino part [] chain start.laid is found.0 found.1 others long))
        | inr apart ↦ get_there parts part bytes p apart ∙ file.each p ∙ sym (beside_part (has_addresses tree) image.at new ino part [] chain start.laid is found.0 found.1 others long p apart)
      ];
    }

    same_keys : (k : ℕ) → is_in (fin.keys (fin.insert parts part bytes)) k ≡ is_in (fin.keys parts) k
    same_keys k = elim (one_or_not k part) [
      | inl same ↦ rw same (key_in (fin.insert parts part bytes) part ∙ ap is_some (get_here parts part bytes) ∙ sym (key_in parts part ∙ ap is_some there))
      | inr apart ↦ key_in (fin.insert parts part bytes) k ∙ ap is_some (get_there parts part bytes k apart) ∙ sym (key_in parts k)
    ]

    same_index : index_blocks (fin.keys (fin.insert parts part bytes)) ≡ index_blocks (fin.keys parts)
    same_index =
        let t = λ (low high size : ℕ). ap (λ s. set.len s) (touched_same low high size (fin.keys (fin.insert parts part bytes)) (fin.keys parts) same_keys) in
        omega (arith, t 10 138 128, t 138 16522 128, t 138 16522 16384, t 16522 2113674 128, t 16522 2113674 16384, t 16522 2113674 2097152)

    same_many : length (fin.keys (fin.insert parts part bytes)) ≡ length (fin.keys parts)
    same_many =
        let held : fin.contains_key parts part ≡ true = ap is_some there in
        length-map (fin.entries (fin.insert parts part bytes)) (λ (e : ℕ × List ℕ). e.0) ∙ sym (len-entries (fin.insert parts part bytes))
        ∙ len-insert nat_cmp_total parts part bytes ∙ ap (λ b. cond b (fin.len parts) (fin.len parts + 1)) held
        ∙ len-entries parts ∙ sym (length-map (fin.entries parts) (λ (e : ℕ × List ℕ). e.0))

    pub put_now : Follows image tree new (record tree { nodes = fin.insert tree.nodes ino (record node { body = Regular size (fin.insert parts part bytes) }) }) chain
    put_now =
        finished image tree chain stored ino within (has_addresses tree) same_has new chain
        (after_writing image tree chain stored ino within (has_addresses tree) same_has image.at chain start is part found.0 new found.1 others long)
        (record node { body = Regular size (fin.insert parts part bytes) }) is
        (node_with new ino node (Regular size (fin.insert parts part bytes)) (same_fields image.at new ino node block_same (its_fields image.at ino node (node_stored image tree chain stored ino node has))) file_now)
        (let a = same_many in let b = same_index in let c : cost_at (fin.get tree.nodes ino) ≡ body_cost (Regular size parts) = ap cost_at has ∙ ap body_cost body in omega (arith, a, b, c))
