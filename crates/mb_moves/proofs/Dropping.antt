-- A node that is looked at emptied or gone: its blocks, which are free now, were near.
use Rattle.std.proofs.Common.{ℕ, ◌≡◌, inl, inr, ◌<◌, ◌≤◌, Bool, true, false, List, [], ◌++◌, ◌≢◌, Some, refl, sym, ap, subst, ◌∙◌, arith}
use Rattle.std.specs.FinMap as fin
use Rattle.mb_kinds.specs.Image.{Image}
use Rattle.mb_word.specs.Fields.{isize_of, inode_block, inode_place, mode_of, size_of, address_of}
use Rattle.mb_tree.specs.Blocks.{pointers}
use Rattle.mb_tree.specs.Places.{at, IsPlace}
use Rattle.mb_tree.specs.Views.{IsWiped}
use Rattle.mb_tree.specs.Volume.{body_has_addresses, has_addresses, node_has_addresses}
use Rattle.mb_tree.specs.declared.nodes.Body.{Body}
use Rattle.mb_tree.specs.declared.nodes.Body.TheVariants.{Regular}
use Rattle.mb_tree.specs.declared.nodes.Node.{Node}
use Rattle.mb_tree.specs.declared.trees.Tree.{Tree}
use Rattle.mb_tree.proofs.FiniteMaps.{get_there, gone_here, gone_there, one_or_not}
use Rattle.mb_blocks.specs.FreeLists.{AreFreed, onto}
use Rattle.mb_blocks.specs.Inodes.{HasFields, IsRewritten}
use Rattle.mb_blocks.specs.Laid.{IsHad, IsLaid}
use Rattle.mb_blocks.specs.Laid.IsHad.{by_none, by_place}
use Rattle.mb_blocks.specs.Owners.{ino_of, without}
use Rattle.mb_blocks.proofs.Dropping.{dropped_conserved}
use Rattle.mb_blocks.proofs.FreeingAll.{freed_all}
use Rattle.mb_blocks.proofs.LettingGo.{hole_under, laid_fewer, laid_less}
use Rattle.mb_blocks.proofs.Owning.{place_mine, place_over, place_was, without_apart, without_of}
use Rattle.mb_blocks.proofs.PartWriting.{rewritten_held, rewritten_laid}
use Rattle.mb_blocks.proofs.Pointing.{at_alike, its_pointers}
use Rattle.mb_nodes.specs.Bodies.{LetsGo}
use Rattle.mb_nodes.specs.Bodies.LetsGo.{listed, special}
use Rattle.mb_nodes.specs.Stored.{IsStored, with_node, without_node}
use Rattle.mb_nodes.proofs.Erasing.{cleared, cleared_kept, erased, erased_kept}
use Rattle.mb_nodes.proofs.OneInode.{in_list, laid_stored}
use Rattle.mb_moves.specs.Advancing.{Advances}
use Rattle.mb_moves.specs.Looking.{looked_at}
use Rattle.mb_moves.proofs.Nearness.{advances_by, and_both, and_left, and_right, had_over}

module _ (image : Image) (tree : Tree) (chain : List ℕ) (looks : ℕ → Bool) (stored : IsStored image tree chain) (ino : ℕ) (node : Node) (looked : looks ino ≡ true) (has : fin.get tree.nodes ino ≡ Some node)
    (mid new : ℕ → List ℕ) (list : List ℕ) (lets : LetsGo image.at ino node.body list) (written : IsRewritten image.at mid ino) (freed : AreFreed mid new list) where
  abbrev few : ℕ → Bool
  few = looked_at tree looks

  within : (1 ≤ ino) × (ino ≤ tree.last)
  within = stored.numbers ino node has

  low : inode_block ino < isize_of (image.at 1)
  low = in_list image tree chain stored ino (let n = within in omega (arith, n.0)) within.1

  laid : IsLaid (has_addresses tree) image.at [] chain
  laid = laid_stored image tree chain stored

  is : has_addresses tree ino ≡ body_has_addresses node.body
  is = ap node_has_addresses has

  -- what the looked-at inodes but this one have now they had
  was_had : (body : Body) (xs : List ℕ) → body ≡ node.body → LetsGo image.at ino body xs → AreFreed mid new xs → (block : ℕ) → 0 < block
      → IsHad (without few ino) new (onto xs chain) block → IsHad few image.at chain block
  was_had body xs same (listed b l t lists) frees block some had =
      let on : few ino ≡ true = and_both (has_addresses tree ino) (looks ino) (is ∙ ap body_has_addresses (sym same) ∙ t) looked in
      (dropped_conserved few image.at mid new ino xs chain
      (laid_fewer few (has_addresses tree) image.at [] chain (λ i f. and_left (has_addresses tree i) (looks i) f) laid) on lists low written frees).already block some had
  was_had body xs same (special b t) frees block some (by_none among) = by_none among
  was_had body xs same (special b t) frees block some (by_place q h e) =
      let off : has_addresses tree ino ≡ false = is ∙ ap body_has_addresses (sym same) ∙ t in
      let fewer = laid_fewer few (has_addresses tree) image.at [] chain (λ i f. and_left (has_addresses tree i) (looks i) f) laid in
      let none : few ino ≡ true → (p : ℕ) → p < 13 → (pointers mid).top ino p ≡ (pointers image.at).top ino p =
      (λ f. (let clash : true ≡ false = sym (and_left (has_addresses tree ino) (looks ino) f) ∙ off in cc)) in
      let was : IsPlace few q = place_was few ino q h in
      by_place q was
      (sym (at_alike few image.at mid (its_pointers few image.at mid (rewritten_held few image.at mid ino [] chain fewer low written none)) q was) ∙ subst (λ (blocks : ℕ → List ℕ). at (pointers blocks) q ≡ block) frees e)

  -- the next tree's inodes but this one
  others_looked : (next : Tree) (i : ℕ) → i ≢ ino → fin.get next.nodes i ≡ fin.get tree.nodes i → looked_at next looks i ≡ true → without few ino i ≡ true
  others_looked next i apart same t =
      without_of few ino i
      (and_both (has_addresses tree i) (looks i) (sym (ap node_has_addresses same) ∙ and_left (has_addresses next i) (looks i) t) (and_right (has_addresses next i) (looks i) t)) apart

  gone_looked : (i : ℕ) → looked_at (without_node tree ino) looks i ≡ true → without few ino i ≡ true
  gone_looked i t = elim (one_or_not i ino) [
    | inl e ↦
        (let none : has_addresses (without_node tree ino) i ≡ false = ap (has_addresses (without_node tree ino)) e ∙ ap node_has_addresses (gone_here tree.nodes ino) in
        let clash : true ≡ false = sym (and_left (has_addresses (without_node tree ino) i) (looks i) t) ∙ none in
        cc)
    | inr apart ↦ others_looked (without_node tree ino) i apart (gone_there tree.nodes ino i apart) t
  ]

  pub erased_advances : mode_of (mid (inode_block ino)) (inode_place ino) ≡ 0 → IsWiped (mid (inode_block ino)) (inode_place ino) → Advances image tree looks new (without_node tree ino) (onto list chain)
  erased_advances free wiped =
      advances_by image tree looks chain stored (without_node tree ino) new (onto list chain)
      (record {
        stored = erased image tree chain stored ino node has mid new list lets written freed free;
        kept = erased_kept image tree chain stored ino node has mid new list lets written freed free wiped;
      })
      (λ block some had. was_had node.body list refl lets freed block some (had_over (looked_at (without_node tree ino) looks) (without few ino) new (onto list chain) block gone_looked had))

  -- freeing leaves the inode's block as it was written
  block_stays : (body : Body) (xs : List ℕ) → body ≡ node.body → LetsGo image.at ino body xs → AreFreed mid new xs → new (inode_block ino) ≡ mid (inode_block ino)
  block_stays body xs same (listed b l t lists) frees =
      let rest = without (has_addresses tree) ino in
      let on : has_addresses tree ino ≡ true = is ∙ ap body_has_addresses (sym same) ∙ t in
      let first = written.others 1 (omega arith) in
      let size : isize_of (mid 1) ≡ isize_of (image.at 1) = ap (λ (b : List ℕ). isize_of b) first in
      (freed_all rest mid new xs [] chain
      (rewritten_laid rest image.at mid ino (xs ++ []) chain (laid_less (has_addresses tree) image.at ino xs [] chain laid on lists) low written (λ f. absurd (without_apart (has_addresses tree) ino ino f refl)))
      frees).rest.listed (inode_block ino) (omega arith) (let l = low in omega (arith, l, size))
  block_stays body xs same (special b t) frees = ap (λ (blocks : ℕ → List ℕ). blocks (inode_block ino)) frees

  module _ (left : Node) (size : ℕ) (empty : left.body ≡ Regular size fin.empty) (fields : HasFields mid ino left) (sized : size_of (mid (inode_block ino)) (inode_place ino) ≡ size)
      (holes : (p : ℕ) → p < 13 → (pointers mid).top ino p ≡ 0) where
    holes_now : (p : ℕ) → p < 13 → (pointers new).top ino p ≡ 0
    holes_now p few = ap (λ (b : List ℕ). address_of b (inode_place ino) p) (block_stays node.body list refl lets freed) ∙ holes p few

    had_was : (block : ℕ) → 0 < block → IsHad (looked_at (with_node tree ino left) looks) new (onto list chain) block → IsHad few image.at chain block
    had_was block some (by_none among) = was_had node.body list refl lets freed block some (by_none among)
    had_was block some (by_place q h e) = elim (one_or_not (ino_of q) ino) [
      | inl mine ↦ absurd (let none = hole_under new ino holes_now q (place_mine (looked_at (with_node tree ino left) looks) ino q h mine) in omega (arith, some, e, none))
      | inr apart ↦
          was_had node.body list refl lets freed block some
          (by_place q (place_over (looked_at (with_node tree ino left) looks) (without few ino) q (others_looked (with_node tree ino left) (ino_of q) apart (get_there tree.nodes ino left (ino_of q) apart)) h) e)
    ]

    pub cleared_advances : Advances image tree looks new (with_node tree ino left) (onto list chain)
    cleared_advances =
        advances_by image tree looks chain stored (with_node tree ino left) new (onto list chain)
        (record {
          stored = cleared image tree chain stored ino node has mid new list lets written freed left size empty fields sized holes;
          kept = cleared_kept image tree chain stored ino node has mid new list lets written freed left size empty fields sized holes;
        })
        had_was
