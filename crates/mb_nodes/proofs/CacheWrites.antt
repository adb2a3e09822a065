-- The cache of free inode numbers written: the tree and all blocks that are held or free stay.
use Rattle.std.proofs.Common.{ℕ, ◌≡◌, inl, inr, ◌+◌, ◌-◌, ◌*◌, ◌<◌, ◌≤◌, List, [], length, slice_index, sym, ap, subst, ◌∙◌, arith}
use Rattle.std.specs.FinMap as fin
use Rattle.std.proofs.lemmas.Bool.{cases_eq}
use Rattle.std.proofs.lemmas.List.Elements.{All-weaker}
use Rattle.mb_kinds.specs.Image.{Image}
use Rattle.mb_word.specs.Fields.{isize_of, fsize_of, inode_block, inode_place, mode_of, address_of}
use Rattle.mb_word.specs.Numbers.{SameFrom}
use Rattle.mb_word.proofs.Values.{word_at-same, long_at-same}
use Rattle.mb_tree.specs.Blocks.{pointers, first_list, list_in, IsFreeChain}
use Rattle.mb_tree.specs.Places.{at}
use Rattle.mb_tree.specs.Volume.{IsOpenToFiles, has_addresses}
use Rattle.mb_tree.specs.declared.trees.Tree.{Tree}
use Rattle.mb_blocks.specs.Conserved.{Conserves}
use Rattle.mb_blocks.specs.FreeLists.{IsSameList}
use Rattle.mb_blocks.specs.Laid.{IsLaid}
use Rattle.mb_blocks.specs.Pointing.{KeepsHeld}
use Rattle.mb_blocks.proofs.Conserving.{conserved_by}
use Rattle.mb_blocks.proofs.Freeing.{same_list}
use Rattle.mb_blocks.proofs.InodeStays.{inode_stays}
use Rattle.mb_blocks.proofs.Keeping.{laid_kept, sizes_same}
use Rattle.mb_blocks.proofs.Listing.{chain_alike, chain_few}
use Rattle.mb_blocks.proofs.PartWriting.{lead_pointers}
use Rattle.mb_blocks.proofs.Pointing.{its_pointers, part_kept}
use Rattle.mb_nodes.specs.Bodies.{IsCacheWritten}
use Rattle.mb_nodes.specs.Stored.{Follows, IsStored}
use Rattle.mb_nodes.proofs.KeptFrom.{kept_conserved}
use Rattle.mb_nodes.proofs.OneInode.{laid_stored, leads_stored}

module _ (image : Image) (tree : Tree) (chain : List ℕ) (stored : IsStored image tree chain) (new : ℕ → List ℕ) (written : IsCacheWritten image.at new) where
  laid : IsLaid (has_addresses tree) image.at [] chain
  laid = laid_stored image tree chain stored

  sizes : SameFrom (new 1) (image.at 1) 0 6
  sizes k from to = written.front k from (omega (arith, to))

  off_first : (block : ℕ) → IsOpenToFiles image.at block → new block ≡ image.at block
  off_first block is = written.others block (let from = is.from in let wide = laid.wide in omega (arith, from, wide))

  held : KeepsHeld (has_addresses tree) image.at new
  held = record {
    tops = λ ino p h low. ap (λ (b : List ℕ). address_of b (inode_place ino) p) (written.others (inode_block ino) (omega arith));
    blocks = λ q h some. off_first (at (pointers image.at) q) (laid.in_range q h some);
  }

  few : (first_list image.at).count ≤ 50
  few = chain_few (list_in image.at) (first_list image.at) chain laid.free

  list_same : IsSameList (first_list new) (first_list image.at)
  list_same =
      let count : (first_list new).count ≡ (first_list image.at).count = word_at-same (new 1) (image.at 1) 6 (λ k from to. written.front k (omega arith) (omega (arith, to))) in
      record {
        count = count;
        entry = λ j low. long_at-same (new 1) (image.at 1) (8 + 4 * j) (λ k from to. written.front k (omega arith) (let f = few in omega (arith, to, low, f, count)));
      }

  free : IsFreeChain new chain
  free =
      chain_alike (list_in image.at) (list_in new) (first_list image.at) (first_list new) chain
      (All-weaker (IsOpenToFiles image.at) (λ b. list_in image.at b ≡ list_in new b) (λ b is. same_list image.at new b (off_first b is)) chain laid.spare.in_range)
      list_same laid.free

  sized_now : (block : ℕ) → length (new block) ≡ 512
  sized_now block = elim (cases_eq block 1) [
    | inl is ↦ ap (λ b. length (new b)) is ∙ written.sized
    | inr apart ↦ ap length (written.others block apart) ∙ stored.bytes block
  ]

  laid_now : IsLaid (has_addresses tree) new [] chain
  laid_now = laid_kept (has_addresses tree) image.at new sizes (its_pointers (has_addresses tree) image.at new held) [] chain [] chain laid sized_now free laid.spare

  block_same : (ino : ℕ) → new (inode_block ino) ≡ image.at (inode_block ino)
  block_same ino = written.others (inode_block ino) (omega arith)

  stored_now : IsStored (record image { at = new }) tree chain
  stored_now =
      let same = sizes_same image.at new sizes in
      let wide = stored.sizes in
      let leads = lead_pointers (has_addresses tree) image.at new (its_pointers (has_addresses tree) image.at new held) (leads_stored image tree chain stored) in
      record {
        bytes = sized_now;
        sizes = record {
          blocks = wide.blocks;
          some_inodes = subst (λ n. 3 ≤ n) (sym same.0) wide.some_inodes;
          few_inodes = subst (λ n. n ≤ 8193) (sym same.0) wide.few_inodes;
          some_blocks = subst (λ n. n < fsize_of (new 1)) (sym same.0) (subst (λ n. isize_of (image.at 1) < n) (sym same.1) wide.some_blocks);
          few_blocks = subst (λ n. n ≤ 262144) (sym same.1) wide.few_blocks;
          present = subst (λ n. n ≤ image.count) (sym same.1) wide.present;
        };
        cached = written.few;
        last = stored.last ∙ ap (λ n. 8 * (n - 2)) (sym same.0);
        inodes = λ ino some low.
            inode_stays image.at new ino (sized_now (inode_block ino)) (stored.bytes (inode_block ino)) (λ k from to. ap (λ (b : List ℕ). slice_index b k) (block_same ino))
            (fin.get tree.nodes ino) (λ t part. part_kept (has_addresses tree) image.at new held ino part t) (stored.inodes ino some low);
        held = record { in_range = laid_now.in_range; once = laid_now.once; leads_on = leads };
        spare = record { listed = laid_now.free; in_range = laid_now.spare.in_range; once = laid_now.spare.once; apart = laid_now.spare.bare };
        capacity = stored.capacity;
        numbers = stored.numbers;
      }

  conserves : Conserves (has_addresses tree) (has_addresses tree) image.at new chain chain
  conserves =
      conserved_by (has_addresses tree) image.at new chain chain (its_pointers (has_addresses tree) image.at new held) (λ b among. among) (λ b among. among)
      (λ b from unhad. written.others b (let wide = laid.wide in omega (arith, from, wide))) (written.others 0 (omega arith)) sizes

  pub cache_written : Follows image tree new tree chain
  cache_written = record {
    stored = stored_now;
    kept = kept_conserved image (record image { at = new }) tree tree chain chain stored stored_now conserves written.back written.cached
        (λ ino some low. ap (λ (b : List ℕ). slice_index b (64 * inode_place ino + 51)) (block_same ino))
        (λ ino some low none. inr (ap (λ (b : List ℕ). mode_of b (inode_place ino)) (sym (block_same ino)) ∙ none, λ k from to. ap (λ (b : List ℕ). slice_index b k) (block_same ino)));
  }
