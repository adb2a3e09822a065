-- The cache of free inode numbers written: nothing that is near changes.
use Rattle.std.proofs.Common.{ℕ, ◌<◌, Bool, List, ap, ◌∙◌, arith, sym}
use Rattle.mb_kinds.specs.Image.{Image}
use Rattle.mb_word.specs.Fields.{inode_place, address_of}
use Rattle.mb_word.specs.Fields.{inode_block}
use Rattle.mb_tree.specs.Blocks.{pointers}
use Rattle.mb_tree.specs.Places.{at}
use Rattle.mb_tree.specs.Volume.{has_addresses}
use Rattle.mb_tree.specs.declared.trees.Tree.{Tree}
use Rattle.mb_blocks.specs.Laid.{IsHad}
use Rattle.mb_blocks.specs.Laid.IsHad.{by_none, by_place}
use Rattle.mb_blocks.specs.Pointing.{KeepsPointers}
use Rattle.mb_blocks.proofs.Pointing.{at_alike}
use Rattle.mb_nodes.specs.Bodies.{IsCacheWritten}
use Rattle.mb_nodes.specs.Stored.{IsStored}
use Rattle.mb_nodes.proofs.CacheWrites.{cache_written}
use Rattle.mb_moves.specs.Advancing.{Advances}
use Rattle.mb_moves.specs.Looking.{looked_at}
use Rattle.mb_moves.proofs.Nearness.{advances_by, place_tested}

module _ (image : Image) (tree : Tree) (chain : List ℕ) (looks : ℕ → Bool) (stored : IsStored image tree chain) (new : ℕ → List ℕ) (written : IsCacheWritten image.at new) where
  keeps : KeepsPointers (has_addresses tree) image.at new
  keeps = record {
    tops = λ ino p h low. ap (λ (b : List ℕ). address_of b (inode_place ino) p) (written.others (inode_block ino) (omega arith));
    indexes = λ q h up some. written.others (at (pointers image.at) q) (let open_to = stored.held.in_range q h some in let from = open_to.from in let wide = stored.sizes.some_inodes in omega (arith, from, wide));
  }

  was_had : (block : ℕ) → 0 < block → IsHad (looked_at tree looks) new chain block → IsHad (looked_at tree looks) image.at chain block
  was_had block some (by_none among) = by_none among
  was_had block some (by_place q h e) = by_place q h (sym (at_alike (has_addresses tree) image.at new keeps q (place_tested (has_addresses tree) looks q h).0) ∙ e)

  pub cache_advances : Advances image tree looks new tree chain
  cache_advances = advances_by image tree looks chain stored tree new chain (cache_written image tree chain stored new written) was_had
