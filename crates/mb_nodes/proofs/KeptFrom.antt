-- A change that conserves what is accounted for keeps all that holds nothing of the tree.
use Rattle.std.proofs.Common.{ℕ, ◌≡◌, ◌≢◌, inl, inr, ◌+◌, ◌*◌, ◌<◌, ◌≤◌, List, slice_index, All, refl, subst, arith, sym, ◌∙◌}
use Rattle.std.specs.List.{Contains}
use Rattle.std.proofs.lemmas.List.Elements.{All-contains, Contains-get_or}
use Rattle.mb_kinds.specs.Image.{Image}
use Rattle.mb_word.specs.Fields.{fsize_of, ninode_of, cached_of, inode_block, inode_place, mode_of}
use Rattle.mb_word.specs.Numbers.{SameFrom}
use Rattle.mb_word.proofs.Values.{word_at-same}
use Rattle.mb_tree.specs.Blocks.{first_list, list_in}
use Rattle.mb_tree.specs.Views.{IsFreedWiped, IsLost, KeepsCache, Kept}
use Rattle.mb_tree.specs.Volume.{last_inode, has_addresses, IsOpenToFiles}
use Rattle.mb_tree.specs.declared.trees.Tree.{Tree}
use Rattle.mb_tree.proofs.Chains.{chain_once}
use Rattle.mb_tree.proofs.FiniteMaps.{one_or_not}
use Rattle.mb_blocks.specs.Conserved.{Conserves}
use Rattle.mb_blocks.specs.Laid.{IsHad}
use Rattle.mb_blocks.specs.Laid.IsHad.{by_none, by_place}
use Rattle.mb_nodes.specs.Stored.{IsStored}
use Rattle.mb_nodes.specs.Underway.{KeepsOthers}

module _ (image new : Image) (tree next : Tree) (chain left : List ℕ) (stored : IsStored image tree chain) (after : IsStored new next left)
    (conserves : Conserves (has_addresses tree) (has_addresses next) image.at new.at chain left) (unused : SameFrom (new.at 1) (image.at 1) 410 102) (cached : KeepsCache (image.at 1) (new.at 1))
    (inodes : (ino : ℕ) → 0 < ino → ino ≤ last_inode image.at → slice_index (new.at (inode_block ino)) (64 * inode_place ino + 51) ≡ slice_index (image.at (inode_block ino)) (64 * inode_place ino + 51))
    (freed : (ino : ℕ) → 0 < ino → ino ≤ last_inode image.at → IsFreedWiped image.at new.at ino) where
  lost_unhad : (block : ℕ) → IsLost tree image.at block → IsHad (has_addresses tree) image.at chain block → ⊥
  lost_unhad block lost (by_place q h e) = lost.by_no_node q h e
  lost_unhad block lost (by_none among) = All-contains (λ free. free ≢ block) chain block (lost.not_free chain stored.spare.listed) among refl

  new_unhad : (block : ℕ) → IsLost next new.at block → IsHad (has_addresses next) new.at left block → ⊥
  new_unhad block lost (by_place q h e) = lost.by_no_node q h e
  new_unhad block lost (by_none among) = All-contains (λ free. free ≢ block) left block (lost.not_free left after.spare.listed) among refl

  lost_still : (block : ℕ) → 0 < block → IsLost tree image.at block → IsLost next new.at block
  lost_still block some lost = record {
    by_no_node = λ q h e. lost_unhad block lost (conserves.already block some (by_place q h e));
    not_free = λ other free. subst (All (λ b. b ≢ block)) (chain_once (list_in new.at) (first_list new.at) left other after.spare.listed free)
        (λ i d within e. lost_unhad block lost (conserves.already block some (by_none (subst (Contains left) e (Contains-get_or left i d within)))));
  }

  lost_already : (block : ℕ) → 0 < block → IsLost next new.at block → IsLost tree image.at block
  lost_already block some lost = record {
    by_no_node = λ q h e. new_unhad block lost (conserves.still block some (by_place q h e));
    not_free = λ other free. subst (All (λ b. b ≢ block)) (chain_once (list_in image.at) (first_list image.at) chain other stored.spare.listed free)
        (λ i d within e. new_unhad block lost (conserves.still block some (by_none (subst (Contains chain) e (Contains-get_or chain i d within)))));
  }

  -- a block past those that are open to files is held by nothing
  past_unhad : (block : ℕ) → fsize_of (image.at 1) ≤ block → 0 < block → IsHad (has_addresses tree) image.at chain block → ⊥
  past_unhad block past some (by_place q h e) = (let below = (stored.held.in_range q h (omega (arith, some, e))).below in omega (arith, below, past, e))
  past_unhad block past some (by_none among) = (let below = (All-contains (IsOpenToFiles image.at) chain block stored.spare.in_range among).below in omega (arith, below, past))

  pub kept_conserved : Kept tree image next new
  kept_conserved =
      let wide = stored.sizes.some_inodes in
      let order = stored.sizes.some_blocks in
      record {
        boot = conserves.boot;
        sizes = conserves.front;
        unused = unused;
        cached = cached;
        inodes = inodes;
        freed = freed;
        past = λ block past. conserves.off block (omega (arith, order, past)) (past_unhad block past (omega (arith, order, past, wide)));
        lost = λ block low high lost. (lost_still block (omega (arith, low, wide)) lost, conserves.off block low (lost_unhad block lost));
        lost_before = λ block low high lost. lost_already block (omega (arith, low, wide)) lost;
      }

-- the cache, where its bytes stay
cache_alike : (old new : List ℕ) → ninode_of old ≤ 100 → SameFrom new old 208 304 → KeepsCache old new
cache_alike old new few same k low =
    let count : ninode_of new ≡ ninode_of old = word_at-same new old 208 (λ j from to. same j from (omega (arith, to))) in
    let here : cached_of new k ≡ cached_of old k = word_at-same new old (210 + 2 * k) (λ j from to. same j (omega (arith, from)) (omega (arith, to, low, count, few))) in
    inl (k, omega (arith, low, count), sym here)

pub kept_cache : (image : Image) (tree : Tree) (chain : List ℕ) → IsStored image tree chain → (ino : ℕ) (new : ℕ → List ℕ) → KeepsOthers tree image.at new ino → KeepsCache (image.at 1) (new 1)
kept_cache image tree chain stored ino new keeps = cache_alike (image.at 1) (new 1) stored.cached keeps.back

-- and what is behind it
pub kept_unused : (image : Image) (tree : Tree) (ino : ℕ) (new : ℕ → List ℕ) → KeepsOthers tree image.at new ino → SameFrom (new 1) (image.at 1) 410 102
kept_unused image tree ino new keeps = λ k from to. keeps.back k (omega (arith, from)) (omega (arith, to))

-- the byte of each inode that holds no address
pub kept_bytes : (image : Image) (tree : Tree) (chain : List ℕ) → IsStored image tree chain → (ino : ℕ) (new : ℕ → List ℕ) → KeepsOthers tree image.at new ino
    → (j : ℕ) → 0 < j → j ≤ last_inode image.at → slice_index (new (inode_block j)) (64 * inode_place j + 51) ≡ slice_index (image.at (inode_block j)) (64 * inode_place j + 51)
kept_bytes image tree chain stored ino new keeps j some low = elim (one_or_not j ino) [
  | inl same ↦ subst (λ x. slice_index (new (inode_block x)) (64 * inode_place x + 51) ≡ slice_index (image.at (inode_block x)) (64 * inode_place x + 51)) (sym same) keeps.byte
  | inr apart ↦ keeps.bytes j some (let l = stored.last in omega (arith, low, l)) apart (64 * inode_place j + 51) (omega arith) (omega arith)
]

-- and each other inode, which is free as it was
pub kept_free : (image : Image) (tree : Tree) (chain : List ℕ) → IsStored image tree chain → (ino : ℕ) (new : ℕ → List ℕ) → KeepsOthers tree image.at new ino → IsFreedWiped image.at new ino
    → (j : ℕ) → 0 < j → j ≤ last_inode image.at → IsFreedWiped image.at new j
kept_free image tree chain stored ino new keeps mine j some low = elim (one_or_not j ino) [
  | inl same ↦ subst (λ x. IsFreedWiped image.at new x) (sym same) mine
  | inr apart ↦ λ none.
      let bytes = keeps.bytes j some (let l = stored.last in omega (arith, low, l)) apart in
      let mode : mode_of (new (inode_block j)) (inode_place j) ≡ mode_of (image.at (inode_block j)) (inode_place j) =
      word_at-same (new (inode_block j)) (image.at (inode_block j)) (64 * inode_place j) (λ k from to. bytes k from (omega (arith, to))) in
      inr (sym mode ∙ none, λ k from to. bytes k from (omega (arith, to)))
]
