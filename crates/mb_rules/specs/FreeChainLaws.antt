-- The laws of the scan's second part: it goes through exactly where the image has a free chain.
use Rattle.std.specs.Prelude.{List, [], ℕ, ◌+◌, ◌≤◌, ◌≡◌, ◌≢◌, All, AllPairs, Ok}
use Rattle.std.specs.List.Sorted.{IsPermutation}
use Rattle.mb_word.specs.Fields.{isize_of, fsize_of, nfree_of}
use Rattle.mb_tree.specs.Blocks.{IsFreeChain, first_list}
use Rattle.mb_tree.specs.Volume.{IsOpenToFiles}
use Rattle.mb_rules.specs.Items.{walked}
use Rattle.mb_rules.specs.FreeChain.{list_items, chain_items}
use Rattle.mb_rules.specs.TreeOf.{chain_of}

-- a free chain of blocks that are open to files, each once
pub record HasChain (blocks : ℕ → List ℕ) (chain : List ℕ) : Type 0 where
  pub listed : IsFreeChain blocks chain
  pub in_range : All (IsOpenToFiles blocks) chain
  pub once : AllPairs (λ one other. one ≢ other) chain

-- a walk that goes through met the blocks of the chain
abbrev pub ChainAccepts : Type 0
ChainAccepts = (blocks : ℕ → List ℕ) (met : List ℕ) → 3 ≤ isize_of (blocks 1) → nfree_of (blocks 1) ≤ 50 → walked [] (chain_items blocks) ≡ Ok met
    → HasChain blocks (chain_of blocks) × IsPermutation met (chain_of blocks)

-- where there is a chain, the walk goes through
pub record ChainWalks (blocks : ℕ → List ℕ) (chain : List ℕ) : Type 0 where
  pub met : List ℕ
  pub walks : walked [] (chain_items blocks) ≡ Ok met
  pub same : IsPermutation met chain
  pub only : chain_of blocks ≡ chain

abbrev pub ChainAccepted : Type 0
ChainAccepted = (blocks : ℕ → List ℕ) (chain : List ℕ) → 3 ≤ isize_of (blocks 1) → HasChain blocks chain → ChainWalks blocks chain

-- the bound on lists is none: more of them would change no finding, on any image
abbrev pub BoundSuffices : Type 0
BoundSuffices = (blocks : ℕ → List ℕ) (more : ℕ) → 3 ≤ isize_of (blocks 1) → walked [] (list_items blocks (fsize_of (blocks 1) + 1 + more) 1 (first_list blocks)) ≡ walked [] (chain_items blocks)
