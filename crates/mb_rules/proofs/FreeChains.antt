-- The laws of the free chain.
use Rattle.std.proofs.Common.{◌≡◌, ℕ, ◌+◌, ◌≤◌, List, [], nat_eq, length, Ok, subst, arith}
use Rattle.std.specs.List.{IsDistinct}
use Rattle.std.specs.List.Sorted.{IsPermutation}
use Rattle.std.proofs.lemmas.List.{append-nil}
use Rattle.std.proofs.lemmas.List.Sorted.{IsPermutation-sym}
use Rattle.std.proofs.lemmas.List.Elements.{All-from_recursion, recursion_from_All}
use Rattle.std.proofs.lemmas.Bool.Decides.{nat_tests, Decides-eqb}
use Rattle.std.proofs.lemmas.Map.Keys.{IsDistinct-IsPermutation}
use Rattle.std.proofs.lemmas.Map.Made.{AllPairs-from_IsDistinct, IsDistinct-from_AllPairs}
use Rattle.std.proofs.lemmas.Map.Steps.{length-le_from_distinct_below}
use Rattle.mb_word.specs.Fields.{isize_of, fsize_of, nfree_of}
use Rattle.mb_tree.specs.Blocks.{first_list}
use Rattle.mb_tree.specs.Volume.{IsOpenToFiles}
use Rattle.mb_rules.specs.Items.{walked}
use Rattle.mb_rules.specs.FreeChain.{chain_items}
use Rattle.mb_rules.specs.FreeChainLaws.{HasChain, ChainAccepts, ChainWalks, ChainAccepted}
use Rattle.mb_rules.specs.TreeOf.{chain_of}
use Rattle.mb_rules.proofs.Walks.{met_after, walk_holds, walk_once, walks}
use Rattle.mb_rules.proofs.Chains.{met_lists, makes_chain, chain_holds, open_below}

flips : (x y : ℕ) → nat_eq x y ≡ nat_eq y x
flips x y = grind (arith, nat_tests)

pub none_once : IsDistinct nat_eq []
unfolding IsDistinct
none_once = tt

module _ (blocks : ℕ → List ℕ) (low : 3 ≤ isize_of (blocks 1)) where
  same_blocks : IsPermutation (met_after [] (chain_items blocks)) (chain_of blocks)
  same_blocks = subst (IsPermutation (met_after [] (chain_items blocks))) (append-nil (chain_of blocks)) (met_lists blocks (fsize_of (blocks 1) + 1) 1 (first_list blocks) [])

  pub accepts : (met : List ℕ) → nfree_of (blocks 1) ≤ 50 → walked [] (chain_items blocks) ≡ Ok met → HasChain blocks (chain_of blocks) × IsPermutation met (chain_of blocks)
  accepts met few h =
      let passed = walk_holds [] (chain_items blocks) met h in
      let once = walk_once [] (chain_items blocks) met h none_once in
      let made = makes_chain blocks low (fsize_of (blocks 1) + 1) 1 (first_list blocks) [] few passed.0 once (λ q wrong. absurd (cc)) (omega arith) in
      let apart : IsDistinct nat_eq (chain_of blocks) = IsDistinct-IsPermutation nat_eq flips _ _ same_blocks once in (
        record { listed = made.0; in_range = All-from_recursion (IsOpenToFiles blocks) (chain_of blocks) made.1; once = AllPairs-from_IsDistinct Decides-eqb (chain_of blocks) apart },
        subst (λ ys. IsPermutation ys (chain_of blocks)) passed.1 same_blocks,
      )

  pub accepted : (chain : List ℕ) → HasChain blocks chain → ChainWalks blocks chain
  accepted chain has =
      let within = recursion_from_All (IsOpenToFiles blocks) chain has.in_range in
      let apart : IsDistinct nat_eq chain = IsDistinct-from_AllPairs Decides-eqb chain has.once in
      let bound : length chain ≤ fsize_of (blocks 1) = length-le_from_distinct_below chain (fsize_of (blocks 1)) apart (λ q h. open_below blocks low chain q within h) in
      let holds = chain_holds blocks low (fsize_of (blocks 1) + 1) 1 (first_list blocks) chain has.listed within (omega arith) in
      let same : IsPermutation (met_after [] (chain_items blocks)) chain = subst (IsPermutation (met_after [] (chain_items blocks))) holds.1 same_blocks in
      let once : IsDistinct nat_eq (met_after [] (chain_items blocks)) = IsDistinct-IsPermutation nat_eq flips _ _ (IsPermutation-sym _ _ same) apart in
      record { met = met_after [] (chain_items blocks); walks = walks [] (chain_items blocks) holds.0 once; same = same; only = holds.1 }

pub chain_accepts : ChainAccepts
chain_accepts blocks met low few h = accepts blocks low met few h

pub chain_accepted : ChainAccepted
chain_accepted blocks chain low has = accepted blocks low chain has
