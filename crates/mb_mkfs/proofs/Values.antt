-- The values that the blocks of a fresh volume stand for.
use Rattle.std.proofs.Common.{ℕ, zero, suc, ◌≡◌, inl, inr, ◌+◌, ◌<◌, ◌≤◌, true, false, cond, nat_le, List, length, replicate, slice_index, refl, sym, ap, ◌∙◌, arith}
use Rattle.std.proofs.lemmas.Bool.{cases_lt}
use Rattle.std.proofs.lemmas.Bool.Decides.{nat_tests}
use Rattle.std.proofs.lemmas.List.{length-replicate, get_or_past}
use Rattle.mb_kinds.specs.Image.{zeros}
use Rattle.mb_word.specs.Numbers.{word_at, put_at}
use Rattle.mb_word.specs.Fields.{isize_of, fsize_of, nfree_of, free_of, ninode_of, chain_count, chain_entry}
use Rattle.mb_word.proofs.Writes.{length-put_at}
use Rattle.mb_layout.specs.ChainBlock.{FitsChain, chain_at, chain_bytes}
use Rattle.mb_layout.specs.Listed.{listed}
use Rattle.mb_layout.specs.SuperBlock.{FitsSuper, super_at, super_bytes}
use Rattle.mb_layout.specs.declared.chains.Chain.{Chain}
use Rattle.mb_layout.specs.declared.super_blocks.Super.{Super}
use Rattle.mb_layout.proofs.ChainBytes.{chain_back, length-chain_bytes}
use Rattle.mb_layout.proofs.NumberLists.{length-listed, listed_item}
use Rattle.mb_layout.proofs.SuperBlockBytes.{super_back, length-super_bytes}
use Rattle.mb_mkfs.specs.FreeLists.{free_at, free_block, has_list, last_place, list_after, no_numbers, number_at, super_block, super_with}

pub no_byte : (n k : ℕ) → slice_index (replicate {A = ℕ} n 0) k ≡ 0
no_byte zero k = refl
no_byte (suc n) zero = refl
no_byte (suc n) (suc k) = no_byte n k

pub zero_byte : (k : ℕ) → slice_index zeros k ≡ 0
unfolding zeros
zero_byte k = no_byte 512 k

pub zero_word : (at : ℕ) → word_at zeros at ≡ 0
unfolding word_at
zero_word at = let low = zero_byte at in let high = zero_byte (at + 1) in omega (arith, low, high)

pub length_zeros : length zeros ≡ 512
unfolding zeros
length_zeros = length-replicate {A = ℕ} 512 0

pub length_no_numbers : length no_numbers ≡ 100
unfolding no_numbers
length_no_numbers = length-replicate {A = ℕ} 100 0

no_number : (k : ℕ) → slice_index no_numbers k ≡ 0
unfolding no_numbers
no_number k = no_byte 100 k

pub number_small : (top next last k : ℕ) → number_at top next last k ≤ top
number_small top next last k = grind (arith, nat_tests)

-- each item of a list of numbers is small where the numbers are
items_small : (f : ℕ → ℕ) (n most : ℕ) → ((k : ℕ) → f k ≤ most) → (k : ℕ) → slice_index (listed f n) k ≤ most
items_small f n most small k = elim (cases_lt k n) [
  | inl below ↦ (let item = listed_item f n k below in let f_small = small k in omega (arith, item, f_small))
  | inr past ↦ (let none = get_or_past (listed f n) k 0 (let many = length-listed f n in omega (arith, many, past)) in omega (arith, none))
]

module _ (isize top : ℕ) (narrow : isize < 65536) (few : top ≤ 262144) where
  pub fits_super : (next : ℕ) → FitsSuper (super_with isize top next)
  fits_super next = record {
    isize = narrow;
    fsize = omega (arith, few);
    nfree = omega arith;
    frees = length-listed (free_at top next) 50;
    free = λ k. (let small = items_small (free_at top next) 50 top (λ j. number_small top next (cond (nat_le j (last_place top next)) (last_place top next) (last_place top next + 50)) j) k in omega (arith, small, few));
    ninode = omega arith;
    inodes = length_no_numbers;
    inode = λ k. (let none = no_number k in omega (arith, none));
  }

  pub length_super : (next : ℕ) → length (super_block isize top next) ≡ 512
  length_super next =
      let many = length-super_bytes (super_with isize top next) (fits_super next).frees length_no_numbers in
      let room = length_zeros in
      length-put_at zeros 0 (super_bytes (super_with isize top next)) (omega (arith, many, room)) ∙ length_zeros

  module _ (next : ℕ) where
    value : (A : Type 0) (f : Super → A) → f (super_at (super_block isize top next)) ≡ f (super_with isize top next)
    value A f = ap f (super_back zeros (super_with isize top next) (let room = length_zeros in omega (arith, room)) (fits_super next))

    pub isize_now : isize_of (super_block isize top next) ≡ isize
    isize_now = value ℕ (λ s. s.s_isize)

    pub fsize_now : fsize_of (super_block isize top next) ≡ top
    fsize_now = value ℕ (λ s. s.s_fsize)

    pub nfree_now : nfree_of (super_block isize top next) ≡ last_place top next + 1
    nfree_now = value ℕ (λ s. s.s_nfree)

    pub ninode_now : ninode_of (super_block isize top next) ≡ 0
    ninode_now = value ℕ (λ s. s.s_ninode)

    pub free_now : (k : ℕ) → k ≤ last_place top next → free_of (super_block isize top next) k ≡ number_at top next (last_place top next) k
    free_now k low =
        let small : k < 50 = omega (arith, low) in
        let count : nat_le k (last_place top next) ≡ true = grind (arith, nat_tests) in
        sym (listed_item (free_of (super_block isize top next)) 50 k small)
        ∙ ap (λ (xs : List ℕ). slice_index xs k) (value (List ℕ) (λ s. s.s_free))
        ∙ listed_item (free_at top next) 50 k small
        ∙ ap (λ b. number_at top next (cond b (last_place top next) (last_place top next + 50)) k) count

module _ (top : ℕ) (few : top ≤ 262144) where
  fits_list : (block : ℕ) → FitsChain (list_after top block)
  fits_list block = record {
    count = omega arith;
    items = length-listed (number_at top (block + 1) 49) 50;
    item = λ k. (let small = items_small (number_at top (block + 1) 49) 50 top (number_small top (block + 1) 49) k in omega (arith, small, few));
  }

  list_block : ℕ → List ℕ
  list_block block = put_at zeros 0 (chain_bytes (list_after top block))

  length_list : (block : ℕ) → length (list_block block) ≡ 512
  unfolding list_block
  length_list block =
      let many = length-chain_bytes (list_after top block) (fits_list block).items in
      let room = length_zeros in
      length-put_at zeros 0 (chain_bytes (list_after top block)) (omega (arith, many, room)) ∙ length_zeros

  pub length_free : (next block : ℕ) → length (free_block top next block) ≡ 512
  unfolding free_block list_block
  length_free next block = elim (has_list top next block) as (λ b. length (cond b (list_block block) zeros) ≡ 512) [ true ↦ length_list block | false ↦ length_zeros ]

  -- a block with a list holds the 50 blocks after it
  pub list_now : (next block : ℕ) → has_list top next block ≡ true
      → (chain_count (free_block top next block) ≡ 50)
      × ((k : ℕ) → k < 50 → chain_entry (free_block top next block) k ≡ number_at top (block + 1) 49 k)
  unfolding free_block
  list_now next block has =
      let here = ap (λ b. cond b (put_at zeros 0 (chain_bytes (list_after top block))) zeros) has in
      let back = ap chain_at here ∙ chain_back zeros (list_after top block) (let room = length_zeros in omega (arith, room)) (fits_list block) in (
        ap (λ (x : Chain). x.count) back,
        λ k small.
            sym (listed_item (chain_entry (free_block top next block)) 50 k small)
            ∙ ap (λ (x : Chain). slice_index x.list k) back
            ∙ listed_item (number_at top (block + 1) 49) 50 k small,
      )

  pub no_list : (next block : ℕ) → has_list top next block ≡ false → free_block top next block ≡ zeros
  unfolding free_block
  no_list next block none = ap (λ b. cond b (put_at zeros 0 (chain_bytes (list_after top block))) zeros) none
