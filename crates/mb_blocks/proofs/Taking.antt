-- A block taken from the free chain and filled with zeros is in hand.
use Rattle.std.proofs.Common.{ℕ, zero, suc, ◌≡◌, ◌≢◌, inl, inr, ◌+◌, ◌-◌, ◌*◌, Bool, List, [], ◌∷◌, ◌++◌, length, replicate, All, refl, sym, ap, subst, ◌∙◌, arith, slice_index}
use Rattle.std.proofs.lemmas.Bool.{cases_eq}
use Rattle.std.proofs.lemmas.List.{length-replicate}
use Rattle.std.proofs.lemmas.List.Elements.{All-head, All-tail, All-weaker}
use Rattle.mb_kinds.specs.Image.{zeros}
use Rattle.mb_word.specs.Fields.{nfree_of, free_of, inode_block, inode_place, address_of, index_entry}
use Rattle.mb_word.specs.Numbers.{word_at, long_at}
use Rattle.mb_tree.specs.Blocks.{pointers, first_list, list_in, IsFreeChain}
use Rattle.mb_tree.specs.Chain.{IsChain, after_taking}
use Rattle.mb_tree.specs.Places.{at}
use Rattle.mb_tree.specs.Volume.{IsOpenToFiles}
use Rattle.mb_blocks.specs.FreeLists.{IsSameList, IsTaken}
use Rattle.mb_blocks.specs.Laid.{AreSpare, IsBare, IsLaid}
use Rattle.mb_blocks.specs.Pointing.{KeepsHeld}
use Rattle.mb_blocks.proofs.Freeing.{same_list}
use Rattle.mb_blocks.proofs.Keeping.{laid_kept}
use Rattle.mb_blocks.proofs.Listing.{chain_alike}
use Rattle.mb_blocks.proofs.Pointing.{its_pointers}
use Rattle.mb_blocks.proofs.Rearranged.{all_back, all_right, first_other, once_back}

pub length-zeros : length zeros ≡ 512
unfolding zeros
length-zeros = length-replicate {A = ℕ} 512 0

none_in : (n k : ℕ) → slice_index (replicate {A = ℕ} n 0) k ≡ 0
none_in zero k = refl
none_in (suc n) zero = refl
none_in (suc n) (suc k) = none_in n k

pub zeros_entry : (k : ℕ) → index_entry zeros k ≡ 0
unfolding zeros long_at word_at
zeros_entry k =
    let a = none_in 512 (4 * k) in
    let b = none_in 512 (4 * k + 1) in
    let c = none_in 512 (4 * k + 2) in
    let d = none_in 512 (4 * k + 2 + 1) in
    omega (arith, a, b, c, d)

module _ (has : ℕ → Bool) (old new : ℕ → List ℕ) (block : ℕ) (loose chain : List ℕ) (laid : IsLaid has old loose chain) (taken : IsTaken old new block) where
  off_first : (other : ℕ) → IsOpenToFiles old other → new other ≡ old other
  off_first other is = taken.others other (let from = is.from in let wide = laid.wide in omega (arith, from, wide))

  pub taken_held : KeepsHeld has old new
  taken_held = record {
    tops = λ ino p h low. ap (λ (bytes : List ℕ). address_of bytes (inode_place ino) p) (taken.others (inode_block ino) (omega arith));
    blocks = λ q h some. off_first (at (pointers old) q) (laid.in_range q h some);
  }

  front_of : (blocks : List ℕ) → IsChain (list_in old) (first_list old) blocks → All (IsOpenToFiles old) blocks → (left : List ℕ) × (blocks ≡ block ∷ left) × IsFreeChain new left
  front_of [] (inl none) are = (let some = taken.next.some in absurd (omega (arith, some, none)))
  front_of [] (inr last) are =
      let next = taken.next in
      let here = next.here in
      let real = next.real in
      let e : (first_list old).entry ((first_list old).count - 1) ≡ (first_list old).entry 0 = ap (λ n. (first_list old).entry (n - 1)) last.0 in
      absurd (omega (arith, real, sym here ∙ e ∙ last.1))
  front_of (x ∷ left) free are =
      let is : x ≡ block = sym free.0.here ∙ taken.next.here in
      let lists : All (λ b. list_in old b ≡ list_in new b) left =
      All-weaker (IsOpenToFiles old) (λ b. list_in old b ≡ list_in new b) (λ b open_to. same_list old new b (off_first b open_to)) left (All-tail (IsOpenToFiles old) x left are) in
      let after : IsChain (list_in old) (after_taking (list_in old) (first_list old) block) left = subst (λ b. IsChain (list_in old) (after_taking (list_in old) (first_list old) b) left) is free.1 in
      (left, ap (λ b. b ∷ left) is, chain_alike (list_in old) (list_in new) (after_taking (list_in old) (first_list old) block) (first_list new) left lists taken.list after)

  sized_now : (other : ℕ) → length (new other) ≡ 512
  sized_now other = elim (cases_eq other 1) [
    | inl is ↦ ap (λ b. length (new b)) is ∙ taken.sized
    | inr off ↦ ap length (taken.others other off) ∙ laid.sized other
  ]

  -- the block is the chain's first, and is in hand
  pub laid_taken : (left : List ℕ) × (chain ≡ block ∷ left) × IsLaid has new (block ∷ loose) left
  laid_taken =
      let f = front_of chain laid.free (all_right (IsOpenToFiles old) loose chain laid.spare.in_range) in
      let spare : AreSpare has old (loose ++ block ∷ f.0) = subst (λ xs. AreSpare has old (loose ++ xs)) f.1 laid.spare in
      let back : AreSpare has old (block ∷ (loose ++ f.0)) = record {
        in_range = all_back (IsOpenToFiles old) block loose f.0 spare.in_range;
        once = once_back block loose f.0 spare.once;
        bare = all_back (IsBare has old) block loose f.0 spare.bare;
      } in
      (f.0, f.1, laid_kept has old new taken.front (its_pointers has old new taken_held) loose chain (block ∷ loose) f.0 laid sized_now f.2 back)

-- ---- any bytes in a block in hand

module _ (has : ℕ → Bool) (old new : ℕ → List ℕ) (block : ℕ) (loose chain : List ℕ) (laid : IsLaid has old (block ∷ loose) chain)
    (others : (other : ℕ) → other ≢ block → new other ≡ old other) (long : length (new block) ≡ 512) where
  hand : IsOpenToFiles old block
  hand = All-head (IsOpenToFiles old) block (loose ++ chain) laid.spare.in_range

  pub hand_held : KeepsHeld has old new
  hand_held = record {
    tops = λ ino p h low. ap (λ (bytes : List ℕ). address_of bytes (inode_place ino) p)
        (others (inode_block ino) (let within = laid.inodes ino h in let from = hand.from in omega (arith, within.1, from)));
    blocks = λ q h some. others (at (pointers old) q) (All-head (IsBare has old) block (loose ++ chain) laid.spare.bare q h);
  }

  pub hand_first : new 1 ≡ old 1
  hand_first = others 1 (let from = hand.from in let wide = laid.wide in omega (arith, from, wide))

  still_free : IsFreeChain new chain
  still_free =
      chain_alike (list_in old) (list_in new) (first_list old) (first_list new) chain
      (All-weaker (λ b. block ≢ b) (λ b. list_in old b ≡ list_in new b) (λ b off. same_list old new b (others b (λ e. off (sym e)))) chain
      (all_right (λ b. block ≢ b) loose chain (first_other block (loose ++ chain) laid.spare.once)))
      (subst (λ (bytes : List ℕ). IsSameList (record { count = nfree_of bytes; entry = free_of bytes }) (first_list old)) (sym hand_first) (record { count = refl; entry = λ j low. refl })) laid.free

  pub laid_written : IsLaid has new (block ∷ loose) chain
  laid_written =
      laid_kept has old new (λ k low high. ap (λ (bytes : List ℕ). slice_index bytes k) hand_first) (its_pointers has old new hand_held) (block ∷ loose) chain (block ∷ loose) chain laid
      (λ other. elim (cases_eq other block) [
        | inl is ↦ ap (λ b. length (new b)) is ∙ long
        | inr off ↦ ap length (others other off) ∙ laid.sized other
      ])
      still_free laid.spare
