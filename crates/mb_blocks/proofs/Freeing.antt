-- A block in hand put back on the free chain.
use Rattle.std.proofs.Common.{ℕ, ◌≡◌, ◌≢◌, inl, inr, Bool, List, ◌∷◌, ◌++◌, length, All, sym, ap, ◌∙◌, arith}
use Rattle.std.proofs.lemmas.Bool.{cases_eq}
use Rattle.std.proofs.lemmas.List.Elements.{All-head, All-tail}
use Rattle.mb_word.specs.Fields.{inode_block, inode_place, address_of, chain_count, chain_entry}
use Rattle.mb_tree.specs.Blocks.{pointers, first_list, list_in, IsFreeChain}
use Rattle.mb_tree.specs.Places.{Place, at, IsPlace}
use Rattle.mb_tree.specs.Volume.{IsOpenToFiles}
use Rattle.mb_blocks.specs.FreeLists.{IsFreed}
use Rattle.mb_blocks.specs.Laid.{AreSpare, IsBare, IsHad, IsLaid}
use Rattle.mb_blocks.specs.Laid.IsHad.{by_none, by_place}
use Rattle.mb_blocks.specs.Pointing.{KeepsHeld}
use Rattle.mb_blocks.proofs.Keeping.{laid_kept}
use Rattle.mb_blocks.proofs.Listing.{chain_freed}
use Rattle.mb_blocks.proofs.Pointing.{at_alike, its_pointers}
use Rattle.mb_blocks.proofs.Rearranged.{all_moved, all_right, first_other, moved_had, moved_has, once_moved}

pub same_list : (old new : ℕ → List ℕ) (b : ℕ) → new b ≡ old b → list_in old b ≡ list_in new b
same_list old new b e = ap (λ (bytes : List ℕ). record { count = chain_count bytes; entry = chain_entry bytes }) (sym e)

module _ (has : ℕ → Bool) (old new : ℕ → List ℕ) (block : ℕ) (loose chain : List ℕ) (laid : IsLaid has old (block ∷ loose) chain) (freed : IsFreed old new block) where
  hand : IsOpenToFiles old block
  hand = All-head (IsOpenToFiles old) block (loose ++ chain) laid.spare.in_range

  free_of_places : IsBare has old block
  free_of_places = All-head (IsBare has old) block (loose ++ chain) laid.spare.bare

  open_off : (other : ℕ) → IsOpenToFiles old other → other ≢ block → new other ≡ old other
  open_off other is apart = freed.others other (let from = is.from in let wide = laid.wide in omega (arith, from, wide)) apart

  pub freed_held : KeepsHeld has old new
  freed_held = record {
    tops = λ ino p h low. ap (λ (bytes : List ℕ). address_of bytes (inode_place ino) p)
        (freed.others (inode_block ino) (omega arith) (let within = laid.inodes ino h in let from = hand.from in omega (arith, within.1, from)));
    blocks = λ q h some. open_off (at (pointers old) q) (laid.in_range q h some) (free_of_places q h);
  }

  others_in_chain : All (λ b. block ≢ b) chain
  others_in_chain = all_right (λ b. block ≢ b) loose chain (first_other block (loose ++ chain) laid.spare.once)

  open_chain : All (IsOpenToFiles old) chain
  open_chain = all_right (IsOpenToFiles old) loose chain (All-tail (IsOpenToFiles old) block (loose ++ chain) laid.spare.in_range)

  lists_same : All (λ b. list_in old b ≡ list_in new b) chain
  lists_same i d within = same_list old new _ (open_off _ (open_chain i d within) (λ e. others_in_chain i d within (sym e)))

  free_now : IsFreeChain new (block ∷ chain)
  free_now = chain_freed (first_list old) block (list_in old) (list_in new) (first_list new) chain
      (let from = hand.from in let wide = laid.wide in omega (arith, from, wide)) freed.list freed.copied lists_same laid.free

  sized_now : (other : ℕ) → length (new other) ≡ 512
  sized_now other = elim (cases_eq other 1) [
    | inl is ↦ ap (λ b. length (new b)) is ∙ freed.sized
    | inr off ↦ elim (cases_eq other block) [
      | inl is ↦ ap (λ b. length (new b)) is ∙ freed.filled
      | inr apart ↦ ap length (freed.others other off apart) ∙ laid.sized other
    ]
  ]

  moved : AreSpare has old (loose ++ block ∷ chain)
  moved = record {
    in_range = all_moved (IsOpenToFiles old) block loose chain laid.spare.in_range;
    once = once_moved block loose chain laid.spare.once;
    bare = all_moved (IsBare has old) block loose chain laid.spare.bare;
  }

  -- the block is the chain's first
  pub laid_freed : IsLaid has new loose (block ∷ chain)
  laid_freed = laid_kept has old new freed.front (its_pointers has old new freed_held) (block ∷ loose) chain loose (block ∷ chain) laid sized_now free_now moved

  same_at : (q : Place) → IsPlace has q → at (pointers new) q ≡ at (pointers old) q
  same_at q h = at_alike has old new (its_pointers has old new freed_held) q h

  -- the same blocks are accounted for
  pub had_still : (other : ℕ) → IsHad has old (block ∷ (loose ++ chain)) other → IsHad has new (loose ++ block ∷ chain) other
  had_still other (by_place q h e) = by_place q h (same_at q h ∙ e)
  had_still other (by_none among) = by_none (moved_has block loose chain other among)

  pub had_already : (other : ℕ) → IsHad has new (loose ++ block ∷ chain) other → IsHad has old (block ∷ (loose ++ chain)) other
  had_already other (by_place q h e) = by_place q h (sym (same_at q h) ∙ e)
  had_already other (by_none among) = by_none (moved_had block loose chain other among)
