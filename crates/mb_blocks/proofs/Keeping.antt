-- A volume's blocks stay laid where the addresses stay and the free chain is told.
use Rattle.std.proofs.Common.{ℕ, ◌≡◌, ◌<◌, ◌≤◌, Bool, true, List, ◌++◌, length, All, slice_index, refl, sym, ap, subst, ◌∙◌, arith}
use Rattle.std.proofs.lemmas.List.Elements.{All-weaker}
use Rattle.mb_word.specs.Fields.{isize_of, fsize_of, nfree_of, free_of, chain_count, chain_entry}
use Rattle.mb_word.specs.Numbers.{SameFrom}
use Rattle.mb_word.proofs.Values.{word_at-same, long_at-same}
use Rattle.mb_tree.specs.Blocks.{pointers, first_list, list_in, IsFreeChain}
use Rattle.mb_tree.specs.Places.{Place, at, IsPlace}
use Rattle.mb_tree.specs.Volume.{IsOpenToFiles}
use Rattle.mb_blocks.specs.FreeLists.{IsSameList}
use Rattle.mb_blocks.specs.Laid.{AreSpare, IsBare, IsLaid}
use Rattle.mb_blocks.specs.Pointing.{KeepsHeld, KeepsPointers}
use Rattle.mb_blocks.proofs.Listing.{chain_alike}
use Rattle.mb_blocks.proofs.Pointing.{at_alike, its_pointers}
use Rattle.mb_blocks.proofs.Rearranged.{all_right}

module _ (old new : ℕ → List ℕ) (front : SameFrom (new 1) (old 1) 0 6) where
  pub sizes_same : (isize_of (new 1) ≡ isize_of (old 1)) × (fsize_of (new 1) ≡ fsize_of (old 1))
  sizes_same = (
    word_at-same (new 1) (old 1) 0 (λ k low high. front k low (omega arith)),
    long_at-same (new 1) (old 1) 2 (λ k low high. front k (omega arith) (omega arith)),
  )

  pub open_same : (other : ℕ) → IsOpenToFiles old other → IsOpenToFiles new other
  open_same other is =
      let from = is.from in
      let below = is.below in
      let same = sizes_same in
      record { from = omega (arith, from, same.0); below = omega (arith, below, same.1) }

module _ (has : ℕ → Bool) (old new : ℕ → List ℕ) (front : SameFrom (new 1) (old 1) 0 6) (keeps : KeepsPointers has old new) where
  same_at : (q : Place) → IsPlace has q → at (pointers new) q ≡ at (pointers old) q
  same_at q h = at_alike has old new keeps q h

  pub spare_kept : (spare : List ℕ) → AreSpare has old spare → AreSpare has new spare
  spare_kept spare are = record {
    in_range = All-weaker (IsOpenToFiles old) (IsOpenToFiles new) (open_same old new front) spare are.in_range;
    once = are.once;
    bare = All-weaker (IsBare has old) (IsBare has new) (λ other bare q h e. bare q h (sym (same_at q h) ∙ e)) spare are.bare;
  }

  pub laid_kept : (loose chain left free : List ℕ) → IsLaid has old loose chain → ((block : ℕ) → length (new block) ≡ 512)
      → IsFreeChain new free → AreSpare has old (left ++ free) → IsLaid has new left free
  laid_kept loose chain left free laid sized listed spare = record {
    sized = sized;
    wide = (let was = laid.wide in let same = sizes_same old new front in omega (arith, was, same.0));
    inodes = λ ino h. (let was = laid.inodes ino h in let same = sizes_same old new front in (omega (arith, was.0), omega (arith, was.1, same.0)));
    in_range = λ q h some.
        (let e = same_at q h in
        subst (IsOpenToFiles new) (sym e) (open_same old new front (at (pointers old) q) (laid.in_range q h (omega (arith, some, e)))));
    once = λ q r h g some same.
        (let e = same_at q h in
        laid.once q r h g (omega (arith, some, e)) (sym e ∙ same ∙ same_at r g));
    free = listed;
    spare = spare_kept (left ++ free) spare;
  }

-- ---- a write in the i-list that sets no address

module _ (has : ℕ → Bool) (old new : ℕ → List ℕ) (loose chain : List ℕ) (laid : IsLaid has old loose chain) (first : new 1 ≡ old 1)
    (beyond : (block : ℕ) → isize_of (old 1) ≤ block → new block ≡ old block) (sized : (block : ℕ) → length (new block) ≡ 512)
    (tops : (ino p : ℕ) → has ino ≡ true → p < 13 → (pointers new).top ino p ≡ (pointers old).top ino p) where
  pub listed_held : KeepsHeld has old new
  listed_held = record { tops = tops; blocks = λ q h some. beyond (at (pointers old) q) (laid.in_range q h some).from }

  free_same : IsFreeChain new chain
  free_same =
      let open_chain : All (IsOpenToFiles old) chain = all_right (IsOpenToFiles old) loose chain laid.spare.in_range in
      chain_alike (list_in old) (list_in new) (first_list old) (first_list new) chain
      (All-weaker (IsOpenToFiles old) (λ b. list_in old b ≡ list_in new b)
      (λ b is. ap (λ (bytes : List ℕ). record { count = chain_count bytes; entry = chain_entry bytes }) (sym (beyond b is.from))) chain open_chain)
      (subst (λ (bytes : List ℕ). IsSameList (record { count = nfree_of bytes; entry = free_of bytes }) (first_list old)) (sym first) (record { count = refl; entry = λ j low. refl })) laid.free

  pub laid_listed : IsLaid has new loose chain
  laid_listed = laid_kept has old new (λ k low high. ap (λ (bytes : List ℕ). slice_index bytes k) first) (its_pointers has old new listed_held) loose chain loose chain laid sized free_same laid.spare
