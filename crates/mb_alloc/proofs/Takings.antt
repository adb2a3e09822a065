-- A block taken from the free chain: where its list keeps more, where the next list is copied in, and where none is left.
use Rattle.std.proofs.Common.{ℕ, ◌≡◌, ◌≢◌, ◌+◌, ◌-◌, ◌*◌, ◌<◌, ◌≤◌, ◌⊎◌, inl, inr, true, false, List, length, take, replicate, get_or, refl, sym, ap, subst, ◌∙◌, arith, nat_eq}
use Rattle.std.proofs.lemmas.Bool.{cases_eq}
use Rattle.std.proofs.lemmas.Bool.Decides.{nat_tests}
use Rattle.std.proofs.lemmas.List.{get_or-take}
use Rattle.mb_word.specs.Numbers.{word_at, long_at, put_at, word_bytes, SameFrom}
use Rattle.mb_word.specs.Fields.{nfree_of, free_of, chain_count}
use Rattle.mb_word.proofs.Writes.{put_at_same, put_at_in, length-put_at}
use Rattle.mb_word.proofs.Values.{word_back, long_at-same, length-word_bytes}
use Rattle.mb_layout.proofs.Steps.{word_alike, long_alike}
use Rattle.mb_tree.specs.Blocks.{first_list}
use Rattle.mb_tree.specs.Chain.{IsNext, after_taking}
use Rattle.mb_kinds.specs.Changed.{put_block}
use Rattle.mb_iface.proofs.ChangedBlocks.{put_block_same, put_block_other}
use Rattle.mb_blocks.specs.FreeLists.{IsTaken}
use Rattle.mb_kinds.specs.Image.{zeros}
use Rattle.mb_blocks.specs.Growing.{IsZeroed}
use Rattle.mb_blocks.specs.Rules.{KeepsRules}
use Rattle.mb_alloc.specs.Taking.{IsNextBehind, IsTakenZeroed}

pub too_many : (blocks : ℕ → List ℕ) (count : ℕ) → KeepsRules blocks → count ≡ word_at (blocks 1) 6 → 50 < count → ⊥
too_many blocks count keeps reads many = (let few = keeps.counts 0 tt in absurd (omega (arith, few, reads, many)))

pub out_far : (blocks : ℕ → List ℕ) (count block : ℕ) → KeepsRules blocks → count ≡ word_at (blocks 1) 6 → count ≢ 0 → block ≡ long_at (blocks 1) (4 + 4 * count) → block ≢ 0 → 262144 ≤ block → ⊥
out_far blocks count block keeps reads some stands real far =
    let here : free_of (blocks 1) (count - 1) ≡ block = ap (long_at (blocks 1)) (omega (arith, some)) ∙ sym stands in
    elim (keeps.listed 0 (count - 1) tt (omega (arith, reads, some))) [
      | inl last ↦ (let none = last.1 in real (omega (arith, none, here)))
      | inr open_to ↦ (let below = open_to.below in let few = keeps.few_blocks in absurd (omega (arith, below, few, here, far)))
    ]

pub next_is : (blocks : ℕ → List ℕ) (count block : ℕ) → count ≡ word_at (blocks 1) 6 → count ≢ 0 → count ≤ 50 → block ≡ long_at (blocks 1) (4 + 4 * count) → block ≢ 0 → IsNext (first_list blocks) block
next_is blocks count block reads some few stands real =
    record { some = omega (arith, reads, some); few = omega (arith, reads, few); here = ap (long_at (blocks 1)) (omega (arith, reads, some)) ∙ sym stands; real = omega (arith, real) }

module _ (old new : ℕ → List ℕ) (bytes : List ℕ) (long : length (old 1) ≡ 512) (short : length bytes ≤ 202) (wrote : new ≡ put_block old 1 (put_at (old 1) 6 bytes)) where
  first : new 1 ≡ put_at (old 1) 6 bytes
  first = ap (λ f. f 1) wrote ∙ put_block_same old 1 (put_at (old 1) 6 bytes)

  off : (from n : ℕ) → (from + n ≤ 6) ⊎ (6 + length bytes ≤ from) → SameFrom (new 1) (old 1) from n
  off from n away k lo hi = ap (λ b. get_or b k 0) first ∙ put_at_same (old 1) 6 bytes from n (omega (arith, long, short)) away k lo hi

  sized_now : length (new 1) ≡ 512
  sized_now = ap length first ∙ length-put_at (old 1) 6 bytes (omega (arith, long, short)) ∙ long

  others_now : (other : ℕ) → other ≢ 1 → new other ≡ old other
  others_now other apart = ap (λ f. f other) wrote ∙ put_block_other old 1 (put_at (old 1) 6 bytes) other apart

pub taken_more : (old new : ℕ → List ℕ) (block left : ℕ) (low : List ℕ) → KeepsRules old → IsNextBehind old block left → 0 < left → low ≡ word_bytes left
    → new ≡ put_block old 1 (put_at (old 1) 6 low) → IsTaken old new block
unfolding after_taking
taken_more old new block left low keeps is some bytes wrote =
    let long = keeps.sized 1 in
    let two : length low ≡ 2 = ap length bytes ∙ length-word_bytes left in
    let short : length low ≤ 202 = omega (arith, two) in
    let reads : nfree_of (old 1) ≡ left + 1 = is.behind in
    let few : nfree_of (old 1) ≤ 50 = is.next.few in
    let counted : nfree_of (new 1) ≡ left = ap (λ b. word_at b 6) (first old new low long short wrote ∙ ap (put_at (old 1) 6) bytes) ∙ word_back (old 1) 6 left (omega (arith, long)) (omega (arith, reads, few)) in
    let more : nat_eq (nfree_of (old 1)) 1 ≡ false = grind (arith, nat_tests) in
    record {
      next = is.next;
      list = rw more (record {
        count = counted ∙ omega (arith, reads);
        entry = λ k below. long_at-same (new 1) (old 1) (8 + 4 * k) (off old new low long short wrote (8 + 4 * k) 4 (inr (omega (arith, two))));
      });
      sized = sized_now old new low long short wrote;
      front = off old new low long short wrote 0 6 (inl (omega arith));
      back = off old new low long short wrote 208 304 (inr (omega (arith, two)));
      others = others_now old new low long short wrote;
    }

pub taken_last : (old new : ℕ → List ℕ) (block left : ℕ) (list : List ℕ) → KeepsRules old → IsNextBehind old block left → left ≡ 0 → list ≡ take 202 (old block) → length list ≡ 202
    → new ≡ put_block old 1 (put_at (old 1) 6 list) → IsTaken old new block
unfolding after_taking
taken_last old new block left list keeps is none copied whole wrote =
    let long = keeps.sized 1 in
    let short : length list ≤ 202 = omega (arith, whole) in
    let reads : nfree_of (old 1) ≡ left + 1 = is.behind in
    let at_first : 0 ≡ nfree_of (old 1) - 1 = omega (arith, reads, none) in
    let here : free_of (old 1) 0 ≡ block = ap (free_of (old 1)) at_first ∙ is.next.here in
    let real = is.next.real in
    let few : chain_count (old block) ≤ 50 = subst (λ b. chain_count (old b) ≤ 50) here (keeps.counts 1 (tt, omega (arith, reads), λ none. absurd (omega (arith, here, none, real)))) in
    let last : nat_eq (nfree_of (old 1)) 1 ≡ true = grind (arith, nat_tests) in
    let alike : (i j : ℕ) → i ≡ 6 + j → j < 202 → get_or (new 1) i 0 ≡ get_or (old block) j 0 = λ i j e below.
    ap (λ b. get_or b i 0) (first old new list long short wrote) ∙ ap (λ x. get_or (put_at (old 1) 6 list) x 0) e ∙ put_at_in (old 1) 6 list j (omega (arith, long, short)) (omega (arith, whole, below))
    ∙ ap (λ l. get_or l j 0) copied ∙ get_or-take 202 (old block) j 0 below in
    record {
      next = is.next;
      list = rw last (record {
        count = word_alike (new 1) (old block) 6 0 (λ j low. alike (6 + j) (0 + j) (omega arith) (omega (arith, low)));
        entry = λ k below. long_alike (new 1) (old block) (8 + 4 * k) (2 + 4 * k) (λ j low. alike (8 + 4 * k + j) (2 + 4 * k + j) (omega arith) (omega (arith, low, below, few)));
      });
      sized = sized_now old new list long short wrote;
      front = off old new list long short wrote 0 6 (inl (omega arith));
      back = off old new list long short wrote 208 304 (inr (omega (arith, whole)));
      others = others_now old new list long short wrote;
    }

-- the next block is not the super-block
pub not_first : (blocks : ℕ → List ℕ) (block : ℕ) → KeepsRules blocks → IsNext (first_list blocks) block → block ≢ 1
not_first blocks block keeps next is =
    let some = next.some in
    let here = next.here in
    let real = next.real in
    let size = keeps.some_inodes in
    elim (keeps.listed 0 (nfree_of (blocks 1) - 1) tt (omega (arith, some))) [
      | inl last ↦ (let none = last.1 in absurd (omega (arith, none, here, real)))
      | inr open_to ↦ (let from = open_to.from in absurd (omega (arith, from, size, here, is)))
    ]

-- a block filled with zeros before bytes of the super-block are changed is filled after that
pub zeroed_before : (old new : ℕ → List ℕ) (block : ℕ) (bytes : List ℕ) → block ≢ 1
    → new ≡ put_block (put_block old block (replicate 512 0)) 1 (put_at (put_block old block (replicate 512 0) 1) 6 bytes) → IsZeroed (put_block old 1 (put_at (old 1) 6 bytes)) new block
unfolding zeros
zeroed_before old new block bytes apart wrote =
    let filled = put_block old block (replicate 512 0) in
    let was = put_at (old 1) 6 bytes in
    let now = put_at (filled 1) 6 bytes in
    let same : now ≡ was = ap (λ b. put_at b 6 bytes) (put_block_other old block (replicate 512 0) 1 (λ e. apart (sym e))) in
    record {
      here = ap (λ f. f block) wrote ∙ put_block_other filled 1 now block apart ∙ put_block_same old block (replicate 512 0);
      others = λ other off. ap (λ f. f other) wrote ∙ elim (cases_eq other 1) [
        | inl one ↦ ap (put_block filled 1 now) one ∙ put_block_same filled 1 now ∙ same ∙ sym (put_block_same old 1 was) ∙ ap (put_block old 1 was) (sym one)
        | inr away ↦ put_block_other filled 1 now other away ∙ put_block_other old block (replicate 512 0) other off ∙ sym (put_block_other old 1 was other away)
      ];
    }

pub taken_zeroed_more : (old new : ℕ → List ℕ) (block left : ℕ) (low : List ℕ) → KeepsRules old → IsNextBehind old block left → 0 < left → low ≡ word_bytes left
    → new ≡ put_block (put_block old block (replicate 512 0)) 1 (put_at (put_block old block (replicate 512 0) 1) 6 low) → IsTakenZeroed old new block
taken_zeroed_more old new block left low keeps is some bytes wrote = record {
  between = put_block old 1 (put_at (old 1) 6 low);
  taken = taken_more old (put_block old 1 (put_at (old 1) 6 low)) block left low keeps is some bytes refl;
  zeroed = zeroed_before old new block low (not_first old block keeps is.next) wrote;
}

pub taken_zeroed_last : (old new : ℕ → List ℕ) (block left : ℕ) (list : List ℕ) → KeepsRules old → IsNextBehind old block left → left ≡ 0 → list ≡ take 202 (old block) → length list ≡ 202
    → new ≡ put_block (put_block old block (replicate 512 0)) 1 (put_at (put_block old block (replicate 512 0) 1) 6 list) → IsTakenZeroed old new block
taken_zeroed_last old new block left list keeps is none copied whole wrote = record {
  between = put_block old 1 (put_at (old 1) 6 list);
  taken = taken_last old (put_block old 1 (put_at (old 1) 6 list)) block left list keeps is none copied whole refl;
  zeroed = zeroed_before old new block list (not_first old block keeps is.next) wrote;
}
