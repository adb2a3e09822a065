-- A block put back on the free chain: on an empty list, on a full one, and on any other.
use Rattle.std.proofs.Common.{ℕ, ◌≡◌, ◌≢◌, ◌+◌, ◌*◌, ◌<◌, ◌≤◌, ◌⊎◌, inl, inr, true, false, List, [], ◌∷◌, length, take, drop, get_or, sym, ap, subst, ◌∙◌, arith, nat_eq, cond}
use Rattle.std.proofs.lemmas.Bool.{cases_eq}
use Rattle.std.proofs.lemmas.Bool.Decides.{nat_tests}
use Rattle.std.proofs.lemmas.List.{get_or-take, get_or-drop}
use Rattle.mb_word.specs.Numbers.{word_at, long_at, put_at, word_bytes, long_bytes, SameFrom}
use Rattle.mb_word.specs.Fields.{nfree_of}
use Rattle.mb_word.proofs.Writes.{put_at_same, put_at_in, length-put_at}
use Rattle.mb_word.proofs.Values.{word_back, long_back, word_at-same, long_at-same, length-word_bytes, length-long_bytes}
use Rattle.mb_layout.proofs.Steps.{word_alike, long_alike}
use Rattle.mb_tree.specs.Blocks.{first_list}
use Rattle.mb_tree.specs.Chain.{Listed}
use Rattle.mb_kinds.specs.Changed.{put_block}
use Rattle.mb_iface.proofs.ChangedBlocks.{put_block_same, put_block_other}
use Rattle.mb_blocks.specs.FreeLists.{IsSameList, IsFreed, pushed, ended, emptied, after_freeing}
use Rattle.mb_blocks.specs.Rules.{KeepsRules}
use Rattle.mb_alloc.specs.Freeing.{IsPutBack}

-- the list that is left, by the count before
after_none : (it : Listed) (block : ℕ) → it.count ≡ 0 → after_freeing it block ≡ pushed ended block
unfolding after_freeing
after_none it block none = (let t : nat_eq it.count 0 ≡ true = grind (arith, nat_tests) in ap (λ b. pushed (cond b ended (cond (nat_eq it.count 50) emptied it)) block) t)

after_full : (it : Listed) (block : ℕ) → it.count ≡ 50 → after_freeing it block ≡ pushed emptied block
unfolding after_freeing
after_full it block full =
    let t : nat_eq it.count 0 ≡ false = grind (arith, nat_tests) in
    let u : nat_eq it.count 50 ≡ true = grind (arith, nat_tests) in
    ap (λ b. pushed (cond b ended (cond (nat_eq it.count 50) emptied it)) block) t ∙ ap (λ b. pushed (cond b emptied it) block) u

after_some : (it : Listed) (block : ℕ) → it.count ≢ 0 → it.count ≢ 50 → after_freeing it block ≡ pushed it block
unfolding after_freeing
after_some it block some room =
    let t : nat_eq it.count 0 ≡ false = grind (arith, nat_tests) in
    let u : nat_eq it.count 50 ≡ false = grind (arith, nat_tests) in
    ap (λ b. pushed (cond b ended (cond (nat_eq it.count 50) emptied it)) block) t ∙ ap (λ b. pushed (cond b emptied it) block) u

-- a list with these entries is a list with one address more
pushed_is : (like it : Listed) (block : ℕ) → like.count ≡ it.count + 1 → like.entry it.count ≡ block → ((k : ℕ) → k < it.count → like.entry k ≡ it.entry k) → IsSameList like (pushed it block)
pushed_is like it block count last before = record {
  count = count;
  entry = λ k below. elim (cases_eq k it.count) [
    | inl is ↦ (let t : nat_eq k it.count ≡ true = grind (arith, nat_tests) in ap like.entry is ∙ last ∙ ap (λ b. cond b block (it.entry k)) (sym t))
    | inr apart ↦ (let t : nat_eq k it.count ≡ false = grind (arith, nat_tests) in before k (omega (arith, below, apart)) ∙ ap (λ b. cond b block (it.entry k)) (sym t))
  ];
}

long_in : (b : List ℕ) (at : ℕ) (xs : List ℕ) (i j : ℕ) → at + length xs ≤ length b → j + 4 ≤ length xs → i ≡ at + j → long_at (put_at b at xs) i ≡ long_at xs j
long_in b at xs i j fits low e = long_alike (put_at b at xs) xs i j (λ k below. ap (λ x. get_or (put_at b at xs) x 0) (omega (arith, e)) ∙ put_at_in b at xs (j + k) fits (omega (arith, below, low)))

word_in : (b : List ℕ) (at : ℕ) (xs : List ℕ) (i j : ℕ) → at + length xs ≤ length b → j + 2 ≤ length xs → i ≡ at + j → word_at (put_at b at xs) i ≡ word_at xs j
word_in b at xs i j fits low e = word_alike (put_at b at xs) xs i j (λ k below. ap (λ x. get_or (put_at b at xs) x 0) (omega (arith, e)) ∙ put_at_in b at xs (j + k) fits (omega (arith, below, low)))

-- an empty list becomes the one that ends the chain, and the block stands behind
pub freed_none : (old new : ℕ → List ℕ) (count block : ℕ) (z one two list : List ℕ) → KeepsRules old → count ≡ word_at (old 1) 6 → count ≡ 0 → 1 < block → block < 262144
    → length z ≡ 10 → one ≡ put_at z 0 (word_bytes 2) → two ≡ put_at one 2 (long_bytes 0) → list ≡ put_at two 6 (long_bytes block)
    → new ≡ put_block old 1 (put_at (old 1) 6 list) → IsFreed old new block
freed_none old new count block z one two list keeps reads none real small zs e1 e2 e3 wrote =
    let long = keeps.sized 1 in
    let w2 = length-word_bytes 2 in
    let l0 = length-long_bytes 0 in
    let lb = length-long_bytes block in
    let s1 : length one ≡ 10 = ap length e1 ∙ length-put_at z 0 (word_bytes 2) (omega (arith, zs, w2)) ∙ zs in
    let s2 : length two ≡ 10 = ap length e2 ∙ length-put_at one 2 (long_bytes 0) (omega (arith, s1, l0)) ∙ s1 in
    let s3 : length list ≡ 10 = ap length e3 ∙ length-put_at two 6 (long_bytes block) (omega (arith, s2, lb)) ∙ s2 in
    let first : new 1 ≡ put_at (old 1) 6 list = ap (λ f. f 1) wrote ∙ put_block_same old 1 (put_at (old 1) 6 list) in
    let off : (from n : ℕ) → (from + n ≤ 6) ⊎ (16 ≤ from) → SameFrom (new 1) (old 1) from n = λ from n away k lo hi.
    ap (λ b. get_or b k 0) first ∙ put_at_same (old 1) 6 list from n (omega (arith, long, s3)) (elim away [ inl a ↦ inl a | inr a ↦ inr (omega (arith, a, s3)) ]) k lo hi in
    let count_now : word_at (new 1) 6 ≡ 2 =
    ap (λ b. word_at b 6) first ∙ word_in (old 1) 6 list 6 0 (omega (arith, long, s3)) (omega (arith, s3)) (omega arith)
    ∙ ap (λ b. word_at b 0) e3 ∙ word_at-same (put_at two 6 (long_bytes block)) two 0 (put_at_same two 6 (long_bytes block) 0 2 (omega (arith, s2, lb)) (inl (omega arith)))
    ∙ ap (λ b. word_at b 0) e2 ∙ word_at-same (put_at one 2 (long_bytes 0)) one 0 (put_at_same one 2 (long_bytes 0) 0 2 (omega (arith, s1, l0)) (inl (omega arith)))
    ∙ ap (λ b. word_at b 0) e1 ∙ word_back z 0 2 (omega (arith, zs)) (omega arith) in
    let end_now : long_at (new 1) 8 ≡ 0 =
    ap (λ b. long_at b 8) first ∙ long_in (old 1) 6 list 8 2 (omega (arith, long, s3)) (omega (arith, s3)) (omega arith)
    ∙ ap (λ b. long_at b 2) e3 ∙ long_at-same (put_at two 6 (long_bytes block)) two 2 (put_at_same two 6 (long_bytes block) 2 4 (omega (arith, s2, lb)) (inl (omega arith)))
    ∙ ap (λ b. long_at b 2) e2 ∙ long_back one 2 0 (omega (arith, s1)) (omega arith) in
    let last_now : long_at (new 1) 12 ≡ block =
    ap (λ b. long_at b 12) first ∙ long_in (old 1) 6 list 12 6 (omega (arith, long, s3)) (omega (arith, s3)) (omega arith)
    ∙ ap (λ b. long_at b 6) e3 ∙ long_back two 6 block (omega (arith, s2)) (omega (arith, small)) in
    let is : nfree_of (old 1) ≡ 0 = sym reads ∙ none in
    record {
      list = subst (λ (x : Listed). IsSameList (first_list new) x) (sym (after_none (first_list old) block is))
          (pushed_is (first_list new) ended block count_now last_now (λ k below. ap (λ i. long_at (new 1) i) (omega (arith, below)) ∙ end_now));
      copied = λ full. absurd (omega (arith, is, full));
      sized = ap length first ∙ length-put_at (old 1) 6 list (omega (arith, long, s3)) ∙ long;
      filled = ap length (ap (λ f. f block) wrote ∙ put_block_other old 1 (put_at (old 1) 6 list) block (omega (arith, real))) ∙ keeps.sized block;
      front = off 0 6 (inl (omega arith));
      back = off 208 304 (inr (omega arith));
      others = λ other apart beside. ap (λ f. f other) wrote ∙ put_block_other old 1 (put_at (old 1) 6 list) other apart;
    }

-- a list with room gets the block as its last
pub freed_some : (old new : ℕ → List ℕ) (count block : ℕ) (z address more : List ℕ) → KeepsRules old → count ≡ word_at (old 1) 6 → count ≢ 0 → count < 50 → 1 < block → block < 262144
    → length z ≡ 4 → address ≡ put_at z 0 (long_bytes block) → more ≡ (count + 1) ∷ 0 ∷ []
    → new ≡ put_block old 1 (put_at (put_at (old 1) (8 + 4 * count) address) 6 more) → IsFreed old new block
unfolding word_at
freed_some old new count block z address more keeps reads some room real small zs e1 e2 wrote =
    let long = keeps.sized 1 in
    let lb = length-long_bytes block in
    let s1 : length address ≡ 4 = ap length e1 ∙ length-put_at z 0 (long_bytes block) (omega (arith, zs, lb)) ∙ zs in
    let s2 : length more ≡ 2 = ap length e2 in
    let sm : length (put_at (old 1) (8 + 4 * count) address) ≡ 512 = length-put_at (old 1) (8 + 4 * count) address (omega (arith, long, s1, room)) ∙ long in
    let first : new 1 ≡ put_at (put_at (old 1) (8 + 4 * count) address) 6 more = ap (λ f. f 1) wrote ∙ put_block_same old 1 (put_at (put_at (old 1) (8 + 4 * count) address) 6 more) in
    let off_more : (from n : ℕ) → (from + n ≤ 6) ⊎ (8 ≤ from) → SameFrom (new 1) (put_at (old 1) (8 + 4 * count) address) from n = λ from n away k lo hi.
    ap (λ b. get_or b k 0) first ∙ put_at_same (put_at (old 1) (8 + 4 * count) address) 6 more from n (omega (arith, sm, s2)) (elim away [ inl a ↦ inl a | inr a ↦ inr (omega (arith, a, s2)) ]) k lo hi in
    let off : (from n : ℕ) → (from + n ≤ 6) ⊎ (8 ≤ from) → (from + n ≤ 8 + 4 * count) ⊎ (12 + 4 * count ≤ from) → SameFrom (new 1) (old 1) from n = λ from n away apart k lo hi.
    off_more from n away k lo hi ∙ put_at_same (old 1) (8 + 4 * count) address from n (omega (arith, long, s1, room)) (elim apart [ inl a ↦ inl a | inr a ↦ inr (omega (arith, a, s1)) ]) k lo hi in
    let count_now : word_at (new 1) 6 ≡ count + 1 =
    ap (λ b. word_at b 6) first ∙ word_in (put_at (old 1) (8 + 4 * count) address) 6 more 6 0 (omega (arith, sm, s2)) (omega (arith, s2)) (omega arith) ∙ ap (λ b. word_at b 0) e2 ∙ omega arith in
    let last_now : long_at (new 1) (8 + 4 * count) ≡ block =
    long_at-same (new 1) (put_at (old 1) (8 + 4 * count) address) (8 + 4 * count) (off_more (8 + 4 * count) 4 (inr (omega arith)))
    ∙ long_in (old 1) (8 + 4 * count) address (8 + 4 * count) 0 (omega (arith, long, s1, room)) (omega (arith, s1)) (omega arith)
    ∙ ap (λ b. long_at b 0) e1 ∙ long_back z 0 block (omega (arith, zs)) (omega (arith, small)) in
    let is : nfree_of (old 1) ≡ count = sym reads in
    record {
      list = subst (λ (x : Listed). IsSameList (first_list new) x) (sym (after_some (first_list old) block (omega (arith, is, some)) (omega (arith, is, room))))
          (pushed_is (first_list new) (first_list old) block (count_now ∙ omega (arith, is)) (ap (λ i. long_at (new 1) i) (omega (arith, is)) ∙ last_now)
          (λ k below. long_at-same (new 1) (old 1) (8 + 4 * k) (off (8 + 4 * k) 4 (inr (omega arith)) (inl (omega (arith, below, is))))));
      copied = λ full. absurd (omega (arith, is, full, room));
      sized = ap length first ∙ length-put_at (put_at (old 1) (8 + 4 * count) address) 6 more (omega (arith, sm, s2)) ∙ sm;
      filled = ap length (ap (λ f. f block) wrote ∙ put_block_other old 1 (put_at (put_at (old 1) (8 + 4 * count) address) 6 more) block (omega (arith, real))) ∙ keeps.sized block;
      front = off 0 6 (inl (omega arith)) (inl (omega arith));
      back = off 208 304 (inr (omega arith)) (inr (omega (arith, room)));
      others = λ other apart beside. ap (λ f. f other) wrote ∙ put_block_other old 1 (put_at (put_at (old 1) (8 + 4 * count) address) 6 more) other apart;
    }

-- a full list moves into the block, which leads to it
pub freed_full : (old new : ℕ → List ℕ) (count block : ℕ) (z held zl one list : List ℕ) → KeepsRules old → count ≡ word_at (old 1) 6 → count ≡ 50 → 1 < block → block < 262144
    → length z ≡ 512 → held ≡ put_at z 0 (take 202 (drop 6 (old 1))) → length (take 202 (drop 6 (old 1))) ≡ 202
    → length zl ≡ 6 → one ≡ put_at zl 0 (word_bytes 1) → list ≡ put_at one 2 (long_bytes block)
    → new ≡ put_block (put_block old block held) 1 (put_at (put_block old block held 1) 6 list) → IsFreed old new block
freed_full old new count block z held zl one list keeps reads full real small zs e1 short zls e2 e3 wrote =
    let long = keeps.sized 1 in
    let w1 = length-word_bytes 1 in
    let lb = length-long_bytes block in
    let s1 : length one ≡ 6 = ap length e2 ∙ length-put_at zl 0 (word_bytes 1) (omega (arith, zls, w1)) ∙ zls in
    let s2 : length list ≡ 6 = ap length e3 ∙ length-put_at one 2 (long_bytes block) (omega (arith, s1, lb)) ∙ s1 in
    let sh : length held ≡ 512 = ap length e1 ∙ length-put_at z 0 (take 202 (drop 6 (old 1))) (omega (arith, zs, short)) ∙ zs in
    let two = put_at (put_block old block held 1) 6 list in
    let first : new 1 ≡ put_at (old 1) 6 list = ap (λ f. f 1) wrote ∙ put_block_same (put_block old block held) 1 two ∙ ap (λ b. put_at b 6 list) (put_block_other old block held 1 (omega (arith, real))) in
    let here : new block ≡ held = ap (λ f. f block) wrote ∙ put_block_other (put_block old block held) 1 two block (omega (arith, real)) ∙ put_block_same old block held in
    let off : (from n : ℕ) → (from + n ≤ 6) ⊎ (12 ≤ from) → SameFrom (new 1) (old 1) from n = λ from n away k lo hi.
    ap (λ b. get_or b k 0) first ∙ put_at_same (old 1) 6 list from n (omega (arith, long, s2)) (elim away [ inl a ↦ inl a | inr a ↦ inr (omega (arith, a, s2)) ]) k lo hi in
    let count_now : word_at (new 1) 6 ≡ 1 =
    ap (λ b. word_at b 6) first ∙ word_in (old 1) 6 list 6 0 (omega (arith, long, s2)) (omega (arith, s2)) (omega arith)
    ∙ ap (λ b. word_at b 0) e3 ∙ word_at-same (put_at one 2 (long_bytes block)) one 0 (put_at_same one 2 (long_bytes block) 0 2 (omega (arith, s1, lb)) (inl (omega arith)))
    ∙ ap (λ b. word_at b 0) e2 ∙ word_back zl 0 1 (omega (arith, zls)) (omega arith) in
    let last_now : long_at (new 1) 8 ≡ block =
    ap (λ b. long_at b 8) first ∙ long_in (old 1) 6 list 8 2 (omega (arith, long, s2)) (omega (arith, s2)) (omega arith)
    ∙ ap (λ b. long_at b 2) e3 ∙ long_back one 2 block (omega (arith, s1)) (omega (arith, small)) in
    let alike : (i j : ℕ) → j ≡ 6 + i → i < 202 → get_or (new block) i 0 ≡ get_or (old 1) j 0 = λ i j e below.
    ap (λ b. get_or b i 0) (here ∙ e1) ∙ ap (λ x. get_or (put_at z 0 (take 202 (drop 6 (old 1)))) x 0) (omega arith) ∙ put_at_in z 0 (take 202 (drop 6 (old 1))) i (omega (arith, zs, short)) (omega (arith, short, below))
    ∙ get_or-take 202 (drop 6 (old 1)) i 0 below ∙ get_or-drop 6 (old 1) i 0 ∙ ap (λ x. get_or (old 1) x 0) (sym e) in
    let is : nfree_of (old 1) ≡ 50 = sym reads ∙ full in
    record {
      list = subst (λ (x : Listed). IsSameList (first_list new) x) (sym (after_full (first_list old) block is))
          (pushed_is (first_list new) emptied block count_now last_now (λ k below. absurd (omega (arith, below))));
      copied = λ full. record {
        count = word_alike (new block) (old 1) 0 6 (λ j low. alike (0 + j) (6 + j) (omega arith) (omega (arith, low)));
        entry = λ k below. long_alike (new block) (old 1) (2 + 4 * k) (8 + 4 * k) (λ j low. alike (2 + 4 * k + j) (8 + 4 * k + j) (omega arith) (omega (arith, low, below, is)));
      };
      sized = ap length first ∙ length-put_at (old 1) 6 list (omega (arith, long, s2)) ∙ long;
      filled = ap length here ∙ sh;
      front = off 0 6 (inl (omega arith));
      back = off 208 304 (inr (omega arith));
      others = λ other apart beside. ap (λ f. f other) wrote ∙ put_block_other (put_block old block held) 1 two other apart ∙ put_block_other old block held other beside;
    }

-- a list that had room leaves the block's own bytes
pub put_back : (old new : ℕ → List ℕ) (block : ℕ) (bytes : List ℕ) → 1 < block → new ≡ put_block old 1 bytes → IsFreed old new block → IsPutBack old new block
put_back old new block bytes real wrote freed = record { freed = freed; kept = λ room. ap (λ f. f block) wrote ∙ put_block_other old 1 bytes block (omega (arith, real)) }

pub put_back_full : (old new : ℕ → List ℕ) (count block : ℕ) → count ≡ word_at (old 1) 6 → count ≡ 50 → IsFreed old new block → IsPutBack old new block
put_back_full old new count block reads full freed = record { freed = freed; kept = λ room. absurd (room (sym reads ∙ full)) }
