-- A block's address behind those of the super-block's list, by the bytes of block 1.
use Rattle.std.proofs.Common.{ℕ, suc, ◌≡◌, ◌≢◌, ◌+◌, ◌-◌, ◌*◌, ◌<◌, ◌≤◌, ◌⊎◌, inl, inr, true, false, cond, nat_eq, max, List, [], ◌∷◌, ◌++◌, length, take, drop, get_or, refl, sym, ap, subst, ◌∙◌, arith, take-suc}
use Rattle.std.proofs.lemmas.Bool.{cases_eq, cases_lt}
use Rattle.std.proofs.lemmas.Bool.Decides.{nat_tests}
use Rattle.mb_word.specs.Numbers.{word_at, long_at, put_at, word_bytes, long_bytes, SameFrom}
use Rattle.mb_word.specs.Fields.{nfree_of, free_of, chain_count, chain_entry}
use Rattle.mb_word.proofs.Parts.{get_or-part, length-part}
use Rattle.mb_word.proofs.Writes.{put_at_in, put_at_is, put_at_kept, put_at_same, length-put_at}
use Rattle.mb_word.proofs.Values.{word_back, long_back, long_at-same, word_at-same, length-word_bytes, length-long_bytes}
use Rattle.mb_layout.proofs.Steps.{Alike, alike_part, word_alike, long_alike}
use Rattle.mb_tree.specs.Chain.{Listed}
use Rattle.mb_kinds.specs.Changed.{put_block}
use Rattle.mb_iface.proofs.ChangedBlocks.{put_block_same, put_block_other}
use Rattle.mb_blocks.specs.FreeLists.{IsSameList, pushed, ended, emptied, after_freeing}
use Rattle.mb_file.specs.Freeing.{HangsOne, HangsEach, MovesList}

-- the list that a super-block's bytes hold
abbrev listed_in : List ℕ → Listed
listed_in first = record { count = nfree_of first; entry = free_of first }

-- the list behind which an address is put: an empty one gets the end first
abbrev before_it : Listed → Listed
before_it it = cond (nat_eq it.count 0) ended it

after_room : (it : Listed) (block : ℕ) → it.count ≢ 50 → after_freeing it block ≡ pushed (before_it it) block
unfolding after_freeing
after_room it block room =
    let t : nat_eq it.count 50 ≡ false = grind (arith, nat_tests) in
    ap (λ b. pushed (cond (nat_eq it.count 0) ended (cond b emptied it)) block) t

-- the same addresses and one more
pushed_same : (like ready it : Listed) (block : ℕ) → IsSameList ready it → like.count ≡ ready.count + 1 → like.entry ready.count ≡ block → ((k : ℕ) → k < ready.count → like.entry k ≡ ready.entry k) → IsSameList like (pushed it block)
pushed_same like ready it block same count last before =
    let many = same.count in
    record {
      count = omega (arith, count, many);
      entry = λ k below. elim (cases_eq k it.count) [
        | inl is ↦ (let t : nat_eq k it.count ≡ true = grind (arith, nat_tests) in ap like.entry (let e : k ≡ ready.count = omega (arith, is, many) in e) ∙ last ∙ ap (λ b. cond b block (it.entry k)) (sym t))
        | inr apart ↦
            (let t : nat_eq k it.count ≡ false = grind (arith, nat_tests) in
            before k (omega (arith, below, apart, many)) ∙ same.entry k (omega (arith, below, apart)) ∙ ap (λ b. cond b block (it.entry k)) (sym t))
      ];
    }

-- the bytes in which an address is written next, at this place
pub record IsReady (first ready : List ℕ) (count : ℕ) : Type 0 where
  pub sized : length ready ≡ 512
  pub front : SameFrom ready first 0 6
  pub back : SameFrom ready first 208 304
  pub listed : IsSameList (record { count = count; entry = free_of ready }) (before_it (listed_in first))

pub ready_none : (first ready : List ℕ) (held count : ℕ) → length first ≡ 512 → held ≡ nfree_of first → held ≡ 0 → count ≡ max held 1 → ready ≡ put_at first 8 (long_bytes 0) → IsReady first ready count
ready_none first ready held count long reads none is wrote =
    let l = length-long_bytes 0 in
    let one : count ≡ 1 = omega (arith, is, none) in
    let t : nat_eq (nfree_of first) 0 ≡ true = (let e : nfree_of first ≡ 0 = omega (arith, reads, none) in grind (arith, nat_tests)) in
    record {
      sized = ap length wrote ∙ length-put_at first 8 (long_bytes 0) (omega (arith, long, l)) ∙ long;
      front = λ k low high. ap (λ b. get_or b k 0) wrote ∙ put_at_same first 8 (long_bytes 0) 0 6 (omega (arith, long, l)) (inl (omega arith)) k low high;
      back = λ k low high. ap (λ b. get_or b k 0) wrote ∙ put_at_same first 8 (long_bytes 0) 208 304 (omega (arith, long, l)) (inr (omega (arith, l))) k low high;
      listed = subst (IsSameList (record { count = count; entry = free_of ready })) (sym (ap (λ b. cond b ended (listed_in first)) t)) (record {
        count = one;
        entry = λ k below. ap (λ i. long_at ready i) (let e : 8 + 4 * k ≡ 8 = omega (arith, below) in e) ∙ ap (λ b. long_at b 8) wrote ∙ long_back first 8 0 (omega (arith, long)) (omega arith);
      });
    }

pub ready_some : (first : List ℕ) (held count : ℕ) → length first ≡ 512 → held ≡ nfree_of first → held ≢ 0 → count ≡ max held 1 → IsReady first first count
ready_some first held count long reads some is =
    let t : nat_eq (nfree_of first) 0 ≡ false = (let e : nfree_of first ≢ 0 = omega (arith, reads, some) in grind (arith, nat_tests)) in
    record {
      sized = long;
      front = λ k low high. refl;
      back = λ k low high. refl;
      listed = subst (IsSameList (record { count = count; entry = free_of first })) (sym (ap (λ b. cond b ended (listed_in first)) t)) (record { count = omega (arith, reads, some, is); entry = λ k below. refl });
    }

module _ (first ready one two : List ℕ) (count block : ℕ) (is : IsReady first ready count) (few : nfree_of first < 50) (room : count < 50)
    (e1 : one ≡ put_at ready (8 + 4 * count) (long_bytes block)) (e2 : two ≡ put_at one 6 (word_bytes (count + 1))) where
  long_one : length one ≡ 512
  long_one = (let l = length-long_bytes block in let s = is.sized in ap length e1 ∙ length-put_at ready (8 + 4 * count) (long_bytes block) (omega (arith, s, l, room)) ∙ s)

  long_two : length two ≡ 512
  long_two = (let w = length-word_bytes (count + 1) in let s = long_one in ap length e2 ∙ length-put_at one 6 (word_bytes (count + 1)) (omega (arith, s, w)) ∙ s)

  off_count : (from n : ℕ) → (from + n ≤ 6) ⊎ (8 ≤ from) → SameFrom two one from n
  off_count from n away k low high =
      let w = length-word_bytes (count + 1) in
      let s = long_one in
      ap (λ b. get_or b k 0) e2 ∙ put_at_same one 6 (word_bytes (count + 1)) from n (omega (arith, s, w)) (elim away [ inl a ↦ inl a | inr a ↦ inr (omega (arith, a, w)) ]) k low high

  off_both : (from n : ℕ) → (from + n ≤ 6) ⊎ (8 ≤ from) → (from + n ≤ 8 + 4 * count) ⊎ (12 + 4 * count ≤ from) → SameFrom two ready from n
  off_both from n away apart k low high =
      let l = length-long_bytes block in
      let s = is.sized in
      off_count from n away k low high ∙ ap (λ b. get_or b k 0) e1
      ∙ put_at_same ready (8 + 4 * count) (long_bytes block) from n (omega (arith, s, l, room)) (elim apart [ inl a ↦ inl a | inr a ↦ inr (omega (arith, a, l)) ]) k low high

  pub count_now : nfree_of two ≡ count + 1
  count_now = (let s = long_one in ap (λ b. word_at b 6) e2 ∙ word_back one 6 (count + 1) (omega (arith, s)) (omega (arith, room)))

  last_now : block < 262144 → free_of two count ≡ block
  last_now small =
      let s = is.sized in
      long_at-same two one (8 + 4 * count) (off_count (8 + 4 * count) 4 (inr (omega arith))) ∙ ap (λ b. long_at b (8 + 4 * count)) e1 ∙ long_back ready (8 + 4 * count) block (omega (arith, s, room)) (omega (arith, small))

  list_now : block < 262144 → IsSameList (listed_in two) (pushed (before_it (listed_in first)) block)
  list_now small =
      pushed_same (listed_in two) (record { count = count; entry = free_of ready }) (before_it (listed_in first)) block is.listed count_now (last_now small)
      (λ k below. long_at-same two ready (8 + 4 * k) (off_both (8 + 4 * k) 4 (inr (omega arith)) (inl (omega (arith, below)))))

  pub hung : HangsOne first two block
  hung blocks here keeps real small =
      let new = put_block blocks 1 two in
      let now : put_block blocks 1 two 1 ≡ two = put_block_same blocks 1 two in
      let after : after_freeing (listed_in (blocks 1)) block ≡ pushed (before_it (listed_in first)) block = ap (λ b. after_freeing (listed_in b) block) here ∙ after_room (listed_in first) block (omega (arith, few)) in
      let s = long_two in
      record {
        list = subst (λ (b : List ℕ). IsSameList (listed_in b) (after_freeing (listed_in (blocks 1)) block)) (sym now) (subst (IsSameList (listed_in two)) (sym after) (list_now small));
        copied = λ full. absurd (let e : nfree_of (blocks 1) ≡ nfree_of first = ap nfree_of here in omega (arith, e, full, few));
        sized = ap length now ∙ s;
        filled = ap length (put_block_other blocks 1 two block (omega (arith, real))) ∙ keeps.sized block;
        front = λ k low high. ap (λ b. get_or b k 0) now ∙ off_both 0 6 (inl (omega arith)) (inl (omega arith)) k low high ∙ is.front k low high ∙ ap (λ b. get_or b k 0) (sym here);
        back = λ k low high. ap (λ b. get_or b k 0) now ∙ off_both 208 304 (inr (omega arith)) (inr (omega (arith, room))) k low high ∙ is.back k low high ∙ ap (λ b. get_or b k 0) (sym here);
        others = λ other apart beside. put_block_other blocks 1 two other apart;
      }

-- ---- addresses in a list with room, and their count at last

-- a count written over another one
count_over : (b w l v : List ℕ) (q : ℕ) → length b ≡ 512 → length w ≡ 2 → length v ≡ 2 → 8 ≤ q → q + length l ≤ 512 → put_at (put_at (put_at b 6 w) q l) 6 v ≡ put_at (put_at b q l) 6 v
count_over b w l v q long two too behind fits =
    let n1 : length (put_at b 6 w) ≡ 512 = length-put_at b 6 w (omega (arith, long, two)) ∙ long in
    let n2 : length (put_at (put_at b 6 w) q l) ≡ 512 = length-put_at (put_at b 6 w) q l (omega (arith, n1, fits)) ∙ n1 in
    let m : length (put_at b q l) ≡ 512 = length-put_at b q l (omega (arith, long, fits)) ∙ long in
    let off_count : (k : ℕ) → (k < 6) ⊎ (8 ≤ k) → get_or (put_at (put_at b 6 w) q l) k 0 ≡ get_or (put_at b q l) k 0 = (λ k away. elim (cases_lt k q) [
      | inl low ↦
          put_at_kept (put_at b 6 w) q l k (omega (arith, n1, fits)) (inl low)
          ∙ put_at_kept b 6 w k (omega (arith, long, two)) (elim away [ inl a ↦ inl a | inr a ↦ inr (omega (arith, a, two)) ])
          ∙ sym (put_at_kept b q l k (omega (arith, long, fits)) (inl low))
      | inr high ↦ elim (cases_lt k (q + length l)) [
        | inl in_l ↦
            (let e : k ≡ q + (k - q) = omega (arith, high) in
            ap (λ i. get_or (put_at (put_at b 6 w) q l) i 0) e ∙ put_at_in (put_at b 6 w) q l (k - q) (omega (arith, n1, fits)) (omega (arith, in_l, high))
            ∙ sym (put_at_in b q l (k - q) (omega (arith, long, fits)) (omega (arith, in_l, high))) ∙ ap (λ i. get_or (put_at b q l) i 0) (sym e))
        | inr past ↦
            put_at_kept (put_at b 6 w) q l k (omega (arith, n1, fits)) (inr past)
            ∙ put_at_kept b 6 w k (omega (arith, long, two)) (elim away [ inl a ↦ inl a | inr a ↦ inr (omega (arith, a, two)) ])
            ∙ sym (put_at_kept b q l k (omega (arith, long, fits)) (inr past))
      ]
    ]) in
    put_at_is (put_at b q l) 6 v (put_at (put_at (put_at b 6 w) q l) 6 v) (omega (arith, m, too))
    (length-put_at (put_at (put_at b 6 w) q l) 6 v (omega (arith, n2, too)) ∙ n2 ∙ sym m)
    (λ k away.
    (let apart : (k < 6) ⊎ (8 ≤ k) = elim away [ inl a ↦ inl a | inr a ↦ inr (omega (arith, a, too)) ] in
    put_at_kept (put_at (put_at b 6 w) q l) 6 v k (omega (arith, n2, too)) away ∙ off_count k apart))
    (λ k within. put_at_in (put_at (put_at b 6 w) q l) 6 v k (omega (arith, n2, too)) within)

each_more : (first mid after : List ℕ) (xs : List ℕ) (block : ℕ) → HangsEach first mid xs → nfree_of mid ≤ 50 → HangsOne mid after block → nfree_of after ≤ 50 → HangsEach first after (xs ++ block ∷ [])
each_more first mid after [] block none few hangs full = (after, subst (λ b. HangsOne b after block) none hangs, full, refl)
each_more first mid after (x ∷ xs) block (between, one, room, more) few hangs full = (between, one, room, each_more between mid after xs block more few hangs full)

abbrev counted : List ℕ → ℕ → List ℕ
counted b n = put_at b 6 (word_bytes n)

-- so many addresses written behind those of the list, and their count not yet
pub record HasHung (first b blocks : List ℕ) (held count : ℕ) : Type 0 where
  pub sized : length b ≡ 512
  pub none : count ≡ 0 → b ≡ first
  pub some : 0 < count → HangsEach first (counted b (held + count)) (take count blocks)

pub hung_first : (first blocks : List ℕ) (held : ℕ) → length first ≡ 512 → HasHung first first blocks held 0
hung_first first blocks held long = record { sized = long; none = λ _. refl; some = λ low. absurd (omega (arith, low)) }

module _ (first blocks : List ℕ) (held : ℕ) (long : length first ≡ 512) (reads : held ≡ nfree_of first) (filled : 0 < held) where
  module _ (b after : List ℕ) (count block : ℕ) (room : held + count < 50) (low : count < length blocks) (is : block ≡ get_or blocks count 0) (wrote : after ≡ put_at b (8 + 4 * (held + count)) (long_bytes block)) (was : HasHung first b blocks held count) where
    after_long : length after ≡ 512
    after_long = (let l = length-long_bytes block in let s = was.sized in ap length wrote ∙ length-put_at b (8 + 4 * (held + count)) (long_bytes block) (omega (arith, s, l, room)) ∙ s)

    -- a step from bytes whose count is right
    step : (now : List ℕ) → length now ≡ 512 → held + count ≡ nfree_of now → counted (put_at now (8 + 4 * (held + count)) (long_bytes block)) (held + count + 1) ≡ counted after (held + count + 1) → HangsOne now (counted after (held + count + 1)) block
    step now wide right same =
        subst (λ two. HangsOne now two block) same
        (hung now now (put_at now (8 + 4 * (held + count)) (long_bytes block)) (counted (put_at now (8 + 4 * (held + count)) (long_bytes block)) (held + count + 1)) (held + count) block
        (ready_some now (held + count) (held + count) wide right (omega (arith, filled)) (omega (arith, filled))) (omega (arith, right, room)) room refl refl)

    count_after : nfree_of (counted after (held + count + 1)) ≡ held + count + 1
    count_after = (let s = after_long in word_back after 6 (held + count + 1) (omega (arith, s)) (omega (arith, room)))

    more : HangsEach first (counted after (held + count + 1)) (take count blocks ++ block ∷ [])
    more = elim (cases_lt 0 count) [
      | inl some ↦
          (let s = was.sized in
          let w = length-word_bytes (held + count) in
          let v = length-word_bytes (held + count + 1) in
          let l = length-long_bytes block in
          let now = counted b (held + count) in
          let right : nfree_of now ≡ held + count = word_back b 6 (held + count) (omega (arith, s)) (omega (arith, room)) in
          let same : counted (put_at now (8 + 4 * (held + count)) (long_bytes block)) (held + count + 1) ≡ counted after (held + count + 1) =
          count_over b (word_bytes (held + count)) (long_bytes block) (word_bytes (held + count + 1)) (8 + 4 * (held + count)) s w v (omega arith) (omega (arith, l, room)) ∙ ap (λ x. counted x (held + count + 1)) (sym wrote) in
          each_more first now (counted after (held + count + 1)) (take count blocks) block (was.some some) (omega (arith, right, room))
          (step now (length-put_at b 6 (word_bytes (held + count)) (omega (arith, s, w)) ∙ s) (sym right) same) (let c = count_after in omega (arith, c, room)))
      | inr none ↦
          (let zero_count : count ≡ 0 = omega (arith, none) in
          let here : b ≡ first = was.none zero_count in
          let right : held + count ≡ nfree_of first = omega (arith, reads, zero_count) in
          let same : counted (put_at first (8 + 4 * (held + count)) (long_bytes block)) (held + count + 1) ≡ counted after (held + count + 1) =
          ap (λ x. counted (put_at x (8 + 4 * (held + count)) (long_bytes block)) (held + count + 1)) (sym here) ∙ ap (λ x. counted x (held + count + 1)) (sym wrote) in
          subst (λ n. HangsEach first (counted after (held + count + 1)) (take n blocks ++ block ∷ [])) (sym zero_count)
          (counted after (held + count + 1), step first long right same, (let c = count_after in omega (arith, c, room)), refl))
    ]

    pub hung_next : HasHung first after blocks held (count + 1)
    hung_next =
        let e : held + count + 1 ≡ held + (count + 1) = omega arith in
        let whole : take count blocks ++ block ∷ [] ≡ take (count + 1) blocks = ap (λ x. take count blocks ++ x ∷ []) is ∙ sym (take-suc blocks count 0 low) ∙ ap (λ n. take n blocks) (let f : suc count ≡ count + 1 = omega arith in f) in
        record {
          sized = after_long;
          none = λ zero. absurd (omega (arith, zero));
          some = λ _. subst (λ n. HangsEach first (counted after n) (take (count + 1) blocks)) e (subst (HangsEach first (counted after (held + count + 1))) whole more);
        }

  module _ (b two : List ℕ) (count : ℕ) (some : 0 < count) (fits : held + count ≤ 50) (all : take count blocks ≡ blocks) (wrote : two ≡ put_at b 6 (word_bytes (held + count))) (was : HasHung first b blocks held count) where
    pub hung_each : HangsEach first two blocks
    hung_each = subst (λ x. HangsEach first x blocks) (sym wrote) (subst (HangsEach first (counted b (held + count))) all (was.some some))

    pub count_each : nfree_of two ≤ 50
    count_each = (let s = was.sized in let c : nfree_of two ≡ held + count = ap nfree_of wrote ∙ word_back b 6 (held + count) (omega (arith, s)) (omega (arith, fits)) in omega (arith, c, fits))

-- ---- a full list, which moves into the block

after_full : (it : Listed) (block : ℕ) → it.count ≡ 50 → after_freeing it block ≡ pushed emptied block
unfolding after_freeing
after_full it block full =
    let t : nat_eq it.count 0 ≡ false = grind (arith, nat_tests) in
    let u : nat_eq it.count 50 ≡ true = grind (arith, nat_tests) in
    ap (λ b. pushed (cond b ended (cond (nat_eq it.count 50) emptied it)) block) t ∙ ap (λ b. pushed (cond b emptied it) block) u

module _ (first bytes held one two : List ℕ) (block : ℕ) (long : length first ≡ 512) (room : length bytes ≡ 512) (copied : held ≡ put_at bytes 0 (take 202 (drop 6 first)))
    (e1 : one ≡ put_at first 6 (word_bytes 1)) (e2 : two ≡ put_at one 8 (long_bytes block)) where
  abbrev part : List ℕ
  part = take 202 (drop 6 first)

  long_part : length part ≡ 202
  long_part = length-part first 6 202 (omega (arith, long))

  one_long : length one ≡ 512
  one_long = (let w = length-word_bytes 1 in ap length e1 ∙ length-put_at first 6 (word_bytes 1) (omega (arith, long, w)) ∙ long)

  two_long : length two ≡ 512
  two_long = (let l = length-long_bytes block in let s = one_long in ap length e2 ∙ length-put_at one 8 (long_bytes block) (omega (arith, s, l)) ∙ s)

  held_long : length held ≡ 512
  held_long = (let n = long_part in ap length copied ∙ length-put_at bytes 0 part (omega (arith, room, n)) ∙ room)

  off_two : (from n : ℕ) → (from + n ≤ 8) ⊎ (12 ≤ from) → SameFrom two one from n
  off_two from n away k low high =
      let l = length-long_bytes block in
      let s = one_long in
      ap (λ b. get_or b k 0) e2 ∙ put_at_same one 8 (long_bytes block) from n (omega (arith, s, l)) (elim away [ inl a ↦ inl a | inr a ↦ inr (omega (arith, a, l)) ]) k low high

  off_one : (from n : ℕ) → (from + n ≤ 6) ⊎ (12 ≤ from) → SameFrom two first from n
  off_one from n away k low high =
      let w = length-word_bytes 1 in
      off_two from n (elim away [ inl a ↦ inl (omega (arith, a)) | inr a ↦ inr a ]) k low high ∙ ap (λ b. get_or b k 0) e1
      ∙ put_at_same first 6 (word_bytes 1) from n (omega (arith, long, w)) (elim away [ inl a ↦ inl a | inr a ↦ inr (omega (arith, a, w)) ]) k low high

  pub count_one : nfree_of two ≡ 1
  count_one = word_at-same two one 6 (off_two 6 2 (inl (omega arith))) ∙ ap (λ b. word_at b 6) e1 ∙ word_back first 6 1 (omega (arith, long)) (omega arith)

  block_alone : block < 262144 → IsSameList (listed_in two) (pushed emptied block)
  block_alone small =
      let s = one_long in
      pushed_same (listed_in two) emptied emptied block (record { count = refl; entry = λ k below. refl }) count_one (ap (λ b. long_at b 8) e2 ∙ long_back one 8 block (omega (arith, s)) (omega (arith, small)))
      (λ k below. absurd (omega (arith, below)))

  held_alike : Alike held first 0 6 202
  held_alike k below =
      let n = long_part in
      ap (λ b. get_or b (0 + k) 0) copied ∙ put_at_in bytes 0 part k (omega (arith, room, n)) (omega (arith, n, below)) ∙ get_or-part first 6 202 k below

  list_held : nfree_of first ≡ 50 → IsSameList (record { count = chain_count held; entry = chain_entry held }) (listed_in first)
  list_held full = record {
    count = word_alike held first 0 6 (alike_part held first 0 6 202 0 2 held_alike (omega arith));
    entry = λ k below.
        ap (long_at held) (let e : 2 + 4 * k ≡ 0 + (2 + 4 * k) = omega arith in e)
        ∙ long_alike held first (0 + (2 + 4 * k)) (6 + (2 + 4 * k)) (alike_part held first 0 6 202 (2 + 4 * k) 4 held_alike (omega (arith, below, full)))
        ∙ ap (long_at first) (let e : 6 + (2 + 4 * k) ≡ 8 + 4 * k = omega arith in e);
  }

  pub moved : nfree_of first ≡ 50 → MovesList first two held block
  moved full blocks here keeps real small =
      let now : put_block (put_block blocks block held) 1 two 1 ≡ two = put_block_same (put_block blocks block held) 1 two in
      let moved_to : put_block (put_block blocks block held) 1 two block ≡ held =
      put_block_other (put_block blocks block held) 1 two block (omega (arith, real)) ∙ put_block_same blocks block held in
      let after : after_freeing (listed_in (blocks 1)) block ≡ pushed emptied block = ap (λ b. after_freeing (listed_in b) block) here ∙ after_full (listed_in first) block full in
      let s = two_long in
      let h = held_long in
      record {
        list = subst (λ (b : List ℕ). IsSameList (listed_in b) (after_freeing (listed_in (blocks 1)) block)) (sym now) (subst (IsSameList (listed_in two)) (sym after) (block_alone small));
        copied = λ _. subst (λ (b : List ℕ). IsSameList (record { count = chain_count b; entry = chain_entry b }) (listed_in (blocks 1))) (sym moved_to)
            (subst (λ (b : List ℕ). IsSameList (record { count = chain_count held; entry = chain_entry held }) (listed_in b)) (sym here) (list_held full));
        sized = ap length now ∙ s;
        filled = ap length moved_to ∙ h;
        front = λ k low high. ap (λ b. get_or b k 0) now ∙ off_one 0 6 (inl (omega arith)) k low high ∙ ap (λ b. get_or b k 0) (sym here);
        back = λ k low high. ap (λ b. get_or b k 0) now ∙ off_one 208 304 (inr (omega arith)) k low high ∙ ap (λ b. get_or b k 0) (sym here);
        others = λ other apart beside. put_block_other (put_block blocks block held) 1 two other apart ∙ put_block_other blocks block held other beside;
      }
