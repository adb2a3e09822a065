-- An inode freed, and its number cached.
use Rattle.std.proofs.Common.{ℕ, zero, suc, ◌≡◌, ◌≢◌, ◌⊎◌, inl, inr, ◌+◌, ◌*◌, ◌<◌, ◌≤◌, List, ◌∷◌, length, replicate, set, get_or, get_or-set_other, get_or-set_same, refl, sym, ap, subst, ◌∙◌, arith}
use Rattle.std.proofs.lemmas.Bool.{cases_eq, cases_lt}
use Rattle.std.proofs.lemmas.List.{length-replicate, length-set}
use Rattle.mb_word.specs.Fields.{ninode_of, cached_of, inode_block, inode_place}
use Rattle.mb_word.specs.Numbers.{word_at, put_at, word_bytes, SameFrom}
use Rattle.mb_word.proofs.Writes.{put_at_same, put_at_in, length-put_at}
use Rattle.mb_word.proofs.Values.{word_back, word_at-same, length-word_bytes}
use Rattle.mb_layout.proofs.InodeOrder.{inodes_apart}
use Rattle.mb_kinds.specs.Changed.{put_block}
use Rattle.mb_iface.proofs.ChangedBlocks.{put_block_same, put_block_other}
use Rattle.mb_blocks.specs.Rules.{KeepsRules}
use Rattle.mb_alloc.specs.Numbers.{cached_below, cached_in, IsCacheSet}
use Rattle.mb_alloc.specs.Inodes.{IsErased}
use Rattle.mb_alloc.proofs.Picking.{cached_same}

none_in : (n k : ℕ) → get_or (replicate {A = ℕ} n 0) k 0 ≡ 0
none_in zero k = refl
none_in (suc n) zero = refl
none_in (suc n) (suc k) = none_in n k

module _ (old new : ℕ → List ℕ) (ino kept : ℕ) (blank : List ℕ) (keeps : KeepsRules old) (some : 0 < ino) (is_blank : blank ≡ set (replicate {A = ℕ} 64 0) 51 kept)
    (is_kept : kept ≡ get_or (old (inode_block ino)) (64 * inode_place ino + 51) 0) (wrote : new ≡ put_block old (inode_block ino) (put_at (old (inode_block ino)) (64 * inode_place ino) blank)) where
  whole : length blank ≡ 64
  whole = ap length is_blank ∙ length-set (replicate {A = ℕ} 64 0) 51 kept ∙ length-replicate {A = ℕ} 64 0

  here : new (inode_block ino) ≡ put_at (old (inode_block ino)) (64 * inode_place ino) blank
  here = ap (λ f. f (inode_block ino)) wrote ∙ put_block_same old (inode_block ino) (put_at (old (inode_block ino)) (64 * inode_place ino) blank)

  room : 64 * inode_place ino + length blank ≤ length (old (inode_block ino))
  room = (let l = keeps.sized (inode_block ino) in let w = whole in omega (arith, l, w))

  in_blank : (k : ℕ) → k < 64 → get_or (new (inode_block ino)) (64 * inode_place ino + k) 0 ≡ get_or blank k 0
  in_blank k low = ap (λ b. get_or b (64 * inode_place ino + k) 0) here ∙ put_at_in (old (inode_block ino)) (64 * inode_place ino) blank k room (let w = whole in omega (arith, low, w))

  off : (at n : ℕ) → (at + n ≤ 64 * inode_place ino) ⊎ (64 * inode_place ino + 64 ≤ at) → SameFrom (new (inode_block ino)) (old (inode_block ino)) at n
  off at n away = subst (λ (x : List ℕ). SameFrom x (old (inode_block ino)) at n) (sym here)
      (put_at_same (old (inode_block ino)) (64 * inode_place ino) blank at n room (let w = whole in elim away [ inl a ↦ inl a | inr a ↦ inr (omega (arith, a, w)) ]))

  others_kept : (block : ℕ) → block ≢ inode_block ino → new block ≡ old block
  others_kept block apart = ap (λ f. f block) wrote ∙ put_block_other old (inode_block ino) (put_at (old (inode_block ino)) (64 * inode_place ino) blank) block apart

  beside : (other : ℕ) → 0 < other → other ≢ ino → SameFrom (new (inode_block other)) (old (inode_block other)) (64 * inode_place other) 64
  beside other real apart = elim (cases_eq (inode_block other) (inode_block ino)) [
    | inr away ↦ (λ k from to. ap (λ (x : List ℕ). get_or x k 0) (others_kept (inode_block other) away))
    | inl same ↦
        (let places : inode_place other ≢ inode_place ino = elim (inodes_apart other ino real some apart) [ inl a ↦ absurd (a same) | inr b ↦ b ] in
        subst (λ b. SameFrom (new b) (old b) (64 * inode_place other) 64) (sym same)
        (off (64 * inode_place other) 64 (elim (cases_lt (inode_place other) (inode_place ino)) [
          | inl less ↦ inl (let l : inode_place other < inode_place ino = less in omega (arith, l))
          | inr more ↦ inr (let l : inode_place ino ≤ inode_place other = more in omega (arith, l, places))
        ])))
  ]

  pub erased : IsErased old new ino
  erased = record {
    written = record {
      sized = ap length here ∙ length-put_at (old (inode_block ino)) (64 * inode_place ino) blank room ∙ keeps.sized (inode_block ino);
      others = others_kept;
      byte = in_blank 51 (omega arith) ∙ ap (λ b. get_or b 51 0) is_blank ∙ get_or-set_same (replicate {A = ℕ} 64 0) 51 kept 0 (let l = length-replicate {A = ℕ} 64 0 in omega (arith, l)) ∙ is_kept;
      beside = beside;
    };
    zero = λ k low apart. in_blank k low ∙ ap (λ b. get_or b k 0) is_blank ∙ get_or-set_other (replicate {A = ℕ} 64 0) 51 k kept 0 apart ∙ none_in 64 k;
  }

-- a number more in the cache
pub cached_more : (old new : ℕ → List ℕ) (count ino : ℕ) (one two : List ℕ) → length (old 1) ≡ 512 → count ≡ word_at (old 1) 208 → count < 100 → ino < 65536
    → one ≡ put_at (old 1) 208 (word_bytes (count + 1)) → two ≡ put_at one (210 + 2 * count) (word_bytes ino) → new ≡ put_block old 1 two → IsCacheSet old new (ino ∷ cached_in old)
cached_more old new count ino one two long reads few small e1 e2 wrote =
    let w1 = length-word_bytes (count + 1) in
    let w2 = length-word_bytes ino in
    let s1 : length one ≡ 512 = ap length e1 ∙ length-put_at (old 1) 208 (word_bytes (count + 1)) (omega (arith, long, w1)) ∙ long in
    let s2 : length two ≡ 512 = ap length e2 ∙ length-put_at one (210 + 2 * count) (word_bytes ino) (omega (arith, s1, w2, few)) ∙ s1 in
    let first : new 1 ≡ two = ap (λ f. f 1) wrote ∙ put_block_same old 1 two in
    let off : (from n : ℕ) → (from + n ≤ 208) ⊎ (210 ≤ from) → (from + n ≤ 210 + 2 * count) ⊎ (212 + 2 * count ≤ from) → SameFrom (new 1) (old 1) from n = λ from n away apart k lo hi.
    ap (λ b. get_or b k 0) (first ∙ e2)
    ∙ put_at_same one (210 + 2 * count) (word_bytes ino) from n (omega (arith, s1, w2, few)) (elim apart [ inl a ↦ inl a | inr a ↦ inr (omega (arith, a, w2)) ]) k lo hi
    ∙ ap (λ b. get_or b k 0) e1
    ∙ put_at_same (old 1) 208 (word_bytes (count + 1)) from n (omega (arith, long, w1)) (elim away [ inl a ↦ inl a | inr a ↦ inr (omega (arith, a, w1)) ]) k lo hi in
    let counted : ninode_of (new 1) ≡ suc count =
    ap (λ b. word_at b 208) (first ∙ e2) ∙ word_at-same (put_at one (210 + 2 * count) (word_bytes ino)) one 208 (put_at_same one (210 + 2 * count) (word_bytes ino) 208 2 (omega (arith, s1, w2, few)) (inl (omega arith)))
    ∙ ap (λ b. word_at b 208) e1 ∙ word_back (old 1) 208 (count + 1) (omega (arith, long)) (omega (arith, few)) ∙ omega arith in
    let last : cached_of (new 1) count ≡ ino = ap (λ b. word_at b (210 + 2 * count)) (first ∙ e2) ∙ word_back one (210 + 2 * count) ino (omega (arith, s1, few)) small in
    record {
      list = ap (cached_below (new 1)) counted ∙ ap (λ x. x ∷ cached_below (new 1) count) last
          ∙ ap (λ l. ino ∷ l) (cached_same (new 1) (old 1) count (λ k below. word_at-same (new 1) (old 1) (210 + 2 * k) (off (210 + 2 * k) 2 (inr (omega arith)) (inl (omega (arith, below))))))
          ∙ ap (λ n. ino ∷ cached_below (old 1) n) reads;
      sized = ap length first ∙ s2;
      front = off 0 208 (inl (omega arith)) (inl (omega arith));
      back = off 410 102 (inr (omega arith)) (inr (omega (arith, few)));
      others = λ other apart. ap (λ f. f other) wrote ∙ put_block_other old 1 two other apart;
    }

pub erased_at : (old new : ℕ → List ℕ) (ino kept holder slot : ℕ) (blank : List ℕ) → KeepsRules old → 0 < ino → holder ≡ inode_block ino → slot ≡ inode_place ino → blank ≡ set (replicate {A = ℕ} 64 0) 51 kept
    → kept ≡ get_or (old holder) (64 * slot + 51) 0 → new ≡ put_block old holder (put_at (old holder) (64 * slot) blank) → IsErased old new ino
erased_at old new ino kept holder slot blank keeps some at_block at_place is_blank is_kept wrote =
    erased old new ino kept blank keeps some is_blank
    (is_kept ∙ ap (λ h. get_or (old h) (64 * slot + 51) 0) at_block ∙ ap (λ s. get_or (old (inode_block ino)) (64 * s + 51) 0) at_place)
    (wrote ∙ ap (λ h. put_block old h (put_at (old h) (64 * slot) blank)) at_block ∙ ap (λ s. put_block old (inode_block ino) (put_at (old (inode_block ino)) (64 * s) blank)) at_place)

-- the super-block stays where an inode is written
pub first_stays : (old : ℕ → List ℕ) (ino holder : ℕ) (bytes : List ℕ) → holder ≡ inode_block ino → put_block old holder bytes 1 ≡ old 1
first_stays old ino holder bytes at_block = put_block_other old holder bytes 1 (λ e. absurd (omega (arith, at_block, e)))
