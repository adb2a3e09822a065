-- The super-block and its bytes: what was written reads back, and what was read writes back.
use Rattle.std.proofs.Common.{ℕ, ◌≡◌, ◌+◌, ◌*◌, ◌<◌, ◌≤◌, inr, List, [], ◌++◌, length, get_or, refl, sym, ap, ◌∙◌, arith}
use Rattle.std.proofs.lemmas.List.{append-nil, append_assoc, length-append}
use Rattle.mb_word.specs.Numbers.{word_at, long_at, put_at, word_bytes, long_bytes, AreBytes, SameFrom}
use Rattle.mb_word.specs.Fields.{free_of, cached_of}
use Rattle.mb_word.proofs.Parts.{word_behind, long_behind}
use Rattle.mb_word.proofs.Values.{length-word_bytes, length-long_bytes, word_unchanged, long_unchanged}
use Rattle.mb_word.proofs.Writes.{put_at_same}
use Rattle.mb_layout.specs.SuperBlock.{super_at, super_bytes, FitsSuper}
use Rattle.mb_layout.specs.Listed.{listed, longs_bytes, words_bytes}
use Rattle.mb_layout.specs.declared.super_blocks.Super.{Super}
use Rattle.mb_layout.proofs.NumberLists.{listed_is, length-listed, length-longs_bytes, length-words_bytes, longs_item, words_item, longs_unchanged, words_unchanged}
use Rattle.mb_layout.proofs.Steps.{Put, more, Alike, alike_front, alike_put, word_alike, long_alike}

-- the six writes, one behind the other, are the write of the super-block's bytes
pub super_put : (b b1 b2 b3 b4 b5 b6 : List ℕ) (s : Super) → 410 ≤ length b → length s.s_free ≡ 50 → length s.s_inode ≡ 100
    → b1 ≡ put_at b 0 (word_bytes s.s_isize)
    → b2 ≡ put_at b1 2 (long_bytes s.s_fsize)
    → b3 ≡ put_at b2 6 (word_bytes s.s_nfree)
    → b4 ≡ put_at b3 8 (longs_bytes s.s_free)
    → b5 ≡ put_at b4 208 (word_bytes s.s_ninode)
    → b6 ≡ put_at b5 210 (words_bytes s.s_inode)
    → Put b b6 0 410 (super_bytes s)
unfolding super_bytes
super_put b b1 b2 b3 b4 b5 b6 s fits frees inodes e1 e2 e3 e4 e5 e6 =
    let p1 : Put b b1 0 2 (word_bytes s.s_isize) = record { len = length-word_bytes s.s_isize; put = e1 } in
    let p2 = more p1 (long_bytes s.s_fsize) 4 (length-long_bytes s.s_fsize) (omega arith) e2 in
    let p3 = more p2 (word_bytes s.s_nfree) 2 (length-word_bytes s.s_nfree) (omega arith) e3 in
    let p4 = more p3 (longs_bytes s.s_free) 200 (omega (arith, length-longs_bytes s.s_free)) (omega arith) e4 in
    let p5 = more p4 (word_bytes s.s_ninode) 2 (length-word_bytes s.s_ninode) (omega arith) e5 in
    more p5 (words_bytes s.s_inode) 200 (omega (arith, length-words_bytes s.s_inode)) (omega arith) e6

-- the bytes before the free blocks
head : Super → List ℕ
head s = word_bytes s.s_isize ++ (long_bytes s.s_fsize ++ word_bytes s.s_nfree)

pieces : (s : Super) → super_bytes s ≡ head s ++ (longs_bytes s.s_free ++ (word_bytes s.s_ninode ++ words_bytes s.s_inode))
unfolding super_bytes head
pieces s = simp append_assoc

length-head : (s : Super) → length (head s) ≡ 8
unfolding head word_bytes long_bytes
length-head s = refl

pub length-super_bytes : (s : Super) → length s.s_free ≡ 50 → length s.s_inode ≡ 100 → length (super_bytes s) ≡ 410
length-super_bytes s frees inodes = ap length (pieces s) ∙ omega (
  arith,
  length-head s,
  length-append (head s) (longs_bytes s.s_free ++ (word_bytes s.s_ninode ++ words_bytes s.s_inode)),
  length-append (longs_bytes s.s_free) (word_bytes s.s_ninode ++ words_bytes s.s_inode),
  length-longs_bytes s.s_free,
  length-append (word_bytes s.s_ninode) (words_bytes s.s_inode),
  length-word_bytes s.s_ninode,
  length-words_bytes s.s_inode,
)

front : (s : Super) (rest : List ℕ) → FitsSuper s
    → (word_at (head s ++ rest) 0 ≡ s.s_isize) × (long_at (head s ++ rest) 2 ≡ s.s_fsize) × (word_at (head s ++ rest) 6 ≡ s.s_nfree)
unfolding head word_bytes long_bytes word_at long_at
front s rest fits = (omega arith, omega arith, omega arith)

free_behind : (s : Super) → FitsSuper s → (k : ℕ) → k < 50 → long_at (super_bytes s) (8 + 4 * k) ≡ get_or s.s_free k 0
free_behind s fits k below =
    ap (λ r. long_at r (8 + 4 * k)) (pieces s)
    ∙ long_behind (head s) (longs_bytes s.s_free ++ (word_bytes s.s_ninode ++ words_bytes s.s_inode)) 8 (4 * k) (length-head s)
    ∙ longs_item s.s_free (word_bytes s.s_ninode ++ words_bytes s.s_inode) k (omega arith) (fits.free k)

word_first : (x : ℕ) (rest : List ℕ) → x < 65536 → word_at (word_bytes x ++ rest) 0 ≡ x
unfolding word_bytes word_at
word_first x rest small = omega arith

-- a word behind the free blocks
late : (s : Super) → FitsSuper s → (k : ℕ) → word_at (super_bytes s) (208 + k) ≡ word_at (word_bytes s.s_ninode ++ words_bytes s.s_inode) k
late s fits k =
    ap (λ r. word_at r (208 + k)) (pieces s)
    ∙ ap (word_at (head s ++ (longs_bytes s.s_free ++ (word_bytes s.s_ninode ++ words_bytes s.s_inode)))) (omega arith)
    ∙ word_behind (head s) (longs_bytes s.s_free ++ (word_bytes s.s_ninode ++ words_bytes s.s_inode)) 8 (200 + k) (length-head s)
    ∙ word_behind (longs_bytes s.s_free) (word_bytes s.s_ninode ++ words_bytes s.s_inode) 200 k (omega (arith, length-longs_bytes s.s_free))

inode_behind : (s : Super) → FitsSuper s → (k : ℕ) → k < 100 → word_at (super_bytes s) (210 + 2 * k) ≡ get_or s.s_inode k 0
inode_behind s fits k below =
    ap (word_at (super_bytes s)) (omega arith)
    ∙ late s fits (2 + 2 * k)
    ∙ word_behind (word_bytes s.s_ninode) (words_bytes s.s_inode) 2 (2 * k) (length-word_bytes s.s_ninode)
    ∙ ap (λ r. word_at r (2 * k)) (sym (append-nil (words_bytes s.s_inode)))
    ∙ words_item s.s_inode [] k (omega arith) (fits.inode k)

-- what was written reads back
pub super_back : (b : List ℕ) (s : Super) → 410 ≤ length b → FitsSuper s → super_at (put_at b 0 (super_bytes s)) ≡ s
super_back b s in_b fits =
    let len = length-super_bytes s fits.frees fits.inodes in
    let x = super_bytes s in
    let z = put_at b 0 x in
    let same : Alike z x 0 0 410 = λ k below. alike_put b 0 (super_bytes s) (omega arith) k (omega arith) in
    let low = front s (longs_bytes s.s_free ++ (word_bytes s.s_ninode ++ words_bytes s.s_inode)) fits in
    let word : (n : ℕ) → n + 2 ≤ 410 → word_at z n ≡ word_at x n = λ n within. word_alike z x n n (alike_front z x 410 n 2 same within) in
    let long : (n : ℕ) → n + 4 ≤ 410 → long_at z n ≡ long_at x n = λ n within. long_alike z x n n (alike_front z x 410 n 4 same within) in
    let isize = word 0 (omega arith) ∙ ap (λ r. word_at r 0) (pieces s) ∙ low.0 in
    let fsize = long 2 (omega arith) ∙ ap (λ r. long_at r 2) (pieces s) ∙ low.1 in
    let nfree = word 6 (omega arith) ∙ ap (λ r. word_at r 6) (pieces s) ∙ low.2 in
    let ninode = word 208 (omega arith) ∙ late s fits 0 ∙ word_first s.s_ninode (words_bytes s.s_inode) fits.ninode in
    let frees : listed (free_of z) 50 ≡ s.s_free =
    sym (listed_is (free_of z) s.s_free 50 fits.frees (λ k below. sym (long (8 + 4 * k) (omega arith) ∙ free_behind s fits k below))) in
    let inodes : listed (cached_of z) 100 ≡ s.s_inode =
    sym (listed_is (cached_of z) s.s_inode 100 fits.inodes (λ k below. sym (word (210 + 2 * k) (omega arith) ∙ inode_behind s fits k below))) in
    λ i. record { s_isize = isize i; s_fsize = fsize i; s_nfree = nfree i; s_free = frees i; s_ninode = ninode i; s_inode = inodes i }

-- what was read, written where it stood, changes nothing
pub super_unchanged : (b : List ℕ) → AreBytes b → 410 ≤ length b → put_at b 0 (super_bytes (super_at b)) ≡ b
super_unchanged b bytes in_b =
    sym (super_put b b b b b b b (super_at b) in_b (length-listed (free_of b) 50) (length-listed (cached_of b) 100)
    (sym (word_unchanged b 0 bytes (omega arith)))
    (sym (long_unchanged b 2 bytes (omega arith)))
    (sym (word_unchanged b 6 bytes (omega arith)))
    (sym (longs_unchanged b 8 50 bytes (omega arith)))
    (sym (word_unchanged b 208 bytes (omega arith)))
    (sym (words_unchanged b 210 100 bytes (omega arith)))).put

-- what stands behind the inode numbers stays
pub super_kept : (b : List ℕ) (s : Super) → length b ≡ 512 → length s.s_free ≡ 50 → length s.s_inode ≡ 100 → SameFrom (put_at b 0 (super_bytes s)) b 410 102
super_kept b s in_b frees inodes =
    let len = length-super_bytes s frees inodes in
    put_at_same b 0 (super_bytes s) 410 102 (omega arith) (inr (omega arith))
