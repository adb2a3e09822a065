-- Lists of words and longs in a block.
use Rattle.std.proofs.Common.{ℕ, zero, suc, ◌≡◌, ◌+◌, ◌*◌, ◌<◌, ◌≤◌, List, [], ◌∷◌, ◌++◌, length, take, get_or, refl, sym, ap, ◌∙◌, arith}
use Rattle.std.specs.List.{flat_map}
use Rattle.std.proofs.lemmas.List.{append_assoc, append-nil, length-append, take_more, take_all, length-take}
use Rattle.std.proofs.lemmas.List.FromFn.{fill_by_all, get_or-map-range_with_len, length-map-range_with_len}
use Rattle.std.proofs.lemmas.Grind.{flat_map-append}
use Rattle.mb_word.specs.Numbers.{word_at, long_at, word_bytes, long_bytes, put_at, AreBytes}
use Rattle.mb_word.proofs.Parts.{word_behind, long_behind, put_at_none}
use Rattle.mb_word.proofs.Values.{length-word_bytes, length-long_bytes, word_unchanged, long_unchanged}
use Rattle.mb_word.proofs.Writes.{put_more}
use Rattle.mb_layout.specs.Listed.{listed, words_bytes, longs_bytes}

pub listed_item : (f : ℕ → ℕ) (n k : ℕ) → k < n → get_or (listed f n) k 0 ≡ f k
unfolding listed
listed_item f n k below = get_or-map-range_with_len f 0 n k k 0 below (omega arith)

pub length-listed : (f : ℕ → ℕ) (n : ℕ) → length (listed f n) ≡ n
unfolding listed
length-listed f n = length-map-range_with_len f 0 n

pub listed_is : (f : ℕ → ℕ) (xs : List ℕ) (n : ℕ) → length xs ≡ n → ((k : ℕ) → k < n → get_or xs k 0 ≡ f k) → xs ≡ listed f n
unfolding listed
listed_is f xs n len each = fill_by_all f xs n 0 len each

pub length-longs_bytes : (xs : List ℕ) → length (longs_bytes xs) ≡ 4 * length xs
unfolding longs_bytes
length-longs_bytes [] = refl
length-longs_bytes (x ∷ xs) = omega (arith, length-append (long_bytes x) (flat_map long_bytes xs), length-long_bytes x, length-longs_bytes xs)

pub length-words_bytes : (xs : List ℕ) → length (words_bytes xs) ≡ 2 * length xs
unfolding words_bytes
length-words_bytes [] = refl
length-words_bytes (x ∷ xs) = omega (arith, length-append (word_bytes x) (flat_map word_bytes xs), length-word_bytes x, length-words_bytes xs)

-- a number in front of others
long_first : (x : ℕ) (rest : List ℕ) → x < 4294967296 → long_at (long_bytes x ++ rest) 0 ≡ x
unfolding long_at word_at long_bytes word_bytes
long_first x rest small = omega arith

word_first : (x : ℕ) (rest : List ℕ) → x < 65536 → word_at (word_bytes x ++ rest) 0 ≡ x
unfolding word_at word_bytes
word_first x rest small = omega arith

-- the number at a place of those written, whatever follows
pub longs_item : (xs rest : List ℕ) (k : ℕ) → k < length xs → get_or xs k 0 < 4294967296 → long_at (longs_bytes xs ++ rest) (4 * k) ≡ get_or xs k 0
unfolding longs_bytes
longs_item [] rest k below small = absurd (omega arith)
longs_item (x ∷ xs) rest zero below small =
    ap (λ r. long_at r 0) (append_assoc (long_bytes x) (flat_map long_bytes xs) rest) ∙ long_first x (flat_map long_bytes xs ++ rest) small
longs_item (x ∷ xs) rest (suc k) below small =
    ap (long_at ((long_bytes x ++ flat_map long_bytes xs) ++ rest)) (omega arith)
    ∙ ap (λ r. long_at r (4 + 4 * k)) (append_assoc (long_bytes x) (flat_map long_bytes xs) rest)
    ∙ long_behind (long_bytes x) (flat_map long_bytes xs ++ rest) 4 (4 * k) (length-long_bytes x)
    ∙ longs_item xs rest k (omega arith) small

pub words_item : (xs rest : List ℕ) (k : ℕ) → k < length xs → get_or xs k 0 < 65536 → word_at (words_bytes xs ++ rest) (2 * k) ≡ get_or xs k 0
unfolding words_bytes
words_item [] rest k below small = absurd (omega arith)
words_item (x ∷ xs) rest zero below small =
    ap (λ r. word_at r 0) (append_assoc (word_bytes x) (flat_map word_bytes xs) rest) ∙ word_first x (flat_map word_bytes xs ++ rest) small
words_item (x ∷ xs) rest (suc k) below small =
    ap (word_at ((word_bytes x ++ flat_map word_bytes xs) ++ rest)) (omega arith)
    ∙ ap (λ r. word_at r (2 + 2 * k)) (append_assoc (word_bytes x) (flat_map word_bytes xs) rest)
    ∙ word_behind (word_bytes x) (flat_map word_bytes xs ++ rest) 2 (2 * k) (length-word_bytes x)
    ∙ words_item xs rest k (omega arith) small

-- one number more
pub longs_bytes-more : (xs : List ℕ) (k : ℕ) → k < length xs → longs_bytes (take (k + 1) xs) ≡ longs_bytes (take k xs) ++ long_bytes (get_or xs k 0)
unfolding longs_bytes
longs_bytes-more xs k below =
    ap (flat_map long_bytes) (take_more xs k 0 below)
    ∙ flat_map-append long_bytes (take k xs) (get_or xs k 0 ∷ [])
    ∙ ap (λ r. flat_map long_bytes (take k xs) ++ r) (append-nil (long_bytes (get_or xs k 0)))

pub words_bytes-more : (xs : List ℕ) (k : ℕ) → k < length xs → words_bytes (take (k + 1) xs) ≡ words_bytes (take k xs) ++ word_bytes (get_or xs k 0)
unfolding words_bytes
words_bytes-more xs k below =
    ap (flat_map word_bytes) (take_more xs k 0 below)
    ∙ flat_map-append word_bytes (take k xs) (get_or xs k 0 ∷ [])
    ∙ ap (λ r. flat_map word_bytes (take k xs) ++ r) (append-nil (word_bytes (get_or xs k 0)))

-- numbers written one by one
pub longs_put : (b : List ℕ) (at : ℕ) (xs c d : List ℕ) (k : ℕ) → k < length xs → at + 4 * length xs ≤ length b
    → c ≡ put_at b at (longs_bytes (take k xs)) → d ≡ put_at c (at + 4 * k) (long_bytes (get_or xs k 0)) → d ≡ put_at b at (longs_bytes (take (k + 1) xs))
longs_put b at xs c d k below fits before next =
    let front = length-longs_bytes (take k xs) in
    let front_of = length-take k xs in
    put_more b c d at (at + 4 * k) (4 * k) (longs_bytes (take k xs)) (long_bytes (get_or xs k 0)) (omega arith) refl (omega (arith, length-long_bytes (get_or xs k 0))) before next
    ∙ ap (put_at b at) (sym (longs_bytes-more xs k below))

pub words_put : (b : List ℕ) (at : ℕ) (xs c d : List ℕ) (k : ℕ) → k < length xs → at + 2 * length xs ≤ length b
    → c ≡ put_at b at (words_bytes (take k xs)) → d ≡ put_at c (at + 2 * k) (word_bytes (get_or xs k 0)) → d ≡ put_at b at (words_bytes (take (k + 1) xs))
words_put b at xs c d k below fits before next =
    let front = length-words_bytes (take k xs) in
    let front_of = length-take k xs in
    put_more b c d at (at + 2 * k) (2 * k) (words_bytes (take k xs)) (word_bytes (get_or xs k 0)) (omega arith) refl (omega (arith, length-word_bytes (get_or xs k 0))) before next
    ∙ ap (put_at b at) (sym (words_bytes-more xs k below))

-- none written, and all
pub longs_none : (b : List ℕ) (at : ℕ) (xs : List ℕ) → b ≡ put_at b at (longs_bytes (take 0 xs))
unfolding longs_bytes
longs_none b at xs = sym (put_at_none b at)

pub words_none : (b : List ℕ) (at : ℕ) (xs : List ℕ) → b ≡ put_at b at (words_bytes (take 0 xs))
unfolding words_bytes
words_none b at xs = sym (put_at_none b at)

pub longs_all : (b : List ℕ) (at : ℕ) (xs c : List ℕ) (k : ℕ) → length xs ≤ k → c ≡ put_at b at (longs_bytes (take k xs)) → c ≡ put_at b at (longs_bytes xs)
longs_all b at xs c k past before = before ∙ ap (λ l. put_at b at (longs_bytes l)) (take_all k xs past)

pub words_all : (b : List ℕ) (at : ℕ) (xs c : List ℕ) (k : ℕ) → length xs ≤ k → c ≡ put_at b at (words_bytes (take k xs)) → c ≡ put_at b at (words_bytes xs)
words_all b at xs c k past before = before ∙ ap (λ l. put_at b at (words_bytes l)) (take_all k xs past)

-- numbers written where they stood change nothing, the first k of n first
longs_part_unchanged : (b : List ℕ) (at n k : ℕ) → AreBytes b → at + 4 * n ≤ length b → k ≤ n → b ≡ put_at b at (longs_bytes (take k (listed (λ j. long_at b (at + 4 * j)) n)))
longs_part_unchanged b at n zero bytes fits within = longs_none b at (listed (λ j. long_at b (at + 4 * j)) n)
longs_part_unchanged b at n (suc k) bytes fits within =
    let xs = listed (λ j. long_at b (at + 4 * j)) n in
    let len = length-listed (λ j. long_at b (at + 4 * j)) n in
    let same : b ≡ put_at b (at + 4 * k) (long_bytes (get_or xs k 0)) =
    sym (ap (λ x. put_at b (at + 4 * k) (long_bytes x)) (listed_item (λ j. long_at b (at + 4 * j)) n k (omega arith)) ∙ long_unchanged b (at + 4 * k) bytes (omega arith)) in
    longs_put b at xs b b k (omega arith) (omega arith) (longs_part_unchanged b at n k bytes fits (omega arith)) same
    ∙ (let next : k + 1 ≡ suc k = omega arith in ap (λ i. put_at b at (longs_bytes (take i xs))) next)

words_part_unchanged : (b : List ℕ) (at n k : ℕ) → AreBytes b → at + 2 * n ≤ length b → k ≤ n → b ≡ put_at b at (words_bytes (take k (listed (λ j. word_at b (at + 2 * j)) n)))
words_part_unchanged b at n zero bytes fits within = words_none b at (listed (λ j. word_at b (at + 2 * j)) n)
words_part_unchanged b at n (suc k) bytes fits within =
    let xs = listed (λ j. word_at b (at + 2 * j)) n in
    let len = length-listed (λ j. word_at b (at + 2 * j)) n in
    let same : b ≡ put_at b (at + 2 * k) (word_bytes (get_or xs k 0)) =
    sym (ap (λ x. put_at b (at + 2 * k) (word_bytes x)) (listed_item (λ j. word_at b (at + 2 * j)) n k (omega arith)) ∙ word_unchanged b (at + 2 * k) bytes (omega arith)) in
    words_put b at xs b b k (omega arith) (omega arith) (words_part_unchanged b at n k bytes fits (omega arith)) same
    ∙ (let next : k + 1 ≡ suc k = omega arith in ap (λ i. put_at b at (words_bytes (take i xs))) next)

pub longs_unchanged : (b : List ℕ) (at n : ℕ) → AreBytes b → at + 4 * n ≤ length b → put_at b at (longs_bytes (listed (λ k. long_at b (at + 4 * k)) n)) ≡ b
longs_unchanged b at n bytes fits =
    sym (longs_all b at (listed (λ k. long_at b (at + 4 * k)) n) b n (omega (arith, length-listed (λ k. long_at b (at + 4 * k)) n)) (longs_part_unchanged b at n n bytes fits (omega arith)))

pub words_unchanged : (b : List ℕ) (at n : ℕ) → AreBytes b → at + 2 * n ≤ length b → put_at b at (words_bytes (listed (λ k. word_at b (at + 2 * k)) n)) ≡ b
words_unchanged b at n bytes fits =
    sym (words_all b at (listed (λ k. word_at b (at + 2 * k)) n) b n (omega (arith, length-listed (λ k. word_at b (at + 2 * k)) n)) (words_part_unchanged b at n n bytes fits (omega arith)))
