-- Parts of lists of bytes: read from their own bytes alone, after a write that covers them, and behind
-- what stands in front of them.
use Rattle.std.proofs.Common.{ℕ, ◌≡◌, ◌+◌, ◌<◌, ◌≤◌, List, [], ◌++◌, length, take, drop, get_or, refl, sym, ap, ◌∙◌, arith}
use Rattle.std.proofs.lemmas.List.{length-take, length-drop, get_or-take, get_or-drop, get_or-append-add, ext_get_or, take-append-drop, drop-drop, drop_at}
use Rattle.mb_word.specs.Numbers.{word_at, long_at, put_at, SameFrom}
use Rattle.mb_word.proofs.Writes.{put_at_own}

-- a byte of a part
pub get_or-part : (b : List ℕ) (at n k : ℕ) → k < n → get_or (take n (drop at b)) k 0 ≡ get_or b (at + k) 0
get_or-part b at n k within = get_or-take n (drop at b) k 0 within ∙ get_or-drop at b k 0

pub length-part : (b : List ℕ) (at n : ℕ) → at + n ≤ length b → length (take n (drop at b)) ≡ n
length-part b at n fits = omega (arith, length-take n (drop at b), length-drop at b)

-- a part is read from its own bytes alone
pub part_same : (a b : List ℕ) (at n : ℕ) → at + n ≤ length a → at + n ≤ length b → SameFrom a b at n → take n (drop at a) ≡ take n (drop at b)
part_same a b at n in_a in_b same =
    let la = length-part a at n in_a in
    let lb = length-part b at n in_b in
    ext_get_or 0 (take n (drop at a)) (take n (drop at b)) (omega arith)
    (λ k within. get_or-part a at n k (omega arith) ∙ same (at + k) (omega arith) (omega arith) ∙ sym (get_or-part b at n k (omega arith)))

-- the same bytes at two offsets make the same part
pub part_is : (a b : List ℕ) (at from n : ℕ) → at + n ≤ length a → from + n ≤ length b → ((k : ℕ) → k < n → get_or a (at + k) 0 ≡ get_or b (from + k) 0) → take n (drop at a) ≡ take n (drop from b)
part_is a b at from n in_a in_b same =
    let la = length-part a at n in_a in
    let lb = length-part b from n in_b in
    ext_get_or 0 (take n (drop at a)) (take n (drop from b)) (omega arith)
    (λ k within. get_or-part a at n k (omega arith) ∙ same k (omega arith) ∙ sym (get_or-part b from n k (omega arith)))

-- a part written where it stood changes nothing
pub part_unchanged : (b : List ℕ) (at n : ℕ) → at + n ≤ length b → put_at b at (take n (drop at b)) ≡ b
part_unchanged b at n fits =
    let len = length-part b at n fits in
    sym (put_at_own b at (take n (drop at b)) (omega arith) (λ k within. sym (get_or-part b at n k (omega arith))))

pub put_at_none : (b : List ℕ) (at : ℕ) → put_at b at [] ≡ b
unfolding put_at
put_at_none b at = ap (λ i. take at b ++ drop i b) (omega arith) ∙ take-append-drop at b

-- what stands behind a front of known length
pub byte_behind : (front xs : List ℕ) (n k i : ℕ) → length front ≡ n → i ≡ n + k → get_or (front ++ xs) i 0 ≡ get_or xs k 0
byte_behind front xs n k i len place =
    ap (λ j. get_or (front ++ xs) j 0) (place ∙ ap (λ m. m + k) (sym len)) ∙ get_or-append-add front xs k 0

pub word_behind : (front xs : List ℕ) (n k : ℕ) → length front ≡ n → word_at (front ++ xs) (n + k) ≡ word_at xs k
unfolding word_at
word_behind front xs n k len =
    let low = byte_behind front xs n k (n + k) len refl in
    let high = byte_behind front xs n (k + 1) (n + k + 1) len (omega arith) in
    omega (arith, low, high)

pub long_behind : (front xs : List ℕ) (n k : ℕ) → length front ≡ n → long_at (front ++ xs) (n + k) ≡ long_at xs k
unfolding long_at
long_behind front xs n k len =
    let high = word_behind front xs n k len in
    let low : word_at (front ++ xs) (n + k + 2) ≡ word_at xs (k + 2) =
    ap (word_at (front ++ xs)) (omega arith) ∙ word_behind front xs n (k + 2) len in
    omega (arith, high, low)

pub part_behind : (front xs : List ℕ) (n k m : ℕ) → length front ≡ n → take m (drop (n + k) (front ++ xs)) ≡ take m (drop k xs)
part_behind front xs n k m len = ap (take m) (sym (drop-drop k n (front ++ xs)) ∙ ap (drop k) (drop_at front xs n len))
