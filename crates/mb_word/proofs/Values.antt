-- What numbers read as: from their own bytes alone, after a write that covers them, and after a write
-- elsewhere.
use Rattle.std.proofs.Common.{ℕ, zero, suc, ◌≡◌, ◌+◌, ◌-◌, ◌<◌, ◌≤◌, List, length, take, drop, get_or, refl, sym, ap, ◌∙◌, arith}
use Rattle.std.proofs.lemmas.List.{get_or-drop, take_rest}
use Rattle.mb_word.specs.Numbers.{word_at, long_at, addr_at, put_at, word_bytes, long_bytes, addr_bytes, SameFrom, AreBytes}
use Rattle.mb_word.proofs.Writes.{put_at_in, put_at_own}
use Rattle.byteorder.specs.Endian.{little_number}

-- a number is read from its own bytes alone
pub word_at-same : (a b : List ℕ) (at : ℕ) → SameFrom a b at 2 → word_at a at ≡ word_at b at
unfolding word_at
word_at-same a b at same = omega (arith, same at (omega arith) (omega arith), same (at + 1) (omega arith) (omega arith))

pub long_at-same : (a b : List ℕ) (at : ℕ) → SameFrom a b at 4 → long_at a at ≡ long_at b at
unfolding long_at
long_at-same a b at same = omega (
  arith,
  word_at-same a b at (λ k low high. same k low (omega arith)),
  word_at-same a b (at + 2) (λ k low high. same k (omega arith) (omega arith)),
)

pub addr_at-same : (a b : List ℕ) (at : ℕ) → SameFrom a b at 3 → addr_at a at ≡ addr_at b at
unfolding addr_at
addr_at-same a b at same = omega (
  arith,
  same at (omega arith) (omega arith),
  word_at-same a b (at + 1) (λ k low high. same k (omega arith) (omega arith)),
)

-- a number within what was written at `at` reads as in what was written
pub word_at-put : (b : List ℕ) (at : ℕ) (xs : List ℕ) (n : ℕ) → at + length xs ≤ length b → n + 2 ≤ length xs → word_at (put_at b at xs) (at + n) ≡ word_at xs n
unfolding word_at
word_at-put b at xs n fits within =
    let high : get_or (put_at b at xs) (at + n + 1) 0 ≡ get_or xs (n + 1) 0 =
    ap (λ i. get_or (put_at b at xs) i 0) (omega arith) ∙ put_at_in b at xs (n + 1) fits (omega arith) in
    omega (arith, put_at_in b at xs n fits (omega arith), high)

pub long_at-put : (b : List ℕ) (at : ℕ) (xs : List ℕ) (n : ℕ) → at + length xs ≤ length b → n + 4 ≤ length xs → long_at (put_at b at xs) (at + n) ≡ long_at xs n
unfolding long_at
long_at-put b at xs n fits within =
    let low : word_at (put_at b at xs) (at + n + 2) ≡ word_at xs (n + 2) =
    ap (word_at (put_at b at xs)) (omega arith) ∙ word_at-put b at xs (n + 2) fits (omega arith) in
    omega (arith, word_at-put b at xs n fits (omega arith), low)

pub addr_at-put : (b : List ℕ) (at : ℕ) (xs : List ℕ) (n : ℕ) → at + length xs ≤ length b → n + 3 ≤ length xs → addr_at (put_at b at xs) (at + n) ≡ addr_at xs n
unfolding addr_at
addr_at-put b at xs n fits within =
    let low : word_at (put_at b at xs) (at + n + 1) ≡ word_at xs (n + 1) =
    ap (word_at (put_at b at xs)) (omega arith) ∙ word_at-put b at xs (n + 1) fits (omega arith) in
    omega (arith, put_at_in b at xs n fits (omega arith), low)

pub length-word_bytes : (value : ℕ) → length (word_bytes value) ≡ 2
unfolding word_bytes
length-word_bytes value = refl

pub length-long_bytes : (value : ℕ) → length (long_bytes value) ≡ 4
unfolding long_bytes word_bytes
length-long_bytes value = refl

pub length-addr_bytes : (value : ℕ) → length (addr_bytes value) ≡ 3
unfolding addr_bytes word_bytes
length-addr_bytes value = refl

-- the bytes of a number read as that number
pub word_is : (value : ℕ) → value < 65536 → word_at (word_bytes value) 0 ≡ value
unfolding word_at word_bytes
word_is value small = omega arith

pub long_is : (value : ℕ) → value < 4294967296 → long_at (long_bytes value) 0 ≡ value
unfolding long_at word_at long_bytes word_bytes
long_is value small = omega arith

pub addr_is : (value : ℕ) → value < 16777216 → addr_at (addr_bytes value) 0 ≡ value
unfolding addr_at word_at addr_bytes word_bytes
addr_is value small = omega arith

moved : (b : List ℕ) (i j : ℕ) → i ≡ j → get_or b i 0 ≡ get_or b j 0
moved b i j e = ap (λ k. get_or b k 0) e

-- the bytes that stand at an offset are those of the number that stands there
own_word : (b : List ℕ) (at : ℕ) → AreBytes b → (k : ℕ) → k < length (word_bytes (word_at b at)) → get_or b (at + k) 0 ≡ get_or (word_bytes (word_at b at)) k 0
unfolding word_at word_bytes
own_word b at bytes zero within = let e = moved b (at + 0) at (omega arith) in omega (arith, bytes at, bytes (at + 1))
own_word b at bytes (suc zero) within = omega (arith, bytes at, bytes (at + 1))
own_word b at bytes (suc (suc k)) within = absurd (omega arith)

own_long : (b : List ℕ) (at : ℕ) → AreBytes b → (k : ℕ) → k < length (long_bytes (long_at b at)) → get_or b (at + k) 0 ≡ get_or (long_bytes (long_at b at)) k 0
unfolding long_at word_at long_bytes word_bytes
own_long b at bytes zero within = let e = moved b (at + 0) at (omega arith) in omega (arith, bytes at, bytes (at + 1), bytes (at + 2), bytes (at + 2 + 1))
own_long b at bytes (suc zero) within = omega (arith, bytes at, bytes (at + 1), bytes (at + 2), bytes (at + 2 + 1))
own_long b at bytes (suc (suc zero)) within = omega (arith, bytes at, bytes (at + 1), bytes (at + 2), bytes (at + 2 + 1))
own_long b at bytes (suc (suc (suc zero))) within = let e = moved b (at + 3) (at + 2 + 1) (omega arith) in omega (arith, bytes at, bytes (at + 1), bytes (at + 2), bytes (at + 2 + 1))
own_long b at bytes (suc (suc (suc (suc k)))) within = absurd (omega arith)

own_addr : (b : List ℕ) (at : ℕ) → AreBytes b → (k : ℕ) → k < length (addr_bytes (addr_at b at)) → get_or b (at + k) 0 ≡ get_or (addr_bytes (addr_at b at)) k 0
unfolding addr_at word_at addr_bytes word_bytes
own_addr b at bytes zero within = let e = moved b (at + 0) at (omega arith) in omega (arith, bytes at, bytes (at + 1), bytes (at + 1 + 1))
own_addr b at bytes (suc zero) within = omega (arith, bytes at, bytes (at + 1), bytes (at + 1 + 1))
own_addr b at bytes (suc (suc zero)) within = let e = moved b (at + 2) (at + 1 + 1) (omega arith) in omega (arith, bytes at, bytes (at + 1), bytes (at + 1 + 1))
own_addr b at bytes (suc (suc (suc k))) within = absurd (omega arith)

-- a number written reads back
pub word_back : (b : List ℕ) (at value : ℕ) → at + 2 ≤ length b → value < 65536 → word_at (put_at b at (word_bytes value)) at ≡ value
word_back b at value fits small =
    ap (word_at (put_at b at (word_bytes value))) (omega arith)
    ∙ word_at-put b at (word_bytes value) 0 (omega (arith, length-word_bytes value)) (omega (arith, length-word_bytes value))
    ∙ word_is value small

pub long_back : (b : List ℕ) (at value : ℕ) → at + 4 ≤ length b → value < 4294967296 → long_at (put_at b at (long_bytes value)) at ≡ value
long_back b at value fits small =
    ap (long_at (put_at b at (long_bytes value))) (omega arith)
    ∙ long_at-put b at (long_bytes value) 0 (omega (arith, length-long_bytes value)) (omega (arith, length-long_bytes value))
    ∙ long_is value small

pub addr_back : (b : List ℕ) (at value : ℕ) → at + 3 ≤ length b → value < 16777216 → addr_at (put_at b at (addr_bytes value)) at ≡ value
addr_back b at value fits small =
    ap (addr_at (put_at b at (addr_bytes value))) (omega arith)
    ∙ addr_at-put b at (addr_bytes value) 0 (omega (arith, length-addr_bytes value)) (omega (arith, length-addr_bytes value))
    ∙ addr_is value small

-- what was read, written where it stood, changes nothing
pub word_unchanged : (b : List ℕ) (at : ℕ) → AreBytes b → at + 2 ≤ length b → put_at b at (word_bytes (word_at b at)) ≡ b
word_unchanged b at bytes fits = sym (put_at_own b at (word_bytes (word_at b at)) (omega (arith, length-word_bytes (word_at b at))) (own_word b at bytes))

pub long_unchanged : (b : List ℕ) (at : ℕ) → AreBytes b → at + 4 ≤ length b → put_at b at (long_bytes (long_at b at)) ≡ b
long_unchanged b at bytes fits = sym (put_at_own b at (long_bytes (long_at b at)) (omega (arith, length-long_bytes (long_at b at))) (own_long b at bytes))

pub addr_unchanged : (b : List ℕ) (at : ℕ) → AreBytes b → at + 3 ≤ length b → put_at b at (addr_bytes (addr_at b at)) ≡ b
addr_unchanged b at bytes fits = sym (put_at_own b at (addr_bytes (addr_at b at)) (omega (arith, length-addr_bytes (addr_at b at))) (own_addr b at bytes))

-- what byteorder reads from a part from an offset on
pub word_of_rest : (b : List ℕ) (at : ℕ) → little_number 2 (take (length b - at) (drop at b)) ≡ word_at b at
unfolding word_at
word_of_rest b at =
    let low = get_or-drop at b 0 0 ∙ moved b (at + 0) at (omega arith) in
    let high = get_or-drop at b 1 0 in
    ap (little_number 2) (take_rest b at) ∙ omega (arith, low, high)
