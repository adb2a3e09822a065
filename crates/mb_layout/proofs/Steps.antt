-- Writes one behind the other, and bytes that read alike at two places.
use Rattle.std.proofs.Common.{ℕ, ◌≡◌, ◌+◌, ◌<◌, ◌≤◌, List, ◌++◌, length, take, drop, get_or, refl, ap, ◌∙◌, arith}
use Rattle.std.proofs.lemmas.List.{length-append}
use Rattle.mb_word.specs.Numbers.{word_at, long_at, addr_at, put_at, SameFrom}
use Rattle.mb_word.proofs.Parts.{part_is}
use Rattle.mb_word.proofs.Writes.{put_more, put_at_in}

-- c is b after the n bytes xs were written at an offset
pub record Put (b c : List ℕ) (at n : ℕ) (xs : List ℕ) : Type 0 where
  pub len : length xs ≡ n
  pub put : c ≡ put_at b at xs

-- one write more, right behind
pub more : {b c d : List ℕ} {at n : ℕ} {xs : List ℕ} → Put b c at n xs → (ys : List ℕ) (m : ℕ) → length ys ≡ m → at + n + m ≤ length b → d ≡ put_at c (at + n) ys → Put b d at (n + m) (xs ++ ys)
more {b = b} {c = c} {d = d} {at = at} {n = n} {xs = xs} first ys m len fits next = record {
  len = omega (arith, length-append xs ys, first.len);
  put = put_more b c d at (at + n) n xs ys first.len refl (omega arith) first.put next;
}

-- n bytes of a from one offset on are those of b from another on
abbrev pub Alike : List ℕ → List ℕ → ℕ → ℕ → ℕ → Type 0
Alike a b at from n = (k : ℕ) → k < n → get_or a (at + k) 0 ≡ get_or b (from + k) 0

pub alike_part : (a b : List ℕ) (at from n j m : ℕ) → Alike a b at from n → j + m ≤ n → Alike a b (at + j) (from + j) m
alike_part a b at from n j m same within k below =
    ap (λ i. get_or a i 0) (omega arith) ∙ same (j + k) (omega arith) ∙ ap (λ i. get_or b i 0) (omega arith)

-- the same at a whole list's front
pub alike_front : (a b : List ℕ) (n j m : ℕ) → Alike a b 0 0 n → j + m ≤ n → Alike a b j j m
alike_front a b n j m same within k below = ap (λ i. get_or a i 0) (omega arith) ∙ same (j + k) (omega arith) ∙ ap (λ i. get_or b i 0) (omega arith)

pub alike_same : (a b : List ℕ) (at n : ℕ) → SameFrom a b at n → Alike a b at at n
alike_same a b at n same k below = same (at + k) (omega arith) (omega arith)

pub alike_put : (b : List ℕ) (at : ℕ) (xs : List ℕ) → at + length xs ≤ length b → Alike (put_at b at xs) xs at 0 (length xs)
alike_put b at xs fits k below = put_at_in b at xs k fits below ∙ ap (λ i. get_or xs i 0) (omega arith)

pub word_alike : (a b : List ℕ) (at from : ℕ) → Alike a b at from 2 → word_at a at ≡ word_at b from
unfolding word_at
word_alike a b at from same =
    let low : get_or a at 0 ≡ get_or b from 0 = ap (λ i. get_or a i 0) (omega arith) ∙ same 0 (omega arith) ∙ ap (λ i. get_or b i 0) (omega arith) in
    let high = same 1 (omega arith) in
    omega (arith, low, high)

pub long_alike : (a b : List ℕ) (at from : ℕ) → Alike a b at from 4 → long_at a at ≡ long_at b from
unfolding long_at
long_alike a b at from same =
    let high = word_alike a b at from (λ k below. same k (omega arith)) in
    let low = word_alike a b (at + 2) (from + 2) (alike_part a b at from 4 2 2 same (omega arith)) in
    omega (arith, high, low)

pub addr_alike : (a b : List ℕ) (at from : ℕ) → Alike a b at from 3 → addr_at a at ≡ addr_at b from
unfolding addr_at
addr_alike a b at from same =
    let high : get_or a at 0 ≡ get_or b from 0 = ap (λ i. get_or a i 0) (omega arith) ∙ same 0 (omega arith) ∙ ap (λ i. get_or b i 0) (omega arith) in
    let low = word_alike a b (at + 1) (from + 1) (alike_part a b at from 3 1 2 same (omega arith)) in
    omega (arith, high, low)

pub part_alike : (a b : List ℕ) (at from n : ℕ) → at + n ≤ length a → from + n ≤ length b → Alike a b at from n → take n (drop at a) ≡ take n (drop from b)
part_alike a b at from n in_a in_b same = part_is a b at from n in_a in_b same
