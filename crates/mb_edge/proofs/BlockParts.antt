-- A block of a list of bytes that is made of others.
use Rattle.std.proofs.Common.{ℕ, ◌+◌, ◌-◌, ◌*◌, ◌≤◌, ◌≡◌, List, ◌++◌, length, take, drop, replicate, refl, ap, ◌∙◌, arith}
use Rattle.std.proofs.lemmas.List.{take-take, drop-drop, drop-take, take_all, take-append-le, drop-append-le, length-drop, drop-replicate, take-replicate}
use Rattle.std.proofs.Math.Seq.{drop-append-add}
use Rattle.mb_kinds.specs.Image.{zeros}
use Rattle.mb_edge.specs.Blocks.{block_at}

pub block_at-front : (xs ys : List ℕ) (q : ℕ) → 512 * q + 512 ≤ length xs → block_at (xs ++ ys) q ≡ block_at xs q
unfolding block_at
block_at-front xs ys q within =
    ap (take 512) (drop-append-le (512 * q) xs ys (omega arith)) ∙ take-append-le 512 (drop (512 * q) xs) ys (rw length-drop (omega arith))

pub block_at-back : (xs ys : List ℕ) (m q p : ℕ) → length xs ≡ 512 * m → q ≡ m + p → block_at (xs ++ ys) q ≡ block_at ys p
unfolding block_at
block_at-back xs ys m q p size e =
    let start : 512 * q ≡ length xs + 512 * p = omega arith in
    ap (λ (n : ℕ). take 512 (drop n (xs ++ ys))) start ∙ ap (take 512) (drop-append-add xs ys (512 * p))

pub block_at-take : (xs : List ℕ) (n q : ℕ) → 512 * q + 512 ≤ n → block_at (take n xs) q ≡ block_at xs q
unfolding block_at
block_at-take xs n q within =
    let cut : n ≡ 512 * q + (n - 512 * q) = omega arith in
    ap (λ (k : ℕ). take 512 (drop (512 * q) (take k xs))) cut ∙ ap (take 512) (drop-take (512 * q) (n - 512 * q) xs) ∙ take-take 512 (n - 512 * q) (drop (512 * q) xs) (omega arith)

pub block_at-drop : (xs : List ℕ) (n m q p : ℕ) → n ≡ 512 * m → q ≡ m + p → block_at (drop n xs) p ≡ block_at xs q
unfolding block_at
block_at-drop xs n m q p start e =
    let at : n + 512 * p ≡ 512 * q = omega arith in
    ap (take 512) (drop-drop (512 * p) n xs ∙ ap (λ (k : ℕ). drop k xs) at)

pub block_at-whole : (xs : List ℕ) → length xs ≡ 512 → block_at xs 0 ≡ xs
unfolding block_at
block_at-whole xs size = take_all 512 xs (omega arith)

pub zeros_are : (n : ℕ) → n ≡ 512 → replicate n 0 ≡ zeros
unfolding zeros
zeros_are n e = ap (λ (k : ℕ). replicate k 0) e

zeros_front : (n k : ℕ) → n ≡ 512 → n ≤ k → take n (replicate k 0) ≡ zeros
zeros_front n k e within = take-replicate n k 0 within ∙ zeros_are n e

pub block_at-zeros : (k q : ℕ) → 512 * q + 512 ≤ k → block_at (replicate k 0) q ≡ zeros
unfolding block_at
block_at-zeros k q within = ap (take 512) (drop-replicate (512 * q) k 0) ∙ zeros_front 512 (k - 512 * q) refl (omega arith)
