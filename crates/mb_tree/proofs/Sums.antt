-- Sums over numbers in a row: one term changed, two orders, and bounds.
use Rattle.std.proofs.Common.{◌≡◌, ◌≢◌, inl, inr, ℕ, zero, suc, ◌+◌, ◌<◌, ◌≤◌, Option, Some, None, refl, sym, ap, ◌∙◌, arith}
use Rattle.std.specs.FinMap as fin
use Rattle.mb_tree.specs.Maps.{Numbered}
use Rattle.mb_tree.specs.Counting.{sum_below}
use Rattle.mb_tree.proofs.FiniteMaps.{get_here, get_there, gone_here, gone_there, one_or_not}

-- functions that agree below n have one sum
pub sum_same : (g h : ℕ → ℕ) (n : ℕ) → ((k : ℕ) → k < n → h k ≡ g k) → sum_below h n ≡ sum_below g n
unfolding sum_below
sum_same g h zero each = refl
sum_same g h (suc n) each = omega (arith, each n (omega arith), sum_same g h n (λ k low. each k (omega arith)))

-- nothing added up
pub sum_nothing : (g : ℕ → ℕ) (n : ℕ) → ((k : ℕ) → k < n → g k ≡ 0) → sum_below g n ≡ 0
unfolding sum_below
sum_nothing g zero each = refl
sum_nothing g (suc n) each = omega (arith, each n (omega arith), sum_nothing g n (λ k low. each k (omega arith)))

-- functions that agree but at j
pub sum_but : (g h : ℕ → ℕ) (j n : ℕ) → j < n → ((k : ℕ) → k ≢ j → h k ≡ g k) → sum_below h n + g j ≡ sum_below g n + h j
unfolding sum_below
sum_but g h j zero low each = absurd (omega arith)
sum_but g h j (suc n) low each = elim (one_or_not j n) [
  | inl is ↦
      let rest : sum_below h n ≡ sum_below g n = sum_same g h n (λ k less. each k (omega (arith, is))) in
      let one : g j ≡ g n = ap g is in
      let two : h j ≡ h n = ap h is in
      omega (arith, rest, one, two)
  | inr apart ↦
      let rest = sum_but g h j n (omega (arith, apart)) each in
      let last : h n ≡ g n = each n (λ e. apart (sym e)) in
      omega (arith, rest, last)
]

-- one term is at most the sum
pub sum_term : (g : ℕ → ℕ) (j n : ℕ) → j < n → g j ≤ sum_below g n
unfolding sum_below
sum_term g j zero low = absurd (omega arith)
sum_term g j (suc n) low = elim (one_or_not j n) [
  | inl is ↦ let one : g j ≡ g n = ap g is in omega (arith, one)
  | inr apart ↦ let rest = sum_term g j n (omega (arith, apart)) in omega (arith, rest)
]

-- two terms are at most the sum
pub sum_terms : (g : ℕ → ℕ) (i j n : ℕ) → i < n → j < n → i ≢ j → g i + g j ≤ sum_below g n
unfolding sum_below
sum_terms g i j zero low less apart = absurd (omega arith)
sum_terms g i j (suc n) low less apart = elim (one_or_not i n) [
  | inl is ↦
      let one : g i ≡ g n = ap g is in
      let other = sum_term g j n (omega (arith, is, apart)) in
      omega (arith, one, other)
  | inr beside ↦ elim (one_or_not j n) [
    | inl is ↦
        let one : g j ≡ g n = ap g is in
        let other = sum_term g i n (omega (arith, is, apart)) in
        omega (arith, one, other)
    | inr below ↦ let rest = sum_terms g i j n (omega (arith, beside)) (omega (arith, below)) apart in omega (arith, rest)
  ]
]

-- two sums as one
pub sum_plus : (f g : ℕ → ℕ) (n : ℕ) → sum_below (λ k. f k + g k) n ≡ sum_below f n + sum_below g n
unfolding sum_below
sum_plus f g zero = refl
sum_plus f g (suc n) = omega (arith, sum_plus f g n)

-- by rows or by columns
pub sum_swap : (f : ℕ → ℕ → ℕ) (m n : ℕ) → sum_below (λ p. sum_below (f p) m) n ≡ sum_below (λ d. sum_below (λ p. f p d) n) m
unfolding sum_below
sum_swap f m zero = sym (sum_nothing (λ d. 0) m (λ k b. refl))
sum_swap f m (suc n) =
    let rest : sum_below (λ p. sum_below (f p) m) n ≡ sum_below (λ d. sum_below (λ p. f p d) n) m = sum_swap f m n in
    let both : sum_below (λ d. f n d + sum_below (λ p. f p d) n) m ≡ sum_below (f n) m + sum_below (λ d. sum_below (λ p. f p d) n) m = sum_plus (f n) (λ d. sum_below (λ p. f p d) n) m in
    ap (λ x. sum_below (f n) m + x) rest ∙ sym both

-- terms of at least 1, terms of at most 1, and one of 0 among these
pub sum_full : (g : ℕ → ℕ) (n : ℕ) → ((k : ℕ) → k < n → 1 ≤ g k) → n ≤ sum_below g n
unfolding sum_below
sum_full g zero each = omega arith
sum_full g (suc n) each = omega (arith, each n (omega arith), sum_full g n (λ k b. each k (omega arith)))

pub sum_few : (g : ℕ → ℕ) (n : ℕ) → ((k : ℕ) → g k ≤ 1) → sum_below g n ≤ n
unfolding sum_below
sum_few g zero each = omega arith
sum_few g (suc n) each = omega (arith, each n, sum_few g n each)

pub sum_short : (g : ℕ → ℕ) (j n : ℕ) → j < n → g j ≡ 0 → ((k : ℕ) → g k ≤ 1) → sum_below g n < n
unfolding sum_below
sum_short g j zero b none each = absurd (omega arith)
sum_short g j (suc n) b none each = elim (one_or_not j n) [
  | inl is ↦ let e : g n ≡ 0 = ap g (sym is) ∙ none in omega (arith, e, sum_few g n each)
  | inr apart ↦ omega (arith, each n, sum_short g j n (omega arith) none each)
]

-- a sum over the values of a map, where one value is put or taken
module _ {X : Type 0} (g : Option X → ℕ) (m : Numbered X) (k n : ℕ) (low : k < n) where
  pub sum_put : (x : X) → sum_below (λ q. g (fin.get (fin.insert m k x) q)) n + g (fin.get m k) ≡ sum_below (λ q. g (fin.get m q)) n + g (Some x)
  sum_put x =
      let here : g (fin.get (fin.insert m k x) k) ≡ g (Some x) = ap g (get_here m k x) in
      let all = sum_but (λ q. g (fin.get m q)) (λ q. g (fin.get (fin.insert m k x) q)) k n low (λ q apart. ap g (get_there m k x q apart)) in
      omega (arith, here, all)

  pub sum_gone : sum_below (λ q. g (fin.get (fin.remove m k) q)) n + g (fin.get m k) ≡ sum_below (λ q. g (fin.get m q)) n + g None
  sum_gone =
      let here : g (fin.get (fin.remove m k) k) ≡ g None = ap g (gone_here m k) in
      let all = sum_but (λ q. g (fin.get m q)) (λ q. g (fin.get (fin.remove m k) q)) k n low (λ q apart. ap g (gone_there m k q apart)) in
      omega (arith, here, all)
