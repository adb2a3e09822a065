-- A row of values by their numbers, read at a place.
use Rattle.std.proofs.Common.{◌≡◌, ℕ, zero, suc, ◌+◌, ◌<◌, ◌≤◌, map, length, Option, Some, None, slice_get, refl, ap, ◌∙◌, arith}
use Rattle.std.specs.List.{range_with_len}
use Rattle.mb_tree.proofs.CellMaps.{cell}

module _ {X : Type 0} where
  pub row_has : (f : ℕ → X) (a n k : ℕ) → k < n → slice_get (map f (range_with_len a n)) k ≡ Some (f (a + k))
  row_has f a zero k low = absurd (omega (arith, low))
  row_has f a (suc n) zero low = ap (λ x. Some (f x)) (let e : a ≡ a + 0 = omega arith in e)
  row_has f a (suc n) (suc k) low = row_has f (a + 1) n k (omega (arith, low)) ∙ ap (λ x. Some (f x)) (let e : a + 1 + k ≡ a + suc k = omega arith in e)

  pub record IsRowAt (f : ℕ → X) (a n k : ℕ) (x : X) : Type 0 where
    pub below : k < n
    pub is : f (a + k) ≡ x

  pub row_at : (f : ℕ → X) (a n k : ℕ) (x : X) → slice_get (map f (range_with_len a n)) k ≡ Some x → IsRowAt f a n k x
  row_at f a zero k x h = absurd (cc)
  row_at f a (suc n) zero x h = record { below = omega arith; is = ap f (let e : a + 0 ≡ a = omega arith in e) ∙ (let e : f a ≡ x = cc in e) }
  row_at f a (suc n) (suc k) x h =
      let rest = row_at f (a + 1) n k x h in
      let low = rest.below in
      record { below = omega (arith, low); is = ap f (let e : a + suc k ≡ a + 1 + k = omega arith in e) ∙ rest.is }

  pub cell_row : (f : ℕ → Option X) (a n k : ℕ) → k < n → cell (map f (range_with_len a n)) k ≡ f (a + k)
  cell_row f a zero k low = absurd (omega (arith, low))
  cell_row f a (suc n) zero low = ap f (let e : a ≡ a + 0 = omega arith in e)
  cell_row f a (suc n) (suc k) low = cell_row f (a + 1) n k (omega (arith, low)) ∙ ap f (let e : a + 1 + k ≡ a + suc k = omega arith in e)

  pub cell_past : (f : ℕ → Option X) (a n k : ℕ) → n ≤ k → cell (map f (range_with_len a n)) k ≡ None
  cell_past f a zero k low = refl
  cell_past f a (suc n) zero low = absurd (omega (arith, low))
  cell_past f a (suc n) (suc k) low = cell_past f (a + 1) n k (omega (arith, low))

  pub row_length : (f : ℕ → X) (a n : ℕ) → length (map f (range_with_len a n)) ≡ n
  row_length f a zero = refl
  row_length f a (suc n) = (let e = row_length f (a + 1) n in omega (arith, e))
