-- Two records at different places are two also of those that a test keeps.
use Rattle.std.proofs.Common.{◌≡◌, ◌⊎◌, List, [], ◌∷◌, ℕ, zero, suc, ◌<◌, ◌≤◌, Bool, true, false, cond, length, inl, inr, sym, subst, arith, Some, slice_get}
use Rattle.std.proofs.lemmas.Option.{same_Some}
use Rattle.std.specs.List.{filter}

abbrev pub HasOne : {X : Type 0} → (X → Type 0) → List X → Type 0
HasOne P [] = ⊥
HasOne P (x ∷ xs) = P x ⊎ HasOne P xs

abbrev pub HasTwo : {X : Type 0} → (X → Type 0) → List X → Type 0
HasTwo P [] = ⊥
HasTwo P (x ∷ xs) = (P x × HasOne P xs) ⊎ HasTwo P xs

pub one_at : {X : Type 0} (P : X → Type 0) (xs : List X) (k : ℕ) (x : X) → slice_get xs k ≡ Some x → P x → HasOne P xs
one_at P [] k x here holds = absurd (cc (here))
one_at P (y ∷ ys) zero x here holds = inl (subst P (sym (same_Some y x here)) holds)
one_at P (y ∷ ys) (suc k) x here holds = inr (one_at P ys k x here holds)

pub two_at : {X : Type 0} (P : X → Type 0) (xs : List X) (i j : ℕ) (x y : X) → i < j → slice_get xs i ≡ Some x → slice_get xs j ≡ Some y → P x → P y → HasTwo P xs
two_at P [] i j x y less one other first second = absurd (cc (one))
two_at P (z ∷ zs) zero zero x y less one other first second = absurd (omega (arith, less))
two_at P (z ∷ zs) zero (suc j) x y less one other first second = inl (subst P (sym (same_Some z x one)) first, one_at P zs j y other second)
two_at P (z ∷ zs) (suc i) zero x y less one other first second = absurd (omega (arith, less))
two_at P (z ∷ zs) (suc i) (suc j) x y less one other first second = inr (two_at P zs i j x y (omega (arith, less)) one other first second)

pub one_kept : {X : Type 0} (P : X → Type 0) (p : X → Bool) (xs : List X) → ((x : X) → P x → p x ≡ true) → HasOne P xs → HasOne P (filter p xs)
one_kept P p [] keeps one = one
one_kept P p (x ∷ xs) keeps one = elim one [
  | inl here ↦ subst (λ b. HasOne P (cond b (x ∷ filter p xs) (filter p xs))) (sym (keeps x here)) (inl here)
  | inr later ↦ elim (p x) as (λ b. HasOne P (cond b (x ∷ filter p xs) (filter p xs))) [ true ↦ inr (one_kept P p xs keeps later) | false ↦ one_kept P p xs keeps later ]
]

pub two_kept : {X : Type 0} (P : X → Type 0) (p : X → Bool) (xs : List X) → ((x : X) → P x → p x ≡ true) → HasTwo P xs → HasTwo P (filter p xs)
two_kept P p [] keeps two = two
two_kept P p (x ∷ xs) keeps two = elim two [
  | inl here ↦ subst (λ b. HasTwo P (cond b (x ∷ filter p xs) (filter p xs))) (sym (keeps x here.0)) (inl (here.0, one_kept P p xs keeps here.1))
  | inr later ↦ elim (p x) as (λ b. HasTwo P (cond b (x ∷ filter p xs) (filter p xs))) [ true ↦ inr (two_kept P p xs keeps later) | false ↦ two_kept P p xs keeps later ]
]

one_long : {X : Type 0} (P : X → Type 0) (xs : List X) → HasOne P xs → 1 ≤ length xs
one_long P [] one = absurd one
one_long P (x ∷ xs) one = omega arith

pub two_long : {X : Type 0} (P : X → Type 0) (xs : List X) → HasTwo P xs → 2 ≤ length xs
two_long P [] two = absurd two
two_long P (x ∷ xs) two = elim two [ inl here ↦ omega (arith, one_long P xs here.1) | inr later ↦ omega (arith, two_long P xs later) ]
