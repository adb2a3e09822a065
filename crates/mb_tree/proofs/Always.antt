-- What holds of every value that an answer can give, line by line.
use Rattle.std.proofs.Common.{◌≡◌, subst, refl, Ok, Err}
use Rattle.mb_kinds.specs.declared.errors.Errno.{Errno}
use Rattle.mb_tree.specs.Answers.{Answer, ◌>>=◌, ◌>>◌}

pub record Always {A : Type 0} (P : A → Type 0) (answer : Answer A) : Type 0 where
  pub holds : (x : A) → answer ≡ Ok x → P x

pub same_ok : {A : Type 0} (x y : A) → ◌≡◌ {A = Answer A} (Ok x) (Ok y) → x ≡ y
same_ok x y h = cc

pub not_ok : {A : Type 0} (e : Errno) (y : A) → ◌≡◌ {A = Answer A} (Err e) (Ok y) → ⊥
not_ok e y h = cc

pub bind_ok : {A B : Type 0} (r : Answer A) (f : A → Answer B) (y : B) → (r >>= f) ≡ Ok y → (x : A) × (r ≡ Ok x) × (f x ≡ Ok y)
bind_ok (Ok x) f y h = (x, refl, h)
bind_ok (Err e) f y h = cc

pub then_ok : {A B : Type 0} (r : Answer A) (s : Answer B) (y : B) → (r >> s) ≡ Ok y → (x : A) × (r ≡ Ok x) × (s ≡ Ok y)
then_ok (Ok x) s y h = (x, refl, h)
then_ok (Err e) s y h = cc

module _ {B : Type 0} (P : B → Type 0) where
  pub always_ok : (x : B) → P x → Always P (Ok x)
  always_ok x h = record { holds = λ y e. subst P (same_ok x y e) h }

  pub always_err : (e : Errno) → Always P (Err e)
  always_err e = record { holds = λ y h. absurd (not_ok e y h) }

  pub always_bind : {A : Type 0} (r : Answer A) (f : A → Answer B) → ((x : A) → Always P (f x)) → Always P (r >>= f)
  always_bind (Ok x) f h = h x
  always_bind (Err e) f h = always_err e

  pub always_then : {A : Type 0} (r : Answer A) (s : Answer B) → Always P s → Always P (r >> s)
  always_then (Ok x) s h = h
  always_then (Err e) s h = always_err e
