-- Lists of entries and of sights: own entries, and facts that hold of each element.
use Rattle.std.proofs.Common.{◌≡◌, ◌≢◌, ℕ, eq-eqb, ne_eqb, List, [], ◌∷◌, ◌++◌, length, get_or, set, sym, ap, refl, ◌∙◌, append_assoc, arith}
use Rattle.std.specs.List.{AllZip}
use mathlib.Core.List.{IsPrefix}
use Rattle.mb_kinds.specs.Own.{own}
use Rattle.mb_kinds.specs.declared.Entry.{Entry}
use Rattle.mb_turn.specs.Passes.{EachIn}

module _ {A : Type 0} (P : A → Type 0) where
  pub each_append : (xs ys : List A) → EachIn P xs → EachIn P ys → EachIn P (xs ++ ys)
  each_append [] ys p q = q
  each_append (x ∷ xs) ys p q = (p.0, each_append xs ys p.1 q)

module _ {A : Type 0} where
  pub each_map : (P Q : A → Type 0) → ((x : A) → P x → Q x) → (xs : List A) → EachIn P xs → EachIn Q xs
  each_map P Q f [] p = tt
  each_map P Q f (x ∷ xs) p = (f x p.0, each_map P Q f xs p.1)

  -- what a list begins with, and what it ends with, is known from the whole
  pub append_cancel : (front xs ys : List A) → front ++ xs ≡ front ++ ys → xs ≡ ys
  append_cancel [] xs ys e = e
  append_cancel (x ∷ front) xs ys e = append_cancel front xs ys (cc)

  pub append_nil_left : (xs ys : List A) → xs ++ ys ≡ xs → ys ≡ []
  append_nil_left [] ys e = e
  append_nil_left (x ∷ xs) ys e = append_nil_left xs ys (cc)

  pub prefix_trans : (xs ys zs : List A) → IsPrefix xs ys → IsPrefix ys zs → IsPrefix xs zs
  prefix_trans xs ys zs p q = (p.0 ++ q.0, sym (append_assoc xs p.0 q.0) ∙ ap (λ l. l ++ q.0) p.1 ∙ q.1)

pub zip_push : {A B : Type 0} (R : A → B → Type 0) (xs : List A) (ys : List B) (x : A) (y : B) → AllZip R xs ys → R x y → AllZip R (xs ++ x ∷ []) (ys ++ y ∷ [])
zip_push R [] [] x y p q = (q, tt)
zip_push R [] (b ∷ ys) x y p q = absurd p
zip_push R (a ∷ xs) [] x y p q = absurd p
zip_push R (a ∷ xs) (b ∷ ys) x y p q = (p.0, zip_push R xs ys x y p.1 q)

-- two words: one of them changes
pub word_0 : (words : List ℕ) (n : ℕ) → length words ≡ 2 → (length (set words 0 n) ≡ 2) × (get_or (set words 0 n) 0 0 ≡ n) × (get_or (set words 0 n) 1 0 ≡ get_or words 1 0)
word_0 [] n e = absurd (omega arith)
word_0 (x ∷ []) n e = absurd (omega arith)
word_0 (x ∷ y ∷ words) n e = (e, refl, refl)

pub word_1 : (words : List ℕ) (n : ℕ) → length words ≡ 2 → (length (set words 1 n) ≡ 2) × (get_or (set words 1 n) 0 0 ≡ get_or words 0 0) × (get_or (set words 1 n) 1 0 ≡ n)
word_1 [] n e = absurd (omega arith)
word_1 (x ∷ []) n e = absurd (omega arith)
word_1 (x ∷ y ∷ words) n e = (e, refl, refl)

pub own_all : (entries : List Entry) (caller : ℕ) → EachIn (λ (e : Entry). e.caller ≡ caller) entries → own entries caller ≡ entries
own_all [] caller all = refl
own_all (e ∷ entries) caller all = rw (eq-eqb e.caller caller all.0) (ap (λ l. e ∷ l) (own_all entries caller all.1))

pub own_none : (entries : List Entry) (caller other : ℕ) → caller ≢ other → EachIn (λ (e : Entry). e.caller ≡ caller) entries → own entries other ≡ []
own_none [] caller other apart all = refl
own_none (e ∷ entries) caller other apart all = rw (ne_eqb e.caller other (λ h. apart (sym all.0 ∙ h))) (own_none entries caller other apart all.1)
