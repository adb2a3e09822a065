-- Each caller of a job has a worker, and what all workers did.
use Rattle.std.proofs.Common.{◌≡◌, ◌≢◌, ◌⊎◌, List, [], ◌∷◌, ◌++◌, ℕ, zero, suc, ◌+◌, ◌-◌, ◌<◌, ◌≤◌, Bool, true, false, length, map, inl, inr, refl, ap, sym, subst, ◌∙◌, arith, Option, None, Some}
use Rattle.std.proofs.lemmas.Bool.Decides.{leb_tells}
use Rattle.std.specs.List.{AllByRecursion, AllZip, range_with_len}
use Rattle.atomic_table.specs.Seated.{TableId}
use Rattle.mb_edge.specs.declared.crossings.Crossing.{Crossing}
use Rattle.mb_turn.specs.Passes.{Known, known}
use Rattle.mb_volume.proofs.Pairs.{HasOne}
use Rattle.mb_threads.specs.Driven.{test_of}

pub all_in : {X Y : Type 0} (P : Y → Type 0) (f : X → Y) (xs : List X) → AllByRecursion P (map f xs) → AllByRecursion (λ x. P (f x)) xs
all_in P f [] all = tt
all_in P f (x ∷ xs) all = (all.0, all_in P f xs all.1)

pub all_out : {X Y : Type 0} (P : Y → Type 0) (f : X → Y) (xs : List X) → AllByRecursion (λ x. P (f x)) xs → AllByRecursion P (map f xs)
all_out P f [] all = tt
all_out P f (x ∷ xs) all = (all.0, all_out P f xs all.1)

pub all_and : {X : Type 0} (P Q R : X → Type 0) (xs : List X) → ((x : X) → P x → Q x → R x) → AllByRecursion P xs → AllByRecursion Q xs → AllByRecursion R xs
all_and P Q R [] both one other = tt
all_and P Q R (x ∷ xs) both one other = (both x one.0 other.0, all_and P Q R xs both one.1 other.1)

pub zip_all : {X Y : Type 0} (R : X → Y → Type 0) (P : X → Type 0) (Q : Y → Type 0) (xs : List X) (ys : List Y) → ((x : X) (y : Y) → P x → R x y → Q y) → AllZip R xs ys → AllByRecursion P xs → AllByRecursion Q ys
zip_all R P Q [] [] both zip all = tt
zip_all R P Q [] (y ∷ ys) both zip all = absurd zip
zip_all R P Q (x ∷ xs) [] both zip all = absurd zip
zip_all R P Q (x ∷ xs) (y ∷ ys) both zip all = (both x y all.0 zip.0, zip_all R P Q xs ys both zip.1 all.1)

pub zip_map : {X Y Z : Type 0} (R : X → Y → Type 0) (f : X → Z) (g : Y → Z) (xs : List X) (ys : List Y) → ((x : X) (y : Y) → R x y → g y ≡ f x) → AllZip R xs ys → map g ys ≡ map f xs
zip_map R f g [] [] same zip = refl
zip_map R f g [] (y ∷ ys) same zip = absurd zip
zip_map R f g (x ∷ xs) [] same zip = absurd zip
zip_map R f g (x ∷ xs) (y ∷ ys) same zip = ap (λ z. z ∷ map g ys) (same x y zip.0) ∙ ap (λ zs. f x ∷ zs) (zip_map R f g xs ys same zip.1)

lower : (m n : ℕ) → m ≤ n → (m ≡ n) ⊎ (m + 1 ≤ n)
lower m n low = elim (leb_tells (m + 1) n) [ inl below ↦ inr below.1 | inr above ↦ inl (omega (arith, low, above.1)) ]

-- one of them has each number
pub one_with : {X : Type 0} (f : X → ℕ) (first count number : ℕ) (xs : List X) → map f xs ≡ range_with_len first count → first ≤ number → number < first + count → HasOne (λ x. f x ≡ number) xs
one_with f first zero number xs all low high = absurd (omega (arith, low, high))
one_with f first (suc count) number [] all low high = absurd (let wrong : [] ≡ first ∷ range_with_len (first + 1) count = all in cc)
one_with f first (suc count) number (x ∷ xs) all low high =
    let listed : f x ∷ map f xs ≡ first ∷ range_with_len (first + 1) count = all in
    let here : f x ≡ first = cc in
    let rest : map f xs ≡ range_with_len (first + 1) count = cc in
    elim (lower first number low) [
      | inl same ↦ inl (here ∙ same)
      | inr later ↦ inr (one_with f (first + 1) count number xs rest later (omega (arith, high)))
    ]

pub taken : {X : Type 0} (P Q : X → Type 0) (xs : List X) → HasOne P xs → AllByRecursion Q xs → (x : X) × P x × Q x
taken P Q [] one all = absurd one
taken P Q (x ∷ xs) one all = elim one [ inl here ↦ (x, here, all.0) | inr later ↦ taken P Q xs later all.1 ]

later : {X : Type 0} (f : X → ℕ) (test : X → Option (Crossing → Bool)) (first : ℕ) (one : Option (Crossing → Bool)) (tests : List (Option (Crossing → Bool))) (xs : List X) → AllByRecursion (λ x. (first + 1 ≤ f x) × (test x ≡ test_of tests (f x - (first + 1)))) xs
    → AllByRecursion (λ x. (first ≤ f x) × (test x ≡ test_of (one ∷ tests) (f x - first))) xs
later f test first one tests [] all = tt
later f test first one tests (x ∷ xs) all =
    let next : f x - first ≡ suc (f x - (first + 1)) = omega (arith, all.0.0) in
    ((omega (arith, all.0.0), all.0.1 ∙ sym (ap (test_of (one ∷ tests)) next)), later f test first one tests xs all.1)

-- the fault injector at a worker's place is its caller's
tests_from : {X : Type 0} (f : X → ℕ) (test : X → Option (Crossing → Bool)) (first count : ℕ) (xs : List X) (tests : List (Option (Crossing → Bool))) → map f xs ≡ range_with_len first count → map test xs ≡ tests
    → AllByRecursion (λ x. (first ≤ f x) × (test x ≡ test_of tests (f x - first))) xs
tests_from f test first zero [] tests all same = tt
tests_from f test first zero (x ∷ xs) tests all same = absurd (let wrong : f x ∷ map f xs ≡ [] = all in cc)
tests_from f test first (suc count) [] tests all same = tt
tests_from f test first (suc count) (x ∷ xs) [] all same = absurd (let wrong : test x ∷ map test xs ≡ [] = same in cc)
tests_from f test first (suc count) (x ∷ xs) (one ∷ tests) all same =
    let listed : f x ∷ map f xs ≡ first ∷ range_with_len (first + 1) count = all in
    let here : f x ≡ first = cc in
    let rest : map f xs ≡ range_with_len (first + 1) count = cc in
    let both : test x ∷ map test xs ≡ one ∷ tests = same in
    let mine : test x ≡ one = cc in
    let others : map test xs ≡ tests = cc in
    let none : f x - first ≡ zero = omega (arith, here) in (
      (omega (arith, here), mine ∙ sym (ap (test_of (one ∷ tests)) none)),
      later f test first one tests xs (tests_from f test (first + 1) count xs tests rest others),
    )

tests_now : {X : Type 0} (f : X → ℕ) (test : X → Option (Crossing → Bool)) (tests : List (Option (Crossing → Bool))) (ys : List X) → AllByRecursion (λ y. (0 ≤ f y) × (test y ≡ test_of tests (f y - 0))) ys → AllByRecursion (λ y. test y ≡ test_of tests (f y)) ys
tests_now f test tests [] all = tt
tests_now f test tests (y ∷ ys) all = (all.0.1 ∙ ap (test_of tests) (omega arith), tests_now f test tests ys all.1)

pub tests_are : {X : Type 0} (f : X → ℕ) (test : X → Option (Crossing → Bool)) (count : ℕ) (xs : List X) (tests : List (Option (Crossing → Bool))) → map f xs ≡ range_with_len 0 count → map test xs ≡ tests → AllByRecursion (λ x. test x ≡ test_of tests (f x)) xs
tests_are f test count xs tests all same = tests_now f test tests xs (tests_from f test 0 count xs tests all same)

-- the passes that are dealt
pub dealt_are : {T : Type 0} (table : TableId) (value : T) (callers : List ℕ) → AllByRecursion (λ (p : Known T). p ≡ known table p.caller value false) (map (λ caller. known table caller value false) callers)
dealt_are table value [] = tt
dealt_are table value (caller ∷ callers) = (refl, dealt_are table value callers)

pub dealt_callers : {T : Type 0} (table : TableId) (value : T) (callers : List ℕ) → map (λ (p : Known T). p.caller) (map (λ caller. known table caller value false) callers) ≡ callers
dealt_callers table value [] = refl
dealt_callers table value (caller ∷ callers) = ap (λ cs. caller ∷ cs) (dealt_callers table value callers)
