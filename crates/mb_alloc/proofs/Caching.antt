-- Which numbers a cache that was set has.
use Rattle.std.proofs.Common.{ℕ, zero, suc, ◌≡◌, inl, inr, ◌<◌, ◌≤◌, List, [], ◌∷◌, All, refl, sym, subst, arith}
use Rattle.std.proofs.lemmas.Bool.{cases_eq}
use Rattle.std.proofs.lemmas.List.Elements.{All-nil, All-cons, All-head, All-tail}
use Rattle.mb_word.specs.Fields.{ninode_of, cached_of}
use Rattle.mb_tree.specs.Views.{KeepsCache, MayCache}
use Rattle.mb_alloc.specs.Numbers.{IsCacheSet, cached_below, cached_in}

-- a cache's own
pub cached_own : (b : List ℕ) (n : ℕ) → n ≤ ninode_of b → All (MayCache b) (cached_below b n)
cached_own b zero few = All-nil (MayCache b)
cached_own b (suc n) few = All-cons (MayCache b) (cached_of b n) (cached_below b n) (inl (n, omega (arith, few), refl)) (cached_own b n (omega (arith, few)))

-- each of a cache's
cached_each : (P : ℕ → Type 0) (b : List ℕ) (n k : ℕ) → k < n → All P (cached_below b n) → P (cached_of b k)
cached_each P b zero k low all = absurd (omega (arith, low))
cached_each P b (suc n) k low all = elim (cases_eq k n) [
  | inl is ↦ subst (λ x. P (cached_of b x)) (sym is) (All-head P (cached_of b n) (cached_below b n) all)
  | inr apart ↦ cached_each P b n k (omega (arith, low, apart)) (All-tail P (cached_of b n) (cached_below b n) all)
]

pub cache_set : (was : List ℕ) (old new : ℕ → List ℕ) (numbers : List ℕ) → IsCacheSet old new numbers → All (MayCache was) numbers → KeepsCache was (new 1)
cache_set was old new numbers set all = λ k low. cached_each (MayCache was) (new 1) (ninode_of (new 1)) k low (subst (All (MayCache was)) (sym set.list) all)
