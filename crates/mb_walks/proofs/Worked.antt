-- The worked numbers of what a volume keeps.
use Rattle.std.proofs.Common.{◌≡◌, ◌≢◌, List, [], ◌∷◌, ℕ, zero, suc, ◌<◌, ◌≤◌, inl, inr, ◌+◌, refl, ap, ◌∙◌, arith, replicate, get_or-set_other, slice_index}
use Rattle.std.proofs.lemmas.List.{get_or-replicate}
use Rattle.mb_tree.specs.Views.{KeepsCache, MayCache}
use Rattle.mb_word.specs.Fields.{cached_of, mode_of}
use Rattle.mb_word.specs.Numbers.{word_at}
use Rattle.mb_walks.specs.Worked.{NinthComesTo, WorkedKept, free_with, in_use, super_with, wiped}

gets : KeepsCache (super_with (5 ∷ 200 ∷ [])) (super_with (200 ∷ 3 ∷ 16 ∷ []))
unfolding word_at
gets zero low = inl (1, (let is : 1 < 2 = omega arith in is), refl)
gets (suc zero) low = inr ((let is : 3 ≤ 3 = omega arith in is), (let is : 3 ≤ 16 = omega arith in is))
gets (suc (suc zero)) low = inr ((let is : 3 ≤ 16 = omega arith in is), (let is : 16 ≤ 16 = omega arith in is))
gets (suc (suc (suc k))) low = absurd (let none : suc (suc (suc k)) < 3 = low in omega (arith, none))

-- a cache of one number has no other
one_cached : (k number : ℕ) → k < 1 → 5 ≢ number → cached_of (super_with (5 ∷ [])) k ≡ number → ⊥
unfolding word_at
one_cached zero number low apart same = apart same
one_cached (suc k) number low apart same = omega (arith, low)

-- nor may it come to have one that no inode has
none_other : (number : ℕ) → 5 ≢ number → (3 ≤ number → number ≤ 16 → ⊥) → MayCache (super_with (5 ∷ [])) number → ⊥
unfolding word_at
none_other number apart out may = elim may [
  | inl cached ↦ one_cached cached.0 number cached.1 apart cached.2
  | inr within ↦ out within.0 within.1
]

none_past : KeepsCache (super_with (5 ∷ [])) (super_with (17 ∷ [])) → ⊥
unfolding word_at
none_past keeps = none_other 17 (λ same. omega (arith, same)) (λ low high. omega (arith, high)) (keeps 0 (let is : 0 < 1 = omega arith in is))

not_the_root : KeepsCache (super_with (5 ∷ [])) (super_with (2 ∷ [])) → ⊥
unfolding word_at
not_the_root keeps = none_other 2 (λ same. omega (arith, same)) (λ low high. omega (arith, low)) (keeps 0 (let is : 0 < 1 = omega arith in is))

zero_at : (k : ℕ) → k < 64 → k ≢ 51 → slice_index wiped k ≡ 0
zero_at k low apart = get_or-set_other (replicate 512 0) 51 k 7 0 apart ∙ get_or-replicate 512 k 0 0 (omega (arith, low))

freed : (old : List ℕ) → NinthComesTo old wiped
freed old free = inl (λ k low apart. (let from : 0 + k ≡ k = omega arith in ap (slice_index wiped) from ∙ zero_at k low apart))

was_used : mode_of in_use 0 ≡ 0 → ⊥
unfolding word_at
was_used none = let wrong : 33188 ≡ 0 = none in omega (arith, wrong)

not_wiped : NinthComesTo in_use (free_with 1) → ⊥
unfolding word_at
not_wiped comes = elim (comes refl) [
  | inl zeros ↦ (let wrong : 1 ≡ 0 = zeros 2 (omega arith) (λ same. omega (arith, same)) in omega (arith, wrong))
  | inr stays ↦ was_used stays.0
]

stays : NinthComesTo (free_with 1) (free_with 1)
stays free = inr (free, λ k low high. refl)

changes : NinthComesTo (free_with 1) (free_with 2) → ⊥
unfolding word_at
changes comes = elim (comes refl) [
  | inl zeros ↦ (let wrong : 2 ≡ 0 = zeros 2 (omega arith) (λ same. omega (arith, same)) in omega (arith, wrong))
  | inr stays ↦ (let wrong : 2 ≡ 1 = stays.1 2 (omega arith) (omega arith) in omega (arith, wrong))
]

used : NinthComesTo (free_with 1) in_use
used free = absurd (was_used free)

pub worked_kept : WorkedKept
worked_kept = record { gets = gets; none_past = none_past; not_the_root = not_the_root; freed = freed in_use; not_wiped = not_wiped; stays = stays; wipes = freed (free_with 1); changes = changes; used = used }
