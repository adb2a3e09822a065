-- Which changed blocks have a guess.
use Rattle.std.proofs.Common.{ℕ, ◌≡◌, ◌≢◌, ◌<◌, ◌%◌, inl, inr, List, Option, Some, None, IsSome, cond, nat_eq, false, length, replicate, slice_index, slice_set, refl, sym, ap, subst, ◌∙◌, arith}
use Rattle.std.proofs.lemmas.Bool.{cases_eq}
use Rattle.std.proofs.lemmas.Bool.Decides.{nat_tests}
use Rattle.std.proofs.lemmas.List.{get_or-set_same, get_or-set_other, get_or-replicate}
use Rattle.mb_kinds.specs.Changed.{ChangeList, changed}
use Rattle.mb_iface.specs.Guesses.{AreMarked}

-- a block without a guess is not changed
pub unmarked : (guesses : List ℕ) (changes : ChangeList) (block at : ℕ) → AreMarked guesses changes → at ≡ block % 16 → slice_index guesses at ≡ 0 → changed changes block ≡ None
unmarked guesses changes block at marked is none =
    elim (changed changes block) as (λ (o : Option (List ℕ)). (IsSome o → 0 < slice_index guesses (block % 16)) → o ≡ None) [
      | None ↦ λ m. refl
      | Some bytes ↦ λ m. absurd (let low = m refl in let e = ap (slice_index guesses) (sym is) ∙ none in omega (arith, low, e))
    ] (marked block)

-- of a list of changes a guess is set, and no other block comes into it
pub marked_more : (guesses : List ℕ) (old new : ChangeList) (block at guess : ℕ) → length guesses ≡ 16 → AreMarked guesses old → at ≡ block % 16 → 0 < guess
    → ((other : ℕ) → other ≢ block → IsSome (changed new other) → IsSome (changed old other)) → AreMarked (slice_set guesses at guess) new
marked_more guesses old new block at guess sized marked is some kept other there = elim (cases_eq (other % 16) at) [
  | inl same ↦
      let within : other % 16 < length guesses = omega (arith, sized) in
      subst (λ k. 0 < slice_index (slice_set guesses k guess) (other % 16)) same
      (subst (λ n. 0 < n) (sym (get_or-set_same guesses (other % 16) guess 0 within)) some)
  | inr apart ↦
      let away : other ≢ block = λ e. apart (ap (λ k. k % 16) e ∙ sym is) in
      subst (λ n. 0 < n) (sym (get_or-set_other guesses at (other % 16) guess 0 apart)) (marked other (kept other away there))
]

-- one block put
pub marked_put : (guesses : List ℕ) (old new : ChangeList) (block at guess : ℕ) (bytes : List ℕ) → length guesses ≡ 16 → AreMarked guesses old → at ≡ block % 16 → 0 < guess
    → ((other : ℕ) → changed new other ≡ cond (nat_eq block other) (Some bytes) (changed old other)) → AreMarked (slice_set guesses at guess) new
marked_put guesses old new block at guess bytes sized marked is some each =
    marked_more guesses old new block at guess sized marked is some (λ other away there.
    (let f : nat_eq block other ≡ false = grind (arith, nat_tests) in
    subst IsSome (each other ∙ ap (λ b. cond b (Some bytes) (changed old other)) f) there))

-- every guess is set
pub all_marked : (changes : ChangeList) → AreMarked (replicate 16 1) changes
all_marked changes block there =
    let low : block % 16 < 16 = omega arith in
    subst (λ n. 0 < n) (sym (get_or-replicate 16 (block % 16) 1 0 low)) (omega arith)
