-- What storing copies comes to.
use Rattle.std.proofs.Common.{[], ◌∷◌, ℕ, ◌≡◌, ◌⊎◌, inl, inr, Bool, true, false, cond, nat_eq, if◌then◌else◌, Option, Some, IsSome, option_map, refl, sym, ap, ◌∙◌, subst, arith}
use Rattle.std.proofs.lemmas.Bool.Decides.{nat_tests}
use Rattle.std.specs.List.{AllByRecursion}
use Rattle.indexmap.specs.IndexMap.{insert_entry}
use Rattle.mb_kinds.specs.Image.{Image}
use Rattle.mb_cache.specs.Stamps.{Stamps}
use Rattle.mb_cache.specs.Kept.{CopyList, KeptBlock, kept_at, shown}
use Rattle.mb_copies.specs.Reads.{AreRead, IsRead, numbers, stored}

-- ---- one copy stored

again : (b : Bool) (x y : KeptBlock) (o : Option KeptBlock) → cond b (Some y) o ≡ cond b (Some y) (cond b (Some x) o)
again true x y o = refl
again false x y o = refl

both : (b c : Bool) (x y : KeptBlock) (o : Option KeptBlock) → (b ≡ true → c ≡ true → ⊥) → cond b (Some x) (cond c (Some y) o) ≡ cond c (Some y) (cond b (Some x) o)
both true true x y o apart = absurd (apart refl refl)
both true false x y o apart = refl
both false c x y o apart = refl

at_key : (head : ℕ × KeptBlock) (copies : CopyList) (block : ℕ) (kept : KeptBlock) (other : ℕ) (test : Bool) → nat_eq block head.0 ≡ test
    → kept_at (insert_entry nat_eq copies block kept) other ≡ cond (nat_eq other block) (Some kept) (kept_at copies other)
    → kept_at (if test then (head.0, kept) ∷ copies else head ∷ insert_entry nat_eq copies block kept) other ≡ cond (nat_eq other block) (Some kept) (cond (nat_eq other head.0) (Some head.1) (kept_at copies other))
at_key head copies block kept other true is later =
    let same : block ≡ head.0 = grind (arith, nat_tests, is) in
    again (nat_eq other head.0) head.1 kept (kept_at copies other) ∙ ap (λ k. cond (nat_eq other k) (Some kept) (cond (nat_eq other head.0) (Some head.1) (kept_at copies other))) (sym same)
at_key head copies block kept other false is later =
    ap (cond (nat_eq other head.0) (Some head.1)) later
    ∙ both (nat_eq other head.0) (nat_eq other block) head.1 kept (kept_at copies other) (λ one two. grind (arith, nat_tests, is, one, two))

-- a copy stored is the one of its block; the others stay
pub kept_stored : (copies : CopyList) (block : ℕ) (kept : KeptBlock) (other : ℕ) → kept_at (insert_entry nat_eq copies block kept) other ≡ cond (nat_eq other block) (Some kept) (kept_at copies other)
kept_stored [] block kept other = refl
kept_stored (head ∷ copies) block kept other = at_key head copies block kept other (nat_eq block head.0) refl (kept_stored copies block kept other)

same_kept : (x y : KeptBlock) → Some x ≡ Some y → x ≡ y
same_kept x y h = cc

new_or_old : (test : Bool) (new kept : KeptBlock) (old : Option KeptBlock) → cond test (Some new) old ≡ Some kept → ((test ≡ true) × (new ≡ kept)) ⊎ (old ≡ Some kept)
new_or_old true new kept old is = inl (refl, same_kept new kept is)
new_or_old false new kept old is = inr is

some_stays : (test : Bool) (new : KeptBlock) (old : Option KeptBlock) → IsSome (option_map (λ (k : KeptBlock). k.bytes) old) → IsSome (option_map (λ (k : KeptBlock). k.bytes) (cond test (Some new) old))
some_stays true new old is = refl
some_stays false new old is = is

-- ---- the copies of reads stored

-- a copy is an old one, or what was read of its block
pub stored_kept : (view : Option Image) (stamps : Stamps) (copies reads : CopyList) (block : ℕ) (kept : KeptBlock) → AreRead view stamps reads → kept_at (stored copies reads) block ≡ Some kept
    → (kept_at copies block ≡ Some kept) ⊎ IsRead view stamps (block, kept)
stored_kept view stamps copies [] block kept are here = inl here
stored_kept view stamps copies (read ∷ reads) block kept are here = elim (stored_kept view stamps (insert_entry nat_eq copies read.0 read.1) reads block kept are.1 here) [
  | inl before ↦ elim (new_or_old (nat_eq block read.0) read.1 kept (kept_at copies block) (sym (kept_stored copies read.0 read.1 block) ∙ before)) [
    | inl new ↦ (
        let at : read.0 ≡ block = grind (arith, nat_tests, new.0) in
        inr (subst (λ (k : KeptBlock). IsRead view stamps (block, k)) new.1 (subst (λ n. IsRead view stamps (n, read.1)) at are.0)))
    | inr old ↦ inl old
  ]
  | inr new ↦ inr new
]

-- what was there is there
pub stored_stays : (copies reads : CopyList) (block : ℕ) → IsSome (shown copies block) → IsSome (shown (stored copies reads) block)
stored_stays copies [] block is = is
stored_stays copies (read ∷ reads) block is = stored_stays (insert_entry nat_eq copies read.0 read.1) reads block
    (subst (λ (o : Option KeptBlock). IsSome (option_map (λ (k : KeptBlock). k.bytes) o)) (sym (kept_stored copies read.0 read.1 block)) (some_stays (nat_eq block read.0) read.1 (kept_at copies block) is))

same_block : (block : ℕ) → nat_eq block block ≡ true
same_block block = grind (arith, nat_tests)

-- and each block that was read
pub stored_there : (copies reads : CopyList) → AllByRecursion (λ block. IsSome (shown (stored copies reads) block)) (numbers reads)
stored_there copies [] = tt
stored_there copies (read ∷ reads) = (
  stored_stays (insert_entry nat_eq copies read.0 read.1) reads read.0
      (subst (λ (o : Option KeptBlock). IsSome (option_map (λ (k : KeptBlock). k.bytes) o)) (sym (kept_stored copies read.0 read.1 read.0 ∙ ap (λ b. cond b (Some read.1) (kept_at copies read.0)) (same_block read.0))) refl),
  stored_there (insert_entry nat_eq copies read.0 read.1) reads,
)
