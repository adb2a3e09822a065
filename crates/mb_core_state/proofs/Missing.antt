-- How many blocks are still to be gathered.
use Rattle.std.proofs.Common.{◌≡◌, ℕ, zero, suc, ◌+◌, ◌<◌, ◌≤◌, Bool, true, false, cond, inl, inr, is_some, IsSome, Option, refl, ap, sym, ◌∙◌, arith}
use Rattle.mb_tree.proofs.FiniteMaps.{one_or_not}
use Rattle.mb_kinds.specs.Image.{Image}
use Rattle.mb_iface.specs.Needs.{IsNeed}
use Rattle.mb_iface.specs.declared.replies.Need.{Need}
use Rattle.mb_copies.proofs.Numbers.{first_of}
use Rattle.mb_copies.specs.Reads.{GathersSeen}
use Rattle.mb_cache.specs.Kept.{CopyList, shown}

abbrev lack : Bool → ℕ
lack b = cond b 0 1

-- how many blocks below a number are not there
unfoldable pub missing : (ℕ → Bool) → ℕ → ℕ
missing there zero = 0
missing there (suc n) = lack (there n) + missing there n

one_less : (old new : Bool) → (old ≡ true → new ≡ true) → lack new ≤ lack old
one_less true new keeps = rw (keeps refl) (omega arith)
one_less false new keeps = elim new as (λ b. lack b ≤ 1) [ true ↦ omega arith | false ↦ omega arith ]

missing_less_or_same : (old new : ℕ → Bool) (n : ℕ) → ((block : ℕ) → old block ≡ true → new block ≡ true) → missing new n ≤ missing old n
unfolding missing
missing_less_or_same old new zero keeps = omega arith
missing_less_or_same old new (suc n) keeps = omega (arith, one_less (old n) (new n) (keeps n), missing_less_or_same old new n keeps)

missing_less : (old new : ℕ → Bool) (n block : ℕ) → ((block : ℕ) → old block ≡ true → new block ≡ true) → old block ≡ false → new block ≡ true → block < n → missing new n < missing old n
unfolding missing
missing_less old new zero block keeps lacks has low = absurd (omega (arith, low))
missing_less old new (suc n) block keeps lacks has low = elim (one_or_not block n) [
  | inl same ↦ (let was : lack (old n) ≡ 1 = ap lack (ap old (sym same) ∙ lacks) in let is : lack (new n) ≡ 0 = ap lack (ap new (sym same) ∙ has) in
      omega (arith, was, is, missing_less_or_same old new n keeps))
  | inr apart ↦ (let below : block < n = omega (arith, apart, low) in omega (arith, one_less (old n) (new n) (keeps n), missing_less old new n block keeps lacks has below))
]

-- how many blocks of a volume copies lack
abbrev pub lacking : CopyList → ℕ
lacking copies = missing (λ block. is_some (shown copies block)) 262144

-- fewer are lacking once one that was lacking is there, and none is lost
pub fewer_lack : (view : Option Image) (old new : CopyList) (need : Need) → IsNeed (shown old) need → GathersSeen view need old new → lacking new < lacking old
fewer_lack view old new need is gathers = missing_less (λ block. is_some (shown old block)) (λ block. is_some (shown new block)) 262144 need.first gathers.stays (ap is_some is.lacking) (first_of need (λ block. IsSome (shown new block)) is.some gathers.there)
    (let low = is.below in omega (arith, low))
