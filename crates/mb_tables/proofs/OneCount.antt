-- One count set, one open file more or less, against the counts of the reference model.
use Rattle.std.proofs.Common.{◌≡◌, ◌≢◌, inl, inr, ℕ, ◌+◌, ◌-◌, ◌^◌, ◌<◌, ◌≤◌, min, Bool, true, false, cond, if◌then◌else◌, List, [], ◌∷◌, drop, length, slice_get, Option, Some, None, unwrap_or, nat_eq, refl, sym, ap, ◌∙◌, arith}
use Rattle.std.proofs.lemmas.Bool.Decides.{nat_tests}
use Rattle.std.proofs.lemmas.List.Sums.{count_by-le-length, sum_by-cons}
use Rattle.std.specs.Prelude.{count_by}
use Rattle.std.specs.FinMap as fin
use Rattle.std.specs.Ordering.{nat_cmp}
use Rattle.mb_edge.specs.Damage.{OpenCounts}
use Rattle.mb_cache.proofs.PageLoops.{next_first}
use Rattle.mb_iface.proofs.CountMaps.{with_none, with_some}
use Rattle.mb_iface.specs.OpenCounts.{AreCounts, count_of, with_count}
use Rattle.mb_tree.proofs.FiniteMaps.{one_or_not, same, get_here, get_there, gone_here, gone_there}
use Rattle.mb_tree.specs.Effect.{hold, release}
use Rattle.mb_session.specs.OpenFiles.{TellsCounts}
use Rattle.mb_tables.specs.Follows.{held_once_more, released_each}

-- ---- one count set

count_here : (opens : OpenCounts) (ino count : ℕ) → count_of (with_count opens ino count) ino ≡ count
count_here opens ino count = elim (one_or_not count 0) [
  | inl none ↦ ap (λ o. count_of o ino) (with_none opens ino count none) ∙ ap (λ o. unwrap_or o 0) (gone_here opens ino) ∙ sym none
  | inr some ↦ ap (λ o. count_of o ino) (with_some opens ino count some) ∙ ap (λ o. unwrap_or o 0) (get_here opens ino count)
]

count_there : (opens : OpenCounts) (ino count other : ℕ) → other ≢ ino → count_of (with_count opens ino count) other ≡ count_of opens other
count_there opens ino count other apart = elim (one_or_not count 0) [
  | inl none ↦ ap (λ o. count_of o other) (with_none opens ino count none) ∙ ap (λ o. unwrap_or o 0) (gone_there opens ino other apart)
  | inr some ↦ ap (λ o. count_of o other) (with_some opens ino count some) ∙ ap (λ o. unwrap_or o 0) (get_there opens ino count other apart)
]

-- ---- one open file more, one less for each of a list

hold_here : (held : ℕ → ℕ) (ino other : ℕ) → other ≡ ino → hold held ino other ≡ held other + 1
hold_here held ino other is = let test : nat_eq other ino ≡ true = grind (arith, nat_tests) in ap (λ b. if b then held other + 1 else held other) test

hold_there : (held : ℕ → ℕ) (ino other : ℕ) → other ≢ ino → hold held ino other ≡ held other
hold_there held ino other apart = let test : nat_eq other ino ≡ false = grind (arith, nat_tests) in ap (λ b. if b then held other + 1 else held other) test

pub hold_counts : (opens : OpenCounts) (held : ℕ → ℕ) (ino : ℕ) → TellsCounts opens held → held ino < 4294967295 → TellsCounts (held_once_more opens ino) (hold held ino)
hold_counts opens held ino counts low other = elim (one_or_not other ino) [
  | inl is ↦
      let here = count_here opens ino (min (count_of opens ino + 1) (2 ^ 32 - 1)) in
      let old = counts ino in
      ap (count_of (held_once_more opens ino)) is ∙ here ∙ omega arith ∙ ap (λ k. held k + 1) (sym is) ∙ sym (hold_here held ino other is)
  | inr apart ↦ count_there opens ino (min (count_of opens ino + 1) (2 ^ 32 - 1)) other apart ∙ counts other ∙ sym (hold_there held ino other apart)
]

one_released : (opens : OpenCounts) (held : ℕ → ℕ) (ino : ℕ) → TellsCounts opens held → TellsCounts (with_count opens ino (count_of opens ino - 1)) (λ other. held other - cond (nat_eq other ino) 1 0)
one_released opens held ino counts other = elim (one_or_not other ino) [
  | inl is ↦
      let test : nat_eq other ino ≡ true = grind (arith, nat_tests) in
      ap (count_of (with_count opens ino (count_of opens ino - 1))) is ∙ count_here opens ino (count_of opens ino - 1) ∙ ap (λ n. n - 1) (counts ino)
      ∙ ap (λ k. held k - 1) (sym is) ∙ ap (λ b. held other - cond b 1 0) (sym test)
  | inr apart ↦
      let test : nat_eq other ino ≡ false = grind (arith, nat_tests) in
      count_there opens ino (count_of opens ino - 1) other apart ∙ counts other ∙ omega arith ∙ ap (λ b. held other - cond b 1 0) (sym test)
]

less_more : (held : ℕ) (b : Bool) (count : ℕ) → held - cond b 1 0 - count ≡ held - (cond b 1 0 + count)
less_more held true count = omega arith
less_more held false count = omega arith

pub release_counts : (opens : OpenCounts) (held : ℕ → ℕ) (inos : List ℕ) → TellsCounts opens held → TellsCounts (released_each opens inos) (release held inos)
release_counts opens held [] counts other = counts other ∙ omega arith
release_counts opens held (ino ∷ inos) counts other =
    let rest = release_counts (with_count opens ino (count_of opens ino - 1)) (λ k. held k - cond (nat_eq k ino) 1 0) inos (one_released opens held ino counts) other in
    rest ∙ less_more (held other) (nat_eq other ino) (count_by (nat_eq other) inos) ∙ ap (λ n. held other - n) (sym (sum_by-cons (λ k. cond (nat_eq other k) 1 0) ino inos))

-- ---- an inode without open files stays without

no_count : (found : Option ℕ) → ((count : ℕ) → found ≡ Some count → 0 < count) → unwrap_or found 0 ≡ 0 → found ≡ None
no_count None above none = refl
no_count (Some count) above none = absurd (omega (arith, above count refl))

pub none_less : (opens : OpenCounts) (ino count : ℕ) → AreCounts opens → count ≡ count_of opens ino → count ≡ 0 → opens ≡ with_count opens ino (count_of opens ino - 1)
none_less opens ino count above is none =
    let zero : count_of opens ino ≡ 0 = sym is ∙ none in
    let gone : with_count opens ino (count_of opens ino - 1) ≡ fin.remove opens ino = with_none opens ino (count_of opens ino - 1) (omega arith) in
    let absent : fin.get opens ino ≡ None = no_count (fin.get opens ino) (above ino) zero in
    same opens (fin.remove opens ino) (λ other. elim (one_or_not other ino) [
      | inl here ↦ ap (fin.get opens) here ∙ absent ∙ sym (gone_here opens ino) ∙ ap (fin.get (fin.remove opens ino)) (sym here)
      | inr apart ↦ sym (gone_there opens ino other apart)
    ]) ∙ sym gone

-- ---- an open file for each of a list

count_first : (ino x : ℕ) (rest : List ℕ) (test : Bool) → nat_eq ino x ≡ test → count_by (nat_eq ino) (x ∷ rest) ≡ cond test 1 0 + count_by (nat_eq ino) rest
count_first ino x rest test is = sum_by-cons (λ y. cond (nat_eq ino y) 1 0) x rest ∙ ap (λ b. cond b 1 0 + count_by (nat_eq ino) rest) is

pub counted_more : (opens new : OpenCounts) (inos : List ℕ) (at x : ℕ) → ((ino : ℕ) → count_of opens ino + count_by (nat_eq ino) (drop at inos) ≡ count_by (nat_eq ino) inos) → slice_get inos at ≡ Some x → length inos < 4294967296
    → new ≡ held_once_more opens x → (ino : ℕ) → count_of new ino + count_by (nat_eq ino) (drop (at + 1) inos) ≡ count_by (nat_eq ino) inos
counted_more opens new inos at x so_far here few one ino =
    let rest = drop (at + 1) inos in
    let first : drop at inos ≡ x ∷ rest = next_first inos at x here in
    let own : count_by (nat_eq x) (drop at inos) ≡ 1 + count_by (nat_eq x) rest = ap (count_by (nat_eq x)) first ∙ count_first x x rest true (grind (arith, nat_tests)) in
    let most : count_by (nat_eq x) inos ≤ length inos = count_by-le-length (nat_eq x) inos in
    let low : count_of opens x < 4294967295 = (let sum = so_far x in omega (arith, sum, own, most, few)) in
    let held : count_of new ino ≡ hold (count_of opens) x ino = ap (λ o. count_of o ino) one ∙ hold_counts opens (count_of opens) x (λ other. refl) low ino in
    elim (one_or_not ino x) [
      | inl is ↦ (let more = hold_here (count_of opens) x ino is in let count = ap (count_by (nat_eq ino)) first ∙ count_first ino x rest true (grind (arith, nat_tests, is)) in let sum = so_far ino in omega (arith, held, more, count, sum))
      | inr apart ↦ (let same = hold_there (count_of opens) x ino apart in let count = ap (count_by (nat_eq ino)) first ∙ count_first ino x rest false (grind (arith, nat_tests, apart)) in let sum = so_far ino in omega (arith, held, same, count, sum))
    ]

pub nothing_counted : (ino : ℕ) → count_of fin.empty ino ≡ 0
nothing_counted ino = ap (λ (o : Option ℕ). unwrap_or o 0) (fin.get-empty {X = ℕ} nat_cmp ino)
