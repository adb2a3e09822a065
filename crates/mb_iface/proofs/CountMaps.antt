-- Maps of counts: no count in them is 0.
use Rattle.std.proofs.Common.{ℕ, Bool, ◌≡◌, ◌≢◌, ◌<◌, inl, inr, Option, Some, None, Bor, option_copied, cond, true, false, nat_eq, unwrap_or, Result, Ok, Err, OnErr, length, refl, sym, ap, ◌∙◌, arith}
use Rattle.std.proofs.lemmas.Bool.Decides.{nat_tests}
use Rattle.std.specs.FinMap as fin
use Rattle.std.specs.FinMap.{get-empty}
use Rattle.std.specs.Ordering.{nat_cmp}
use Rattle.std.specs.Prelude.{Decides}
use Rattle.std.specs.BTreeMap.{BTreeMap, IsOrdered, btree_map_len}
use Rattle.std.proofs.lemmas.Cmp.{nat_cmp_total}
use Rattle.std.proofs.lemmas.Map.Lookups.{btree_map_from_get, exact_unsigned}
use Rattle.mb_tree.proofs.FiniteMaps.{one_or_not, same, get_view, get_here, get_there, gone_here, gone_there}
use Rattle.mb_iface.specs.OpenCounts.{count_of, with_count, AreCounts}

pub none_counted : AreCounts fin.empty
none_counted ino count has = let e = get-empty {X = ℕ} nat_cmp ino in cc

pub counted_more : (opens : fin.FinMap nat_cmp ℕ) (ino count : ℕ) → AreCounts opens → 0 < count → AreCounts (fin.insert opens ino count)
counted_more opens ino count counts some other found has = elim (one_or_not other ino) [
  | inl same ↦
      let here = get_here opens ino count in
      let e : found ≡ count = cc (ap (λ k. fin.get (fin.insert opens ino count) k) same) in
      omega arith
  | inr apart ↦ counts other found (sym (get_there opens ino count other apart) ∙ has)
]

pub counted_less : (opens : fin.FinMap nat_cmp ℕ) (ino : ℕ) → AreCounts opens → AreCounts (fin.remove opens ino)
counted_less opens ino counts other found has = elim (one_or_not other ino) [
  | inl same ↦
      let here = gone_here opens ino in
      absurd (let e = ap (λ k. fin.get (fin.remove opens ino) k) same in cc)
  | inr apart ↦ counts other found (sym (gone_there opens ino other apart) ∙ has)
]

-- what a look-up lends is the count
pub count_seen : (o : Option ℕ) (r : Option (Bor ℕ)) → option_copied r ≡ o → (count : Bor ℕ) → r ≡ Some count → count.now ≡ unwrap_or o 0
count_seen o r same count is = ap (λ p. unwrap_or p 0) (ap option_copied (sym is) ∙ same)

pub no_count_seen : (o : Option ℕ) (r : Option (Bor ℕ)) → option_copied r ≡ o → r ≡ None → 0 ≡ unwrap_or o 0
no_count_seen o r same is = ap (λ p. unwrap_or p 0) (ap option_copied (sym is) ∙ same)

pub with_none : (opens : fin.FinMap nat_cmp ℕ) (ino count : ℕ) → count ≡ 0 → with_count opens ino count ≡ fin.remove opens ino
with_none opens ino count none = ap (with_count opens ino) none

chosen : {X : Type 0} (b : Bool) (x y : X) → b ≡ false → cond b x y ≡ y
chosen true x y e = cc
chosen false x y e = refl

pub with_some : (opens : fin.FinMap nat_cmp ℕ) (ino count : ℕ) → count ≢ 0 → with_count opens ino count ≡ fin.insert opens ino count
with_some opens ino count some = chosen (nat_eq count 0) (fin.remove opens ino) (fin.insert opens ino count) (grind (arith, nat_tests))

same_look : (o p : Option ℕ) → ((count : ℕ) → o ≡ Some count → 0 < count) → ((count : ℕ) → p ≡ Some count → 0 < count) → unwrap_or o 0 ≡ unwrap_or p 0 → o ≡ p
same_look None None o_counts p_counts same = refl
same_look None (Some count) o_counts p_counts same = absurd (omega (arith, p_counts count refl))
same_look (Some count) None o_counts p_counts same = absurd (omega (arith, o_counts count refl))
same_look (Some count) (Some other) o_counts p_counts same = ap Some same

-- two maps without zeros are equal where they count alike
pub counts_tell : (m n : fin.FinMap nat_cmp ℕ) → AreCounts m → AreCounts n → ((ino : ℕ) → count_of m ino ≡ count_of n ino) → m ≡ n
counts_tell m n m_counts n_counts alike = same m n (λ ino. same_look (fin.get m ino) (fin.get n ino) (m_counts ino) (n_counts ino) (alike ino))

-- two tables are equal maps exactly where they have equal entries
pub same_maps : (r : Bool) (m n : BTreeMap ℕ ℕ) (p q : fin.FinMap nat_cmp ℕ) → fin.from_entries m.entries ≡ p → fin.from_entries n.entries ≡ q → IsOrdered nat_cmp m → IsOrdered nat_cmp n
    → Decides r (m.entries ≡ n.entries) → Decides r (p ≡ q)
same_maps r m n p q of_m of_n m_ordered n_ordered told =
    let back : p ≡ q → m.entries ≡ n.entries =
    λ is. btree_map_from_get nat_cmp_total m n m_ordered n_ordered (λ k. sym (get_view m.entries k) ∙ ap (λ f. fin.get f k) (of_m ∙ is ∙ sym of_n) ∙ get_view n.entries k) exact_unsigned in
    (λ yes. sym of_m ∙ ap (λ es. fin.from_entries es) (told.0 yes) ∙ of_n, λ is. told.1 (back is))

-- tables of other lengths have other entries
pub other_lengths : (m n : BTreeMap ℕ ℕ) → btree_map_len m ≢ btree_map_len n → Decides false (m.entries ≡ n.entries)
other_lengths m n apart = (λ yes. cc, λ is. absurd (apart (ap length is)))

-- and they are equal exactly where they count alike
pub same_counts : (r : Bool) (p q : fin.FinMap nat_cmp ℕ) → AreCounts p → AreCounts q → Decides r (p ≡ q) → Decides r ((ino : ℕ) → count_of p ino ≡ count_of q ino)
same_counts r p q p_counts q_counts told = (λ yes ino. ap (λ m. count_of m ino) (told.0 yes), λ alike. told.1 (counts_tell p q p_counts q_counts alike))

-- a fact that holds holds where there is an error
pub on_err : {T E P : Type 0} (result : Result T E) → P → OnErr result P
on_err (Ok value) holds = tt
on_err (Err error) holds = holds
