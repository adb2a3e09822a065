-- A directory's parts are those below its size exactly where so many are listed.
use Rattle.std.proofs.Common.{◌≡◌, ◌⊎◌, inl, inr, ℕ, zero, suc, ◌+◌, ◌-◌, ◌*◌, ◌/◌, ◌%◌, ◌<◌, ◌≤◌, List, Bool, true, false, not, nat_eq, nat_lt, length, Option, Some, None, is_some, is_none, if◌then◌else◌, refl, sym, ap, subst, ◌∙◌, arith}
use Rattle.std.proofs.lemmas.Bool.{cases_lt}
use Rattle.std.proofs.lemmas.List.Sums.{count_by-le-length}
use Rattle.std.proofs.lemmas.Bool.Decides.{nat_tests, eqb_tells}
use Rattle.mb_tree.specs.Blocks.{part_address, part_in}
use Rattle.mb_tree.specs.Cost.{most_parts}
use Rattle.mb_tree.specs.Counting.{any_from}
use Rattle.mb_blocks.proofs.PartBytes.{part_found, part_missing}
use Rattle.mb_rules.specs.Files.{size_at, are_parts}
use Rattle.mb_rules.proofs.FilesAccepted.{found_yes}
use Rattle.mb_scan_laws.proofs.ShownTrees.{part_test, misplaced, parts_are}
use Rattle.mb_check_files.specs.declared.part_lists.Run.{Run}
use Rattle.mb_check_files.specs.declared.part_lists.Run.TheVariants.{Whole, Ended, Torn}
use Rattle.mb_check_files.specs.declared.part_lists.PartList.{PartList}
use Rattle.mb_check_files.specs.InodeTables.{HasParts}
use Rattle.mb_check_files.specs.PartLists.{IsPaid, IsTorn, ListsParts, Notes, RunsTo}

-- a part at its place, by its address
test_missing_low : (o : Option (List ℕ)) (low size : ℕ) → o ≡ None → low < size → part_test o low size ≡ true
test_missing_low o low size e less = (let t : nat_lt low size ≡ true = grind (arith, nat_tests) in rw (e, t) refl)

test_missing_high : (o : Option (List ℕ)) (low size : ℕ) → o ≡ None → size ≤ low → part_test o low size ≡ false
test_missing_high o low size e more = (let t : nat_lt low size ≡ false = grind (arith, nat_tests) in rw (e, t) refl)

test_there_low : (o : Option (List ℕ)) (x : List ℕ) (low size : ℕ) → o ≡ Some x → low < size → part_test o low size ≡ false
test_there_low o x low size e less = (let t : nat_lt low size ≡ true = grind (arith, nat_tests) in rw (e, t) refl)

test_there_high : (o : Option (List ℕ)) (x : List ℕ) (low size : ℕ) → o ≡ Some x → size ≤ low → part_test o low size ≡ true
test_there_high o x low size e more = (let t : nat_lt low size ≡ false = grind (arith, nat_tests) in rw (e, t) refl)

rest_missing : (address : ℕ → ℕ) (count below : ℕ) (run : Run) → (run ≡ Torn → ⊥) → RunsTo address count below run → (p : ℕ) → count ≤ p → p < below → address p ≡ 0
rest_missing address count below Whole firm so p low high = absurd (omega (arith, so, low, high))
rest_missing address count below Ended firm so p low high = so.1 p low high
rest_missing address count below Torn firm so p low high = absurd (firm refl)

module _ (blocks : ℕ → List ℕ) (ino from : ℕ) (parts : PartList) (lists : ListsParts (part_address blocks ino) from most_parts parts) (size : ℕ) (sized : size_at blocks ino ≡ size) where
  missing_low : (p : ℕ) → part_address blocks ino p ≡ 0 → 512 * p < size → misplaced blocks ino p ≡ true
  missing_low p hole less = test_missing_low (part_in blocks ino p) (512 * p) (size_at blocks ino) (part_missing blocks ino p (λ low. hole)) (subst (λ n. 512 * p < n) (sym sized) less)

  missing_high : (p : ℕ) → part_address blocks ino p ≡ 0 → size ≤ 512 * p → misplaced blocks ino p ≡ false
  missing_high p hole more = test_missing_high (part_in blocks ino p) (512 * p) (size_at blocks ino) (part_missing blocks ino p (λ low. hole)) (subst (λ n. n ≤ 512 * p) (sym sized) more)

  there_low : (p : ℕ) → p < most_parts → 0 < part_address blocks ino p → 512 * p < size → misplaced blocks ino p ≡ false
  there_low p low some less = test_there_low (part_in blocks ino p) (blocks (part_address blocks ino p)) (512 * p) (size_at blocks ino) (part_found blocks ino p (part_address blocks ino p) low refl some) (subst (λ n. 512 * p < n) (sym sized) less)

  there_high : (p : ℕ) → p < most_parts → 0 < part_address blocks ino p → size ≤ 512 * p → misplaced blocks ino p ≡ true
  there_high p low some more = test_there_high (part_in blocks ino p) (blocks (part_address blocks ino p)) (512 * p) (size_at blocks ino) (part_found blocks ino p (part_address blocks ino p) low refl some) (subst (λ n. n ≤ 512 * p) (sym sized) more)

  parts_not : (p : ℕ) → p < most_parts → misplaced blocks ino p ≡ true → false ≡ are_parts blocks ino
  unfolding are_parts
  parts_not p low wrong = sym (ap not (found_yes (misplaced blocks ino) 0 most_parts p (omega arith) low wrong))

  pub torn_not : parts.run ≡ Torn → false ≡ are_parts blocks ino
  torn_not torn =
      let so : IsTorn (part_address blocks ino) most_parts = subst (RunsTo (part_address blocks ino) lists.count most_parts) torn lists.run in
      let order = so.order in
      elim (cases_lt (512 * so.part) size) [
        | inl less ↦ parts_not so.hole (let low = so.low in omega (arith, low, order)) (missing_low so.hole so.missing (omega (arith, less, order)))
        | inr more ↦ parts_not so.part so.low (there_high so.part so.low so.there more)
      ]

  module _ (firm : parts.run ≡ Torn → ⊥) (few : length parts.addresses.items < from + most_parts) where
    low_count : lists.count < most_parts
    low_count = (let w = lists.whole in omega (arith, w, few))

    rest : (p : ℕ) → lists.count ≤ p → p < most_parts → part_address blocks ino p ≡ 0
    rest = rest_missing (part_address blocks ino) lists.count most_parts parts.run firm lists.run

    all_right : lists.count ≡ (size + 511) / 512 → (p : ℕ) → p < most_parts → misplaced blocks ino p ≡ false
    all_right e p low = elim (cases_lt p lists.count) [
      | inl less ↦ there_low p low (lists.there p less) (omega (arith, e, less))
      | inr more ↦ missing_high p (rest p more low) (omega (arith, e, more))
    ]

    count_is : (n : ℕ) → n ≡ length parts.addresses.items → n - from ≡ lists.count
    count_is n e = (let w = lists.whole in omega (arith, w, e))

    pub covers_so : (n : ℕ) → n ≡ length parts.addresses.items → nat_eq (n - from) ((size + 511) / 512) ≡ are_parts blocks ino
    covers_so n e =
        ap (λ k. nat_eq k ((size + 511) / 512)) (count_is n e) ∙ (elim (eqb_tells lists.count ((size + 511) / 512)) [
          | inl same ↦ same.0 ∙ sym (parts_are blocks ino (all_right same.1))
          | inr other ↦ other.0 ∙ (elim (cases_lt lists.count ((size + 511) / 512)) [
            | inl less ↦ parts_not lists.count low_count (missing_low lists.count (rest lists.count (omega arith) low_count) (omega (arith, less)))
            | inr more ↦ (let apart = other.1 in let low = low_count in let here : (size + 511) / 512 < lists.count = omega (arith, apart, more) in
                parts_not ((size + 511) / 512) (omega (arith, here, low)) (there_high ((size + 511) / 512) (omega (arith, here, low)) (lists.there ((size + 511) / 512) here) (omega arith)))
          ])
        ])

  -- where they are, the list has the parts below the size
  pub has_parts : are_parts blocks ino ≡ true → length parts.addresses.items < from + most_parts → 32 ≤ size → size % 16 ≡ 0 → HasParts parts.addresses.items (part_address blocks ino) from size
  has_parts are few some even =
      let firm : parts.run ≡ Torn → ⊥ = λ torn. (let wrong = torn_not torn ∙ are in cc) in
      let w = lists.whole in
      let test : nat_eq (length parts.addresses.items - from) ((size + 511) / 512) ≡ true = covers_so firm few (length parts.addresses.items) refl ∙ are in
      let e : lists.count ≡ (size + 511) / 512 = (let t : length parts.addresses.items - from ≡ (size + 511) / 512 = grind (arith, nat_tests) in omega (arith, w, t)) in
      record {
        some = some;
        even = even;
        inside = λ p less. omega (arith, w, e, less);
        listed = λ p less. lists.listed p (omega (arith, e, less));
        there = λ p less. lists.there p (omega (arith, e, less));
      }

-- the parts that were listed for an inode are few, as for each a block was met
pub few_parts : (old new : PartList) (from : ℕ) (before now : List Bool) → from ≡ length old.addresses.items → IsPaid old new before now → length now ≤ 262144 → length new.addresses.items < from + most_parts
few_parts old new from before now is paid small = (let p = paid.paid in let c = count_by-le-length (λ (flag : Bool). flag) now in omega (arith, is, p, c, small))

pub lists_all : (blocks : ℕ → List ℕ) (ino : ℕ) (old new : PartList) (from : ℕ) → from ≡ length old.addresses.items → ((address : ℕ → ℕ) → ListsParts address (length old.addresses.items) 0 old) → Notes old new (part_address blocks ino) most_parts
    → ListsParts (part_address blocks ino) from most_parts new
lists_all blocks ino old new from is begins notes = subst (λ f. ListsParts (part_address blocks ino) f most_parts new) (sym is)
    (notes (part_address blocks ino) (length old.addresses.items) 0 (λ k low. (let e : 0 + k ≡ k = omega arith in ap (part_address blocks ino) e)) (begins (part_address blocks ino)))
