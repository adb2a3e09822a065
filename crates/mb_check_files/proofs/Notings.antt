-- What is listed of the parts of a file, as more of them are gone through.
use Rattle.std.proofs.Common.{◌≡◌, ◌⊎◌, inl, inr, ℕ, ◌+◌, ◌-◌, ◌*◌, ◌<◌, ◌≤◌, List, [], ◌∷◌, ◌++◌, length, slice_index, below_more, refl, sym, ap, subst, ◌∙◌, arith}
use Rattle.std.proofs.lemmas.Bool.{cases_lt}
use Rattle.std.proofs.Math.Seq.{get_or-append_seam}
use Rattle.std.proofs.lemmas.List.{get_or_append_left, length-append}
use Rattle.mb_check_files.specs.declared.part_lists.Run.{Run}
use Rattle.mb_check_files.specs.declared.part_lists.Run.TheVariants.{Whole, Ended, Torn}
use Rattle.mb_check_files.specs.declared.part_lists.PartList.{PartList}
use Rattle.mb_check_files.specs.PartLists.{Extends, RunsTo, ListsParts, Notes, run_passed}

module _ (address : ℕ → ℕ) (from count below n : ℕ) (some : 0 < n) (holes : (k : ℕ) → k < n → address (below + k) ≡ 0) where
  run_holes : (run : Run) → RunsTo address count below run → RunsTo address count (below + n) (run_passed run)
  run_holes Whole same = (omega (arith, same), λ p low high. subst (λ q. address q ≡ 0) (let e : below + (p - below) ≡ p = omega (arith, same, low) in e) (holes (p - below) (omega arith)))
  run_holes Ended ended = (
    let less = ended.0 in omega arith,
    λ p low high. elim (cases_lt p below) [
      | inl old ↦ ended.1 p low old
      | inr past ↦ subst (λ q. address q ≡ 0) (let e : below + (p - below) ≡ p = omega arith in e) (holes (p - below) (omega arith))
    ],
  )
  run_holes Torn torn = (let less = torn.low in record { hole = torn.hole; part = torn.part; order = torn.order; low = omega arith; missing = torn.missing; there = torn.there })

pub passed_notes : (old : PartList) (next : ℕ → ℕ) (n : ℕ) → 0 < n → ((k : ℕ) → k < n → next k ≡ 0) → Notes old (record { addresses = old.addresses; run = run_passed old.run }) next n
passed_notes old next n some holes address from below same lists = record {
  count = lists.count;
  whole = lists.whole;
  listed = lists.listed;
  there = lists.there;
  run = run_holes address from lists.count below n some (λ k low. same k low ∙ holes k low) old.run lists.run;
}

module _ (old new : PartList) (a : ℕ) (was : old.run ≡ Whole) (is : new.run ≡ Whole) (items : new.addresses.items ≡ old.addresses.items ++ (a ∷ [])) (some : 0 < a) where
  longer : length new.addresses.items ≡ length old.addresses.items + 1
  longer = ap length items ∙ length-append old.addresses.items (a ∷ [])

  here : slice_index new.addresses.items (length old.addresses.items) ≡ a
  here = ap (λ (xs : List ℕ). slice_index xs (length old.addresses.items)) items ∙ get_or-append_seam old.addresses.items a [] 0

  before : (k : ℕ) → k < length old.addresses.items → slice_index new.addresses.items k ≡ slice_index old.addresses.items k
  before k low = ap (λ (xs : List ℕ). slice_index xs k) items ∙ get_or_append_left old.addresses.items (a ∷ []) 0 k low

  module _ (address : ℕ → ℕ) (from below : ℕ) (same : (k : ℕ) → k < 1 → address (below + k) ≡ a) (lists : ListsParts address from below old) where
    all_so_far : lists.count ≡ below
    all_so_far = subst (RunsTo address lists.count below) was lists.run

    last_part : address lists.count ≡ a
    last_part = (let all = all_so_far in let e : lists.count ≡ below + 0 = omega (arith, all) in ap address e ∙ same 0 (omega arith))

    last_listed : slice_index new.addresses.items (from + lists.count) ≡ address lists.count
    last_listed = ap (slice_index new.addresses.items) (sym lists.whole) ∙ here ∙ sym last_part

    pub added_lists : ListsParts address from (below + 1) new
    added_lists = record {
      count = lists.count + 1;
      whole = (let e = longer in let w = lists.whole in omega (arith, e, w));
      listed = below_more (λ p. slice_index new.addresses.items (from + p) ≡ address p) lists.count
          (λ p low. (let w = lists.whole in before (from + p) (omega (arith, w, low))) ∙ lists.listed p low) last_listed;
      there = below_more (λ p. 0 < address p) lists.count lists.there (subst (λ b. 0 < b) (sym last_part) some);
      run = subst (RunsTo address (lists.count + 1) (below + 1)) (sym is) (let all = all_so_far in omega (arith, all));
    }

-- ---- stretches of parts, one after another

pub notes_none : (parts : PartList) (next : ℕ → ℕ) → Notes parts parts next 0
notes_none parts next address from below same lists = subst (λ b. ListsParts address from b parts) (let e : below ≡ below + 0 = omega arith in e) lists

pub notes_same : (old new : PartList) (next other : ℕ → ℕ) (n : ℕ) → ((k : ℕ) → k < n → next k ≡ other k) → Notes old new next n → Notes old new other n
notes_same old new next other n alike notes address from below same lists = notes address from below (λ k low. same k low ∙ sym (alike k low)) lists

pub notes_more : (old mid new : PartList) (next other : ℕ → ℕ) (n m : ℕ) → Notes old mid next n → Notes mid new other m → ((k : ℕ) → k < m → next (n + k) ≡ other k) → Notes old new next (n + m)
notes_more old mid new next other n m one two alike address from below same lists =
    subst (λ b. ListsParts address from b new) (let e : below + n + m ≡ below + (n + m) = omega arith in e)
    (two address from (below + n) (λ k low. (let e : below + n + k ≡ below + (n + k) = omega arith in ap address e) ∙ same (n + k) (omega arith) ∙ alike k low)
    (one address from below (λ k low. same k (omega arith)) lists))

pub extends_same : (list : List ℕ) → Extends list list
extends_same list = record { longer = omega arith; same = λ k low. refl }

pub extends_more : (old mid new : List ℕ) → Extends old mid → Extends mid new → Extends old new
extends_more old mid new one two = record {
  longer = (let a = one.longer in let b = two.longer in omega (arith, a, b));
  same = λ k low. (let a = one.longer in two.same k (omega (arith, a, low))) ∙ one.same k low;
}
