-- A map that is filled in the order of its numbers: holes, one value more, and a level of index blocks.
use Rattle.std.proofs.Common.{◌≡◌, inl, inr, ℕ, zero, suc, ◌+◌, ◌-◌, ◌*◌, ◌/◌, ◌%◌, ◌<◌, ◌≤◌, List, Option, Some, None, refl, sym, ap, subst, ◌∙◌, arith}
use Rattle.std.specs.FinMap as fin
use Rattle.std.specs.FinMap.{get-empty}
use Rattle.std.specs.Ordering.{nat_cmp}
use Rattle.std.proofs.lemmas.Bool.{cases_lt}
use Rattle.std.proofs.lemmas.Bool.Decides.{eqb_tells}
use Rattle.mb_word.specs.Fields.{index_entry}
use Rattle.mb_tree.specs.Blocks.{bytes_at, entry_in}
use Rattle.mb_tree.specs.Maps.{Numbered}
use Rattle.mb_tree.proofs.FiniteMaps.{get_here, get_there}
use Rattle.mb_check_files.specs.Indexes.{under_double, under_single, under_triple}
use Rattle.mb_check_tree.specs.Filling.{FillsParts, HasBelow}

module _ {X : Type 0} where
  pub holes : (m : Numbered X) (number size : ℕ) (value : ℕ → Option X) → HasBelow m number value → ((k : ℕ) → k < size → value (number + k) ≡ None) → HasBelow m (number + size) value
  holes m number size value has none = record {
    below = λ p low. elim (cases_lt p number) [
      | inl less ↦ has.below p less
      | inr past ↦ (
          let e : number + (p - number) ≡ p = omega (arith, past) in
          has.past p past ∙ sym (ap value (sym e) ∙ none (p - number) (omega (arith, low, past))))
    ];
    past = λ p far. has.past p (omega (arith, far));
  }

  pub one_more : (m : Numbered X) (number : ℕ) (value : ℕ → Option X) (x : X) → HasBelow m number value → value number ≡ Some x → HasBelow (fin.insert m number x) (number + 1) value
  one_more m number value x has is = record {
    below = λ p low. elim (eqb_tells p number) [
      | inl here ↦ ap (fin.get (fin.insert m number x)) here.1 ∙ get_here m number x ∙ sym is ∙ ap value (sym here.1)
      | inr apart ↦ get_there m number x p apart.1 ∙ has.below p (let off = apart.1 in omega (arith, low, off))
    ];
    past = λ p far. get_there m number x p (omega (arith, far)) ∙ has.past p (omega (arith, far));
  }

bytes_hole : (blocks : ℕ → List ℕ) (address : ℕ) → address ≡ 0 → bytes_at blocks address ≡ None
bytes_hole blocks address e = ap (bytes_at blocks) e

bytes_real : (blocks : ℕ → List ℕ) (address : ℕ) → (address ≡ 0 → ⊥) → bytes_at blocks address ≡ Some (blocks address)
bytes_real blocks zero real = absurd (real refl)
bytes_real blocks (suc before) real = refl

module _ (blocks : ℕ → List ℕ) where
  pub hole_fills : (m : Numbered (List ℕ)) (number size : ℕ) (address : ℕ → ℕ) → ((k : ℕ) → k < size → address k ≡ 0) → FillsParts blocks m m number size address
  hole_fills m number size address none value has is = holes m number size value has (λ k low. is k low ∙ bytes_hole blocks (address k) (none k low))

  pub part_fills : (m new : Numbered (List ℕ)) (number address : ℕ) (bytes : List ℕ) → (address ≡ 0 → ⊥) → bytes ≡ blocks address → new ≡ fin.insert m number bytes → FillsParts blocks m new number 1 (λ k. address)
  part_fills m new number address bytes real same is value has each =
      let e : number + 0 ≡ number = omega arith in
      let here : value number ≡ Some bytes = ap value (sym e) ∙ each 0 (omega arith) ∙ bytes_real blocks address real ∙ ap (λ b. Some b) (sym same) in
      subst (λ n. HasBelow n (number + 1) value) (sym is) (one_more m number value bytes has here)

  entry_real : (address place : ℕ) → (address ≡ 0 → ⊥) → entry_in blocks address place ≡ index_entry (blocks address) place
  unfolding entry_in
  entry_real zero place real = absurd (real refl)
  entry_real (suc before) place real = refl

  pub entry_read : (address place next : ℕ) (block : List ℕ) → (address ≡ 0 → ⊥) → block ≡ blocks address → next ≡ index_entry block place → next ≡ entry_in blocks address place
  entry_read address place next block real same is = is ∙ ap (λ b. index_entry b place) same ∙ sym (entry_real address place real)

  -- one address more of an index block
  pub level_more : (m mid new : Numbered (List ℕ)) (number here next width size : ℕ) (inner outer : ℕ → ℕ) (value : ℕ → Option (List ℕ)) → here + width ≡ next → number ≤ here → next ≤ number + size
      → HasBelow mid here value → FillsParts blocks mid new here width inner → ((k : ℕ) → k < width → inner k ≡ outer (here - number + k)) → ((k : ℕ) → k < size → value (number + k) ≡ bytes_at blocks (outer k))
      → HasBelow new next value
  level_more m mid new number here next width size inner outer value step from room has fills same each =
      subst (λ n. HasBelow new n value) step (fills value has (λ k low.
      (let e : here + k ≡ number + (here - number + k) = omega (arith, from) in ap value e)
      ∙ each (here - number + k) (omega (arith, low, step, from, room)) ∙ ap (bytes_at blocks) (sym (same k low))))

  -- an address under a double and a triple index block, by the index block below
  pub inner_single : (address next place k part : ℕ) → next ≡ entry_in blocks address place → k < 128 → part ≡ 128 * place + k → under_single blocks next k ≡ under_double blocks address part
  inner_single address next place k part is low here =
      ap (λ a. entry_in blocks a k) is
      ∙ ap (λ p. entry_in blocks (entry_in blocks address p) k) (let e : place ≡ part / 128 = omega (arith, here, low) in e)
      ∙ ap (λ p. entry_in blocks (entry_in blocks address (part / 128)) p) (let e : k ≡ part % 128 = omega (arith, here, low) in e)

  pub inner_double : (address next place k part : ℕ) → next ≡ entry_in blocks address place → k < 16384 → part ≡ 16384 * place + k → under_double blocks next k ≡ under_triple blocks address part
  inner_double address next place k part is low here =
      ap (λ a. entry_in blocks (entry_in blocks a (k / 128)) (k % 128)) is
      ∙ ap (λ p. entry_in blocks (entry_in blocks (entry_in blocks address p) (k / 128)) (k % 128)) (let e : place ≡ part / 16384 = omega (arith, here, low) in e)
      ∙ ap (λ p. entry_in blocks (entry_in blocks (entry_in blocks address (part / 16384)) p) (k % 128)) (let e : k / 128 ≡ part / 128 % 128 = omega (arith, here, low) in e)
      ∙ ap (λ p. entry_in blocks (entry_in blocks (entry_in blocks address (part / 16384)) (part / 128 % 128)) p) (let e : k % 128 ≡ part % 128 = omega (arith, here, low) in e)

pub none_below : {X : Type 0} (value : ℕ → Option X) → HasBelow fin.empty 0 value
none_below {X} value = record { below = λ p low. absurd (omega (arith, low)); past = λ p far. get-empty {X = X} nat_cmp p }
