-- The parts under an index block, noted place after place.
use Rattle.std.proofs.Common.{◌≡◌, ℕ, zero, suc, ◌+◌, ◌-◌, ◌*◌, ◌/◌, ◌%◌, ◌<◌, ◌≤◌, List, refl, sym, ap, subst, ◌∙◌, arith}
use Rattle.mb_word.specs.Fields.{index_entry}
use Rattle.mb_tree.specs.Blocks.{entry_in}
use Rattle.mb_check_files.specs.declared.part_lists.PartList.{PartList}
use Rattle.mb_check_files.specs.Indexes.{under_single, under_double, under_triple}
use Rattle.mb_check_files.specs.PartLists.{Notes}
use Rattle.mb_check_files.proofs.Notings.{notes_more, notes_same}

pub entry_hole : (blocks : ℕ → List ℕ) (address place : ℕ) → address ≡ 0 → entry_in blocks address place ≡ 0
unfolding entry_in
entry_hole blocks zero place e = refl
entry_hole blocks (suc before) place e = absurd (omega (arith, e))

pub hole_single : (blocks : ℕ → List ℕ) (address k : ℕ) → address ≡ 0 → under_single blocks address k ≡ 0
hole_single blocks address k e = entry_hole blocks address k e

pub hole_double : (blocks : ℕ → List ℕ) (address k : ℕ) → address ≡ 0 → under_double blocks address k ≡ 0
hole_double blocks address k e = entry_hole blocks (entry_in blocks address (k / 128)) (k % 128) (entry_hole blocks address (k / 128) e)

pub hole_triple : (blocks : ℕ → List ℕ) (address k : ℕ) → address ≡ 0 → under_triple blocks address k ≡ 0
hole_triple blocks address k e = entry_hole blocks (entry_in blocks (entry_in blocks address (k / 16384)) (k / 128 % 128)) (k % 128) (entry_hole blocks (entry_in blocks address (k / 16384)) (k / 128 % 128) (entry_hole blocks address (k / 16384) e))

module _ (blocks : ℕ → List ℕ) (address : ℕ) (some : address ≡ 0 → ⊥) (block : List ℕ) (same : block ≡ blocks address) where
  entry_real : (a place : ℕ) → (a ≡ 0 → ⊥) → entry_in blocks a place ≡ index_entry (blocks a) place
  unfolding entry_in
  entry_real zero place apart = absurd (apart refl)
  entry_real (suc before) place apart = refl

  entry_read : (place : ℕ) → index_entry block place ≡ entry_in blocks address place
  entry_read place = ap (λ (b : List ℕ). index_entry b place) same ∙ sym (entry_real address place some)

  pub all_single : (old new : PartList) (place : ℕ) → place ≡ 128 → Notes old new (index_entry block) place → Notes old new (under_single blocks address) 128
  all_single old new place all notes = notes_same old new (index_entry block) (under_single blocks address) 128 (λ k low. entry_read k) (subst (Notes old new (index_entry block)) all notes)

  pub all_double : (old new : PartList) (place : ℕ) → place ≡ 128 → Notes old new (λ k. under_single blocks (index_entry block (k / 128)) (k % 128)) (128 * place) → Notes old new (under_double blocks address) 16384
  all_double old new place all notes =
      notes_same old new (λ k. under_single blocks (index_entry block (k / 128)) (k % 128)) (under_double blocks address) 16384
      (λ k low. ap (λ a. entry_in blocks a (k % 128)) (entry_read (k / 128)))
      (subst (Notes old new (λ k. under_single blocks (index_entry block (k / 128)) (k % 128))) (let e : 128 * place ≡ 16384 = omega (arith, all) in e) notes)

  pub all_triple : (old new : PartList) (place : ℕ) → place ≡ 128 → Notes old new (λ k. under_double blocks (index_entry block (k / 16384)) (k % 16384)) (16384 * place) → Notes old new (under_triple blocks address) 2097152
  all_triple old new place all notes =
      notes_same old new (λ k. under_double blocks (index_entry block (k / 16384)) (k % 16384)) (under_triple blocks address) 2097152
      (λ k low.
      ap (λ a. entry_in blocks (entry_in blocks a (k % 16384 / 128)) (k % 16384 % 128)) (entry_read (k / 16384))
      ∙ ap (λ p. entry_in blocks (entry_in blocks (entry_in blocks address (k / 16384)) p) (k % 16384 % 128)) (let e : k % 16384 / 128 ≡ k / 128 % 128 = omega arith in e)
      ∙ ap (λ p. entry_in blocks (entry_in blocks (entry_in blocks address (k / 16384)) (k / 128 % 128)) p) (let e : k % 16384 % 128 ≡ k % 128 = omega arith in e))
      (subst (Notes old new (λ k. under_double blocks (index_entry block (k / 16384)) (k % 16384))) (let e : 16384 * place ≡ 2097152 = omega (arith, all) in e) notes)

pub more_single : (old mid new : PartList) (block : List ℕ) (place entry : ℕ) → entry ≡ index_entry block place → Notes old mid (index_entry block) place → Notes mid new (λ _. entry) 1 → Notes old new (index_entry block) (place + 1)
more_single old mid new block place entry is one two = notes_more old mid new (index_entry block) (λ _. entry) place 1 one two (λ k low. (let e : place + k ≡ place = omega arith in ap (index_entry block) e) ∙ sym is)

pub more_double : (blocks : ℕ → List ℕ) (old mid new : PartList) (block : List ℕ) (place entry : ℕ) → entry ≡ index_entry block place
    → Notes old mid (λ k. under_single blocks (index_entry block (k / 128)) (k % 128)) (128 * place) → Notes mid new (under_single blocks entry) 128
    → Notes old new (λ k. under_single blocks (index_entry block (k / 128)) (k % 128)) (128 * (place + 1))
more_double blocks old mid new block place entry is one two =
    subst (Notes old new (λ k. under_single blocks (index_entry block (k / 128)) (k % 128))) (let e : 128 * place + 128 ≡ 128 * (place + 1) = omega arith in e)
    (notes_more old mid new (λ k. under_single blocks (index_entry block (k / 128)) (k % 128)) (under_single blocks entry) (128 * place) 128 one two (λ k low.
    ap (λ p. under_single blocks (index_entry block p) ((128 * place + k) % 128)) (let e : (128 * place + k) / 128 ≡ place = omega arith in e)
    ∙ ap (λ p. under_single blocks (index_entry block place) p) (let e : (128 * place + k) % 128 ≡ k = omega arith in e)
    ∙ ap (λ a. under_single blocks a k) (sym is)))

pub more_triple : (blocks : ℕ → List ℕ) (old mid new : PartList) (block : List ℕ) (place entry : ℕ) → entry ≡ index_entry block place
    → Notes old mid (λ k. under_double blocks (index_entry block (k / 16384)) (k % 16384)) (16384 * place) → Notes mid new (under_double blocks entry) 16384
    → Notes old new (λ k. under_double blocks (index_entry block (k / 16384)) (k % 16384)) (16384 * (place + 1))
more_triple blocks old mid new block place entry is one two =
    subst (Notes old new (λ k. under_double blocks (index_entry block (k / 16384)) (k % 16384))) (let e : 16384 * place + 16384 ≡ 16384 * (place + 1) = omega arith in e)
    (notes_more old mid new (λ k. under_double blocks (index_entry block (k / 16384)) (k % 16384)) (under_double blocks entry) (16384 * place) 16384 one two (λ k low.
    ap (λ p. under_double blocks (index_entry block p) ((16384 * place + k) % 16384)) (let e : (16384 * place + k) / 16384 ≡ place = omega arith in e)
    ∙ ap (λ p. under_double blocks (index_entry block place) p) (let e : (16384 * place + k) % 16384 ≡ k = omega arith in e)
    ∙ ap (λ a. under_double blocks a k) (sym is)))
