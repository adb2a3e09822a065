-- The number of a new inode: there is a lawful pick on each tree, the demanded number, else a free one, else none; and
-- V7's pick before any change is the volume's.
use Rattle.std.proofs.Common.{ℕ, zero, suc, List, [], ◌≡◌, ◌≤◌, ◌⊎◌, inl, inr, Option, Some, None, refl, sym, subst, ◌∙◌, arith}
use Rattle.std.specs.FinMap as fin
use Rattle.std.proofs.lemmas.Bool.{cases_eq, cases_lt}
use Rattle.mb_kinds.specs.Image.{Image}
use Rattle.mb_tree.specs.Step.{IsFreeNumber}
use Rattle.mb_tree.specs.declared.nodes.Node.{Node}
use Rattle.mb_tree.specs.declared.trees.Tree.{Tree}
use Rattle.mb_iface.specs.Acting.{PicksNumber}
use Rattle.mb_moves.proofs.InARow.{itself}
use Rattle.mb_dirs.specs.Choosing.{IsChoice, IsPickOf}
use Rattle.mb_fsops.specs.Creating.{IsV7Pick}
use Rattle.mb_fsops.proofs.Steps.{stored_first}

-- there is a free number, or none up to this one is free
abbrev Found : Tree → ℕ → Type 0
Found tree n = ((ino : ℕ) × IsFreeNumber tree ino) ⊎ ((ino : ℕ) → ino ≤ n → IsFreeNumber tree ino → ⊥)

-- one number more that is not free
beyond : (tree : Tree) (n : ℕ) → (IsFreeNumber tree (suc n) → ⊥) → ((ino : ℕ) → ino ≤ n → IsFreeNumber tree ino → ⊥) → Found tree (suc n)
beyond tree n not_here none = inr (λ ino below free. elim (cases_eq ino (suc n)) [
  | inl same ↦ not_here (subst (IsFreeNumber tree) same free)
  | inr apart ↦ none ino (omega (arith, below, apart)) free
])

test_one : (tree : Tree) (n : ℕ) (here : Option Node) → fin.get tree.nodes (suc n) ≡ here → 3 ≤ suc n → suc n ≤ tree.last
    → ((ino : ℕ) → ino ≤ n → IsFreeNumber tree ino → ⊥) → Found tree (suc n)
test_one tree n None is low high none = inl (suc n, record { above = low; within = high; unused = is })
test_one tree n (Some node) is low high none = beyond tree n (λ free. let clash : None ≡ Some node = sym free.unused ∙ is in cc) none

free_below : (tree : Tree) (n : ℕ) → Found tree n
free_below tree zero = inr (λ ino below free. let above = free.above in omega (arith, above, below))
free_below tree (suc n) = elim (free_below tree n) [
  | inl got ↦ inl got
  | inr none ↦ elim (cases_lt (suc n) 3) [
    | inl low ↦ beyond tree n (λ free. let above = free.above in omega (arith, above, low)) none
    | inr high ↦ elim (cases_lt tree.last (suc n)) [
      | inl past ↦ beyond tree n (λ free. let within = free.within in omega (arith, within, past)) none
      | inr within ↦ test_one tree n (fin.get tree.nodes (suc n)) refl high within none
    ]
  ]
]

pub some_pick : (tree : Tree) (demanded : Option ℕ) → (picked : Option ℕ) × PicksNumber tree demanded picked
some_pick tree (Some number) = (Some number, refl)
some_pick tree None = elim (free_below tree tree.last) [
  | inl got ↦ (Some got.0, got.1)
  | inr none ↦ (None, λ ino free. none ino free.within free)
]

pub v7_pick : (shown : ℕ → Option (List ℕ)) (demanded : Option ℕ) (ino : ℕ) → IsChoice shown [] demanded ino → demanded ≡ None → IsV7Pick shown ino
v7_pick shown (Some number) ino choice undemanded = absurd (some_none undemanded)
  where
    some_none : {n : ℕ} → Some n ≡ None → ⊥
    some_none e = cc
v7_pick shown None ino choice undemanded = λ image tree part volume. subst (λ (i : Image). IsPickOf i.at ino) (itself image) (choice image tree volume.chain part (stored_first shown image tree part volume))
