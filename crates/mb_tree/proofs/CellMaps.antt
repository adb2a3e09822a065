-- What reading, filling and emptying a cell does to the map that a row of cells is.
use Rattle.std.proofs.Common.{◌≡◌, ◌≢◌, inl, inr, ℕ, zero, suc, ◌+◌, ◌<◌, ◌≤◌, cond, List, [], ◌∷◌, refl, sym, ap, ◌∙◌, arith, length, Option, Some, None, slice_set, slice_index_or, replicate, map, drop, ◌++◌}
use Rattle.std.proofs.Math.ListN.{drop_of_length-le}
use Rattle.std.proofs.lemmas.List.{append-nil}
use Rattle.std.specs.FinMap as fin
use Rattle.std.specs.FinMap.{get-from_entries, get-empty}
use Rattle.std.specs.Cmp.{nat_cmp_total, nat_cmp_is}
use Rattle.std.specs.List.{AllByRecursion}
use Rattle.std.specs.List.Sorted.{IsStrictlySortedBy}
use Rattle.std.specs.declared.cmp.Ordering.TheVariants.{Less}
use Rattle.mb_tree.specs.Filled.{filled}
use Rattle.std.specs.Ordering.{nat_cmp}
use Rattle.mb_tree.specs.Cells.{cell_entries, from_cells}
use Rattle.mb_tree.proofs.FiniteMaps.{same, get_here, get_there, gone_here, gone_there, one_or_not, is_here, is_apart, entries_view}

-- the cell at a place, None past the end
abbrev pub cell : {X : Type 0} → List (Option X) → ℕ → Option X
cell [] k = None
cell (c ∷ cs) zero = c
cell (c ∷ cs) (suc k) = cell cs k

module _ {X : Type 0} where
  abbrev found : ℕ → List (Option X) → ℕ → Option X
  found at cells q = fin.find nat_cmp q (cell_entries at cells)

  below : (cells : List (Option X)) (at q : ℕ) → q < at → found at cells q ≡ None
  below [] at q h = refl
  below (None ∷ cells) at q h = below cells (at + 1) q (omega arith)
  below (Some x ∷ cells) at q h = ap (λ b. cond b (Some x) (found (at + 1) cells q)) (is_apart q at (omega arith)) ∙ below cells (at + 1) q (omega arith)

  step : (c : Option X) (cells : List (Option X)) (at q : ℕ) → at < q → found at (c ∷ cells) q ≡ found (at + 1) cells q
  step None cells at q h = refl
  step (Some x) cells at q h = ap (λ b. cond b (Some x) (found (at + 1) cells q)) (is_apart q at (omega arith))

  head : (c : Option X) (cells : List (Option X)) (at : ℕ) → found at (c ∷ cells) at ≡ c
  head None cells at = below cells (at + 1) at (omega arith)
  head (Some x) cells at = ap (λ b. cond b (Some x) (found (at + 1) cells at)) (is_here at)

  found_cell : (cells : List (Option X)) (at k q : ℕ) → q ≡ at + k → found at cells q ≡ cell cells k
  found_cell [] at k q e = refl
  found_cell (c ∷ cells) at zero q e = let same_q : q ≡ at = omega arith in rw same_q (head c cells at)
  found_cell (c ∷ cells) at (suc k) q e = step c cells at q (omega arith) ∙ found_cell cells (at + 1) k q (omega arith)

  pub get_cells : (cells : List (Option X)) (k : ℕ) → fin.get (from_cells cells) k ≡ cell cells k
  unfolding from_cells
  get_cells cells k = get-from_entries nat_cmp_total (cell_entries 0 cells) k ∙ found_cell cells 0 k k (omega arith)

  cell_index : (cells : List (Option X)) (k : ℕ) (d : Option X) → k < length cells → slice_index_or cells k d ≡ cell cells k
  cell_index [] k d h = absurd (omega arith)
  cell_index (c ∷ cells) zero d h = refl
  cell_index (c ∷ cells) (suc k) d h = cell_index cells k d (omega arith)

  past : (cells : List (Option X)) (k : ℕ) → length cells ≤ k → cell cells k ≡ None
  past [] k h = refl
  past (c ∷ cells) zero h = absurd (omega arith)
  past (c ∷ cells) (suc k) h = past cells k (omega arith)

  set_here : (cells : List (Option X)) (k : ℕ) (c : Option X) → k < length cells → cell (slice_set cells k c) k ≡ c
  set_here [] k c h = absurd (omega arith)
  set_here (d ∷ cells) zero c h = refl
  set_here (d ∷ cells) (suc k) c h = set_here cells k c (omega arith)

  set_there : (cells : List (Option X)) (k q : ℕ) (c : Option X) → q ≢ k → cell (slice_set cells k c) q ≡ cell cells q
  set_there [] k q c h = refl
  set_there (d ∷ cells) zero zero c h = absurd (h refl)
  set_there (d ∷ cells) zero (suc q) c h = refl
  set_there (d ∷ cells) (suc k) zero c h = refl
  set_there (d ∷ cells) (suc k) (suc q) c h = set_there cells k q c (λ e. h (omega arith))

  -- the answers of the tables' methods: at is the cell's place, k the key
  pub get_cell : (m : fin.FinMap nat_cmp X) (cells : List (Option X)) (at k : ℕ) (d : Option X) → from_cells cells ≡ m → at ≡ k → at < length cells → slice_index_or cells at d ≡ fin.get m k
  get_cell m cells at k d e is h = cell_index cells at d h ∙ sym (get_cells cells at) ∙ ap (λ n. fin.get n at) e ∙ ap (fin.get m) is

  pub cell_past : (m : fin.FinMap nat_cmp X) (cells : List (Option X)) (at k : ℕ) → from_cells cells ≡ m → at ≡ k → length cells ≤ at → None ≡ fin.get m k
  cell_past m cells at k e is h = sym (past cells at h) ∙ sym (get_cells cells at) ∙ ap (λ n. fin.get n at) e ∙ ap (fin.get m) is

  put_at : (cells : List (Option X)) (k : ℕ) (x : X) → k < length cells → from_cells (slice_set cells k (Some x)) ≡ fin.insert (from_cells cells) k x
  put_at cells k x h = same _ _ (λ q. get_cells _ q ∙ elim (one_or_not q k) [
    | inl is ↦ rw is (set_here cells k (Some x) h ∙ sym (get_here (from_cells cells) k x))
    | inr not ↦ set_there cells k q (Some x) not ∙ sym (get_cells cells q) ∙ sym (get_there (from_cells cells) k x q not)
  ])

  pub put_cell : (m : fin.FinMap nat_cmp X) (cells : List (Option X)) (at k : ℕ) (x : X) → from_cells cells ≡ m → at ≡ k → at < length cells → from_cells (slice_set cells at (Some x)) ≡ fin.insert m k x
  put_cell m cells at k x e is h = put_at cells at x h ∙ ap (λ n. fin.insert n at x) e ∙ ap (λ j. fin.insert m j x) is

  drop_at : (cells : List (Option X)) (k : ℕ) → k < length cells → from_cells (slice_set cells k None) ≡ fin.remove (from_cells cells) k
  drop_at cells k h = same _ _ (λ q. get_cells _ q ∙ elim (one_or_not q k) [
    | inl is ↦ rw is (set_here cells k None h ∙ sym (gone_here (from_cells cells) k))
    | inr not ↦ set_there cells k q None not ∙ sym (get_cells cells q) ∙ sym (gone_there (from_cells cells) k q not)
  ])

  pub drop_cell : (m : fin.FinMap nat_cmp X) (cells : List (Option X)) (at k : ℕ) → from_cells cells ≡ m → at ≡ k → at < length cells → from_cells (slice_set cells at None) ≡ fin.remove m k
  drop_cell m cells at k e is h = drop_at cells at h ∙ ap (λ n. fin.remove n at) e ∙ ap (fin.remove m) is

  pub drop_past : (m : fin.FinMap nat_cmp X) (cells : List (Option X)) (at k : ℕ) → from_cells cells ≡ m → at ≡ k → length cells ≤ at → m ≡ fin.remove m k
  drop_past m cells at k e is h = same _ _ (λ q. elim (one_or_not q k) [
    | inl same_key ↦ rw same_key (sym (cell_past m cells at k e is h) ∙ sym (gone_here m k))
    | inr not ↦ sym (gone_there m k q not)
  ])

  none_everywhere : (n k : ℕ) → cell {X = X} (replicate n None) k ≡ None
  none_everywhere zero k = refl
  none_everywhere (suc n) zero = refl
  none_everywhere (suc n) (suc k) = none_everywhere n k

  pub no_cells : (n : ℕ) → from_cells (replicate {A = Option X} n None) ≡ fin.empty
  no_cells n = same _ _ (λ q. get_cells _ q ∙ none_everywhere n q ∙ sym (get-empty nat_cmp q))

  -- the values of the map are the cells' that have one, in order
  rising : (low at : ℕ) (cells : List (Option X)) → low < at → AllByRecursion (λ key. nat_cmp low key ≡ Less) (map (λ e. e.0) (cell_entries at cells))
  rising low at [] h = tt
  rising low at (None ∷ cells) h = rising low (at + 1) cells (omega arith)
  rising low at (Some x ∷ cells) h = (sym (nat_cmp_is low at Less h), rising low (at + 1) cells (omega arith))

  sorted : (at : ℕ) (cells : List (Option X)) → IsStrictlySortedBy nat_cmp (map (λ e. e.0) (cell_entries at cells))
  unfolding IsStrictlySortedBy
  sorted at [] = tt
  sorted at (None ∷ cells) = sorted (at + 1) cells
  sorted at (Some x ∷ cells) = (rising at (at + 1) cells (omega arith), sorted (at + 1) cells)

  values : (at : ℕ) (cells : List (Option X)) → map (λ e. e.1) (cell_entries at cells) ≡ filled cells
  values at [] = refl
  values at (None ∷ cells) = values (at + 1) cells
  values at (Some x ∷ cells) = ap (λ xs. x ∷ xs) (values (at + 1) cells)

  pub values_cells : (cells : List (Option X)) → fin.values (from_cells cells) ≡ filled cells
  unfolding from_cells
  values_cells cells = ap (map (λ e. e.1)) (entries_view (cell_entries 0 cells) (sorted 0 cells)) ∙ values 0 cells

  pub all_filled : {Y : Type 0} (f : X → Y) (ys : List Y) (cells : List (Option X)) (m : fin.FinMap nat_cmp X) (i : ℕ) → from_cells cells ≡ m → length cells ≤ i
      → ys ++ map f (filled (drop i cells)) ≡ map f (filled cells) → ys ≡ map f (fin.values m)
  all_filled f ys cells m i e h so_far = sym (append-nil ys) ∙ ap (λ cs. ys ++ map f (filled cs)) (sym (drop_of_length-le cells h)) ∙ so_far ∙ ap (map f) (sym (values_cells cells)) ∙ ap (λ n. map f (fin.values n)) e
