-- The walk of the super-block, by its tests; and the first three parts together.
use Rattle.std.proofs.Common.{◌≡◌, ℕ, zero, suc, ◌+◌, ◌-◌, ◌*◌, ◌<◌, ◌≤◌, List, [], ◌∷◌, ◌++◌, Bool, true, false, ◌&&◌, nat_eq, nat_le, nat_lt, length, count_by, cond, Some, None, Result, Ok, Err, slice_get, slice_index_or, replicate, refl, sym, ap, subst, ◌∙◌, arith}
use Rattle.std.proofs.lemmas.Bool.Decides.{nat_tests}
use Rattle.std.proofs.lemmas.List.{get_or-replicate, length-replicate}
use Rattle.std.proofs.lemmas.List.Folds.{sum_by-replicate}
use Rattle.std.proofs.lemmas.List.Sorted.{length_permutation}
use Rattle.std.proofs.lemmas.Option.{slice_get-get_or}
use Rattle.mb_kinds.specs.Image.{Image}
use Rattle.mb_word.specs.Fields.{isize_of, fsize_of, nfree_of, ninode_of}
use Rattle.mb_tree.specs.Cost.{cost}
use Rattle.mb_rules.specs.declared.findings.Finding.{Finding}
use Rattle.mb_rules.specs.Items.{Item, Holds, walked, walked_on}
use Rattle.mb_rules.specs.SuperBlock.{are_sizes, are_counts, super_block_items}
use Rattle.mb_rules.specs.FreeChain.{chain_items}
use Rattle.mb_rules.specs.Files.{files_items}
use Rattle.mb_rules.specs.TreeOf.{chain_of, tree_of}
use Rattle.mb_rules.proofs.FreeChains.{chain_accepts, none_once}
use Rattle.mb_rules.proofs.Walks.{both, walk_append}
use Rattle.mb_scan_laws.specs.Laws.{first_items}
use Rattle.mb_scan_laws.proofs.Costs.{files_cost}
use Rattle.mb_scan_laws.proofs.Storing.{stores, walk_then, walked_once}
use Rattle.mb_check_files.specs.declared.bounds.Bounds.{Bounds}
use Rattle.mb_check_files.specs.declared.stops.Stop.{Stop}
use Rattle.mb_check_files.specs.declared.stops.Stop.TheVariants.{Broken, Device, NoMemory}
use Rattle.mb_check_files.specs.Findings.{AreSized, Finds}
use Rattle.mb_check_files.specs.Passes.{AreBounds, Passes, Stands, count_met}

abbrev three : Bool → Bool → Bool → List Item
three a b c = Holds a 1 1 ∷ Holds b 1 2 ∷ Holds c 1 3 ∷ []

module _ (image : Image) (count : ℕ) (counted : count ≡ image.count) where
  by_three : (answer : Result (List ℕ) Finding) (a b c : Bool) → nat_le 2 count ≡ a → are_sizes (image.at 1) count ≡ b → are_counts (image.at 1) ≡ c → walked [] (three a b c) ≡ answer → walked [] (super_block_items image) ≡ answer
  by_three answer a b c x y z h =
      ap (λ n. walked [] (three (nat_le 2 n) (are_sizes (image.at 1) n) (are_counts (image.at 1)))) (sym counted)
      ∙ ap (λ t. walked [] (three t (are_sizes (image.at 1) count) (are_counts (image.at 1)))) x
      ∙ ap (λ t. walked [] (three a t (are_counts (image.at 1)))) y
      ∙ ap (λ t. walked [] (three a b t)) z ∙ h

  first_stops : (b c : Bool) → walked [] (three false b c) ≡ Err (record { block = 1; rule = 1 })
  unfolding walked
  first_stops b c = refl

  second_stops : (c : Bool) → walked [] (three true false c) ≡ Err (record { block = 1; rule = 2 })
  unfolding walked
  second_stops c = refl

  third_stops : walked [] (three true true false) ≡ Err (record { block = 1; rule = 3 })
  unfolding walked
  third_stops = refl

  all_pass : walked [] (three true true true) ≡ Ok []
  unfolding walked
  all_pass = refl

  pub cut_stops : count < 2 → walked [] (super_block_items image) ≡ Err (record { block = 1; rule = 1 })
  cut_stops few = by_three (Err (record { block = 1; rule = 1 })) false (are_sizes (image.at 1) count) (are_counts (image.at 1)) (grind (arith, nat_tests)) refl refl (first_stops (are_sizes (image.at 1) count) (are_counts (image.at 1)))

  module _ (enough : 2 ≤ count) where
    pub sizes_stop : are_sizes (image.at 1) count ≡ false → walked [] (super_block_items image) ≡ Err (record { block = 1; rule = 2 })
    sizes_stop t = by_three (Err (record { block = 1; rule = 2 })) true false (are_counts (image.at 1)) (grind (arith, nat_tests)) t refl (second_stops (are_counts (image.at 1)))

    pub counts_stop : are_sizes (image.at 1) count ≡ true → are_counts (image.at 1) ≡ false → walked [] (super_block_items image) ≡ Err (record { block = 1; rule = 3 })
    counts_stop s t = by_three (Err (record { block = 1; rule = 3 })) true true false (grind (arith, nat_tests)) s t third_stops

    pub super_passes : are_sizes (image.at 1) count ≡ true → are_counts (image.at 1) ≡ true → walked [] (super_block_items image) ≡ Ok []
    super_passes s t = by_three (Ok []) true true true (grind (arith, nat_tests)) s t all_pass

pub stands_none : (n : ℕ) → Stands (replicate n false) []
stands_none n = record {
  each = λ block low. (let l : length (replicate n false) ≡ n = length-replicate {A = Bool} n false in
      slice_get-get_or (replicate n false) block false low ∙ ap Some (get_or-replicate n block false false (omega (arith, l, low))));
  count = (let s = sum_by-replicate (λ (b : Bool). cond {A = ℕ} b 1 0) n false in omega (arith, s));
}

-- ---- the first three parts, one after another

pub finds_stop : {T : Type 0} (stop : Stop) (r : Result T Stop) (met later : List ℕ) (flags : List Bool) (items all : List Item) → r ≡ Err stop
    → ((broken : Finding) → walked met items ≡ Err broken → walked later all ≡ Err broken) → Passes (Err stop) flags met items → Finds r later all
finds_stop {T} (Broken broken) r met later flags items all is on h = subst (λ (x : Result T Stop). Finds x later all) (sym is) (on broken h)
finds_stop {T} Device r met later flags items all is on h = subst (λ (x : Result T Stop). Finds x later all) (sym is) tt
finds_stop {T} NoMemory r met later flags items all is on h = subst (λ (x : Result T Stop). Finds x later all) (sym is) tt

pub finds_as : {S T : Type 0} (stop : Stop) (q : Result S Stop) (r : Result T Stop) (met later : List ℕ) (items all : List Item) → q ≡ Err stop → r ≡ Err stop
    → ((broken : Finding) → walked met items ≡ Err broken → walked later all ≡ Err broken) → Finds q met items → Finds r later all
finds_as {S} {T} (Broken broken) q r met later items all was is on h = subst (λ (x : Result T Stop). Finds x later all) (sym is) (on broken (subst (λ (x : Result S Stop). Finds x met items) was h))
finds_as {S} {T} Device q r met later items all was is on h = subst (λ (x : Result T Stop). Finds x later all) (sym is) tt
finds_as {S} {T} NoMemory q r met later items all was is on h = subst (λ (x : Result T Stop). Finds x later all) (sym is) tt

module _ (image : Image) where
  pub super_ends : (broken : Finding) → walked [] (super_block_items image) ≡ Err broken → walked [] (first_items image) ≡ Err broken
  super_ends broken h = walk_append [] (super_block_items image) (chain_items image.at ++ files_items image.at) ∙ ap (λ r. walked_on r (chain_items image.at ++ files_items image.at)) h

  module _ (head : walked [] (super_block_items image) ≡ Ok []) where
    late : walked [] (first_items image) ≡ walked [] (chain_items image.at ++ files_items image.at)
    late = walk_append [] (super_block_items image) (chain_items image.at ++ files_items image.at) ∙ ap (λ r. walked_on r (chain_items image.at ++ files_items image.at)) head

    pub chain_ends : (broken : Finding) → walked [] (chain_items image.at) ≡ Err broken → walked [] (first_items image) ≡ Err broken
    chain_ends broken h = late ∙ walk_append [] (chain_items image.at) (files_items image.at) ∙ ap (λ r. walked_on r (files_items image.at)) h

    pub files_end : (mid : List ℕ) (answer : Result (List ℕ) Finding) → walked [] (chain_items image.at) ≡ Ok mid → walked mid (files_items image.at) ≡ answer → walked [] (first_items image) ≡ answer
    files_end mid answer h f = late ∙ walk_append [] (chain_items image.at) (files_items image.at) ∙ ap (λ r. walked_on r (files_items image.at)) h ∙ f

    -- the free blocks and what the files hold are what was met
    module _ (whole : (block : ℕ) → length (image.at block) ≡ 512) (three_blocks : 3 ≤ isize_of (image.at 1)) (few : nfree_of (image.at 1) ≤ 50) (mid after : List ℕ)
        (one : walked [] (chain_items image.at) ≡ Ok mid) (two : walked mid (files_items image.at) ≡ Ok after) where
      pub chain_length : length mid ≡ length (chain_of image.at)
      chain_length = sym (length_permutation mid (chain_of image.at) (chain_accepts image.at mid three_blocks few one).1)

      pub files_length : length after ≡ cost (tree_of image) + length mid
      files_length =
          let shown = stores image after whole (files_end mid (Ok after) one two) in
          files_cost image (tree_of image) (chain_of image.at) mid after shown.stored shown.kinds (walked_once [] (chain_items image.at) mid one none_once) two

pub bounds_of : (image : Image) (block : List ℕ) (bounds : Bounds) → AreSized block bounds → block ≡ image.at 1 → AreBounds image.at bounds
bounds_of image block bounds sized same = record { low = ap isize_of (sym same) ∙ sized.low; high = ap fsize_of (sym same) ∙ sized.high }

pub paid_by : (held all free met chain paid : ℕ) → held ≡ all - free → all ≡ met → free ≡ chain → met ≡ paid + chain → held ≡ paid
paid_by held all free met chain paid a b c d = omega (arith, a, b, c, d)
