-- One address: where its walk ends, and the flags after it.
use Rattle.std.proofs.Common.{◌≡◌, ◌≢◌, ◌⊎◌, inl, inr, ℕ, zero, suc, ◌+◌, ◌-◌, ◌<◌, ◌≤◌, List, [], ◌∷◌, ◌++◌, Bool, true, false, ◌||◌, ◌&&◌, nat_eq, nat_le, nat_lt, Option, Some, None, Result, Ok, Err, slice_get, slice_set, slice_index_or, length, count_by, cond, refl, sym, ap, subst, ◌∙◌, arith}
use Rattle.std.proofs.lemmas.Bool.Decides.{nat_tests, eqb_tells, leb_tells}
use Rattle.mb_word.specs.Fields.{isize_of, fsize_of}
use Rattle.std.proofs.lemmas.List.{length-set}
use Rattle.std.proofs.lemmas.List.Sums.{sum_by-set}
use Rattle.std.proofs.lemmas.Option.{slice_get-get_or}
use Rattle.mb_tree.proofs.SlotLists.{set_here, set_there}
use Rattle.mb_rules.specs.declared.findings.Finding.{Finding}
use Rattle.mb_rules.specs.Items.{Item, Holds, Held, is_met, walked}
use Rattle.mb_rules.specs.FreeChain.{is_open}
use Rattle.mb_check_files.specs.declared.bounds.Bounds.{Bounds}
use Rattle.mb_check_files.specs.Passes.{Stands, AreBounds}

abbrev pub claim_items : (ℕ → List ℕ) → ℕ → ℕ → ℕ → List Item
claim_items blocks holder rule address = Holds (is_open blocks address) holder rule ∷ Held address ∷ []

closed : (blocks : ℕ → List ℕ) (list : List ℕ) (holder rule address : ℕ) → is_open blocks address ≡ false → walked list (claim_items blocks holder rule address) ≡ Err (record { block = holder; rule = rule })
unfolding walked
closed blocks list holder rule address h = rw (walked, h) refl

pub below : (blocks : ℕ → List ℕ) (list : List ℕ) (bounds : Bounds) (holder rule address : ℕ) → AreBounds blocks bounds → address < bounds.low → walked list (claim_items blocks holder rule address) ≡ Err (record { block = holder; rule = rule })
below blocks list bounds holder rule address are less =
    let low = are.low in
    let test : nat_le (isize_of (blocks 1)) address ≡ false = grind (arith, nat_tests) in
    closed blocks list holder rule address (rw test refl)

and_false : (a b : Bool) → b ≡ false → (a && b) ≡ false
and_false true b h = h
and_false false b h = refl

pub past : (blocks : ℕ → List ℕ) (list : List ℕ) (bounds : Bounds) (holder rule address : ℕ) → AreBounds blocks bounds → bounds.high ≤ address → walked list (claim_items blocks holder rule address) ≡ Err (record { block = holder; rule = rule })
past blocks list bounds holder rule address are more =
    let high = are.high in
    let test : nat_lt address (fsize_of (blocks 1)) ≡ false = grind (arith, nat_tests) in
    closed blocks list holder rule address (and_false (nat_le (isize_of (blocks 1)) address) _ test)

within : (blocks : ℕ → List ℕ) (bounds : Bounds) (address : ℕ) → AreBounds blocks bounds → bounds.low ≤ address → address < bounds.high → is_open blocks address ≡ true
within blocks bounds address are more less =
    let low = are.low in
    let high = are.high in
    let one : nat_le (isize_of (blocks 1)) address ≡ true = grind (arith, nat_tests) in
    let two : nat_lt address (fsize_of (blocks 1)) ≡ true = grind (arith, nat_tests) in
    rw (one, two) refl

pub again : (blocks : ℕ → List ℕ) (list : List ℕ) (flags : List Bool) (bounds : Bounds) (holder rule address : ℕ) → AreBounds blocks bounds → Stands flags list → bounds.low ≤ address → address < bounds.high → address < length flags
    → slice_index_or flags address false ≡ true → walked list (claim_items blocks holder rule address) ≡ Err (record { block = address; rule = 7 })
unfolding walked
again blocks list flags bounds holder rule address are stands more less inside flag =
    let met : is_met list address ≡ true = (let h : Some (is_met list address) ≡ Some true = sym (stands.each address inside) ∙ slice_get-get_or flags address false inside ∙ ap Some flag in cc) in
    let range = within blocks bounds address are more less in
    rw (walked, range, met) refl

pub new : (blocks : ℕ → List ℕ) (list : List ℕ) (flags : List Bool) (bounds : Bounds) (holder rule address : ℕ) → AreBounds blocks bounds → Stands flags list → bounds.low ≤ address → address < bounds.high → address < length flags
    → slice_index_or flags address false ≡ false → walked list (claim_items blocks holder rule address) ≡ Ok (address ∷ list)
unfolding walked
new blocks list flags bounds holder rule address are stands more less inside flag =
    let met : is_met list address ≡ false = (let h : Some (is_met list address) ≡ Some false = sym (stands.each address inside) ∙ slice_get-get_or flags address false inside ∙ ap Some flag in cc) in
    let range = within blocks bounds address are more less in
    rw (walked, range, met) refl

pub count_more : (flags : List Bool) (at : ℕ) → at < length flags → slice_index_or flags at false ≡ false → count_by (λ flag. flag) (slice_set flags at true) ≡ suc (count_by (λ flag. flag) flags)
count_more flags at inside flag =
    let e : count_by (λ b. b) (slice_set flags at true) + cond {A = ℕ} (slice_index_or flags at false) 1 0 ≡ count_by (λ b. b) flags + 1 = sum_by-set (λ (b : Bool). cond {A = ℕ} b 1 0) flags at true false inside in
    let z : cond {A = ℕ} (slice_index_or flags at false) 1 0 ≡ 0 = ap (λ (b : Bool). cond {A = ℕ} b 1 0) flag in
    omega (arith, e, z)

each_more : (list : List ℕ) (flags : List Bool) (address : ℕ) → Stands flags list → address < length flags → (block : ℕ) → block < length (slice_set flags address true) → slice_get (slice_set flags address true) block ≡ Some (is_met (address ∷ list) block)
each_more list flags address stands inside block small =
    let count : length (slice_set flags address true) ≡ length flags = length-set flags address true in
    elim (eqb_tells block address) [
      | inl here ↦
          let same = here.1 in
          rw here.0 (subst (λ b. slice_get (slice_set flags address true) b ≡ Some true) (sym same) (set_here flags address true inside))
      | inr apart ↦ rw apart.0 (set_there flags address true block apart.1 ∙ stands.each block (omega arith))
    ]

pub stands_more : (list : List ℕ) (flags : List Bool) (address : ℕ) → Stands flags list → address < length flags → slice_index_or flags address false ≡ false → Stands (slice_set flags address true) (address ∷ list)
stands_more list flags address stands inside flag = record {
  each = each_more list flags address stands inside;
  count = count_more flags address inside flag ∙ ap suc stands.count;
}
