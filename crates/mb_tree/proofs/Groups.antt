-- How many groups of parts are touched, one part further.
use Rattle.std.proofs.Common.{◌≡◌, ℕ, suc, ◌+◌, ◌-◌, ◌/◌, ◌<◌, Bool, true, false, cond, not, ◌&&◌, ◌||◌, List, [], ◌∷◌, ◌++◌, map, filter, refl, sym, ap, ◌∙◌, arith, nat_eq, append_assoc}
use Rattle.std.specs.FinSet as set
use Rattle.std.specs.FinSet.{contains-from_list_nat, len-insert, len-empty}
use Rattle.std.specs.Cmp.{nat_cmp_total}
use Rattle.std.specs.Ordering.{nat_cmp}
use Rattle.std.specs.List.{list_any}
use Rattle.mb_tree.specs.Cost.{is_within, is_near, is_last, touched, first_parts, index_blocks}

any_near : (low high size part : ℕ) (xs : List ℕ) → list_any (λ y. nat_eq y ((part - low) / size)) (map (λ x. (x - low) / size) (filter (is_within low high) xs)) ≡ list_any (is_near low high size part) xs
any_near low high size part [] = refl
any_near low high size part (x ∷ xs) =
    elim (is_within low high x) as (λ b. list_any (λ y. nat_eq y ((part - low) / size)) (map (λ x. (x - low) / size) (cond b (x ∷ filter (is_within low high) xs) (filter (is_within low high) xs))) ≡ ((b && nat_eq ((x - low) / size) ((part - low) / size)) || list_any (is_near low high size part) xs)) [
      | true ↦ ap (λ b. nat_eq ((x - low) / size) ((part - low) / size) || b) (any_near low high size part xs)
      | false ↦ any_near low high size part xs
    ]

turned : (b : Bool) (n m : ℕ) → cond b n m ≡ cond (not b) m n
turned true n m = refl
turned false n m = refl

-- a group is counted where no later part is in it
pub counted : (low high size part : ℕ) (rest : List ℕ) → set.len (touched low high size (part ∷ rest)) ≡ cond (is_last low high size part rest) (set.len (touched low high size rest) + 1) (set.len (touched low high size rest))
counted low high size part rest =
    let groups : List ℕ = map (λ x. (x - low) / size) (filter (is_within low high) rest) in
    elim (is_within low high part) as (λ b. set.len (set.from_list {R = nat_cmp} (map (λ x. (x - low) / size) (cond b (part ∷ filter (is_within low high) rest) (filter (is_within low high) rest)))) ≡ cond (b && not (list_any (is_near low high size part) rest)) (set.len (touched low high size rest) + 1) (set.len (touched low high size rest))) [
      | true ↦ len-insert nat_cmp_total (set.from_list groups) ((part - low) / size)
          ∙ ap (λ b. cond b (set.len (touched low high size rest)) (set.len (touched low high size rest) + 1)) (contains-from_list_nat groups ((part - low) / size) ∙ any_near low high size part rest)
          ∙ turned (list_any (is_near low high size part) rest) (set.len (touched low high size rest)) (set.len (touched low high size rest) + 1)
      | false ↦ refl
    ]

pub one_more : (low high size part count all : ℕ) (parts rest : List ℕ) → parts ≡ part ∷ rest → is_last low high size part rest ≡ true
    → count + set.len (touched low high size parts) ≡ all → count + 1 + set.len (touched low high size rest) ≡ all
one_more low high size part count all parts rest e last h =
    let c : set.len (touched low high size parts) ≡ set.len (touched low high size rest) + 1 = ap (λ xs. set.len (touched low high size xs)) e ∙ counted low high size part rest ∙ ap (λ b. cond b (set.len (touched low high size rest) + 1) (set.len (touched low high size rest))) last in
    omega (arith, c, h)

pub none_more : (low high size part count all : ℕ) (parts rest : List ℕ) → parts ≡ part ∷ rest → is_last low high size part rest ≡ false
    → count + set.len (touched low high size parts) ≡ all → count + set.len (touched low high size rest) ≡ all
none_more low high size part count all parts rest e last h =
    let c : set.len (touched low high size parts) ≡ set.len (touched low high size rest) = ap (λ xs. set.len (touched low high size xs)) e ∙ counted low high size part rest ∙ ap (λ b. cond b (set.len (touched low high size rest) + 1) (set.len (touched low high size rest))) last in
    omega (arith, c, h)

no_groups : (low high size : ℕ) → set.len (touched low high size []) ≡ 0
no_groups low high size = len-empty nat_cmp

pub all_counted : (low high size count all : ℕ) (rest : List ℕ) → rest ≡ [] → count + set.len (touched low high size rest) ≡ all → count ≡ all
all_counted low high size count all rest e h =
    let c : set.len (touched low high size rest) ≡ 0 = ap (λ xs. set.len (touched low high size xs)) e ∙ no_groups low high size in
    omega (arith, c, h)

pub no_blocks : 0 ≡ 0 + index_blocks []
no_blocks = rw (no_groups 10 138 128) refl

pub first_step : (parts more all : List ℕ) (n : ℕ) → 0 < n → more ≡ parts ++ (n - 1) ∷ [] → parts ++ first_parts n ≡ all → more ++ first_parts (n - 1) ≡ all
first_step parts more all n h e inv =
    let s : n ≡ suc (n - 1) = omega arith in
    let f : first_parts n ≡ (n - 1) ∷ first_parts (n - 1) = ap first_parts s in
    ap (λ xs. xs ++ first_parts (n - 1)) e ∙ append_assoc parts ((n - 1) ∷ []) (first_parts (n - 1)) ∙ ap (λ xs. parts ++ xs) (sym f) ∙ inv
