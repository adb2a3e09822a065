-- The numbers of the blocks that are asked for.
use Rattle.std.proofs.Common.{◌≡◌, ◌∙◌, ℕ, zero, suc, ◌+◌, ◌≤◌, List, [], ◌∷◌, ◌++◌, not, nat_eq, filter, ap, sym, arith}
use Rattle.std.specs.List.{AllByRecursion, range_with_len}
use Rattle.mb_iface.specs.Needs.{blocks_of}
use Rattle.mb_iface.specs.declared.replies.Need.{Need}

-- those of the others that are blocks
abbrev pub others_of : List ℕ → List ℕ
others_of others = filter (λ (block : ℕ). not (nat_eq block 0)) others

first_in : (first count : ℕ) (others : List ℕ) (Fact : ℕ → Type 0) → 1 ≤ count → AllByRecursion Fact (range_with_len first count ++ others) → Fact first
first_in first zero others Fact some all = absurd (omega (arith, some))
first_in first (suc count) others Fact some all = all.0

-- what holds of each block that is asked for holds of the first
pub first_of : (need : Need) (Fact : ℕ → Type 0) → 1 ≤ need.count → AllByRecursion Fact (blocks_of need) → Fact need.first
first_of need Fact some all = first_in need.first need.count (others_of need.others) Fact some all

next_in : (first count block : ℕ) → first + count ≡ block → range_with_len first (suc count) ≡ range_with_len first count ++ block ∷ []
next_in first zero block at = ap (λ n. n ∷ []) (omega (arith, at))
next_in first (suc count) block at = ap (λ list. first ∷ list) (next_in (first + 1) count block (omega (arith, at)))

-- one block more of the run
pub run_more : (before now : List ℕ) (first count block : ℕ) → before ≡ range_with_len first count → now ≡ before ++ block ∷ [] → first + count ≡ block → now ≡ range_with_len first (count + 1)
run_more before now first count block so_far one at =
    let next : suc count ≡ count + 1 = omega arith in
    one ∙ ap (λ list. list ++ block ∷ []) so_far ∙ sym (next_in first count block at) ∙ ap (λ n. range_with_len first n) next
