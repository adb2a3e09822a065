-- What holds of each block that is asked for.
use Rattle.std.proofs.Common.{List, [], ◌∷◌, ◌++◌, ℕ, zero, suc, ◌+◌, ◌≤◌, ◌<◌, ◌≡◌, ◌≢◌, Bool, true, false, not, nat_eq, filter, if◌then◌else◌, length, refl, arith, slice_index}
use Rattle.std.proofs.lemmas.Bool.Decides.{nat_tests}
use Rattle.std.specs.List.{AllByRecursion, range_with_len}
use Rattle.mb_iface.specs.Needs.{blocks_of}
use Rattle.mb_iface.specs.declared.replies.Need.{Need}

pub all_append : {X : Type 0} (Fact : X → Type 0) (xs ys : List X) → AllByRecursion Fact xs → AllByRecursion Fact ys → AllByRecursion Fact (xs ++ ys)
all_append Fact [] ys all rest = rest
all_append Fact (x ∷ xs) ys all rest = (all.0, all_append Fact xs ys all.1 rest)

all_in_run : (Fact : ℕ → Type 0) (first count : ℕ) → ((block : ℕ) → first ≤ block → block < first + count → Fact block) → AllByRecursion Fact (range_with_len first count)
all_in_run Fact first zero each = tt
all_in_run Fact first (suc count) each =
    (each first (omega arith) (omega arith), all_in_run Fact (first + 1) count (λ block from below. each block (omega (arith, from)) (omega (arith, below))))

all_if : (Fact : ℕ → Type 0) (test : Bool) (block : ℕ) (blocks : List ℕ) → (test ≡ true → Fact block) → AllByRecursion Fact blocks → AllByRecursion Fact (if test then block ∷ blocks else blocks)
all_if Fact true block blocks one all = (one refl, all)
all_if Fact false block blocks one all = all

none_is : (block : ℕ) → not (nat_eq block 0) ≡ true → block ≢ 0
none_is block test is = grind (arith, nat_tests, test, is)

all_others : (Fact : ℕ → Type 0) (others : List ℕ) → ((at : ℕ) → at < length others → slice_index others at ≢ 0 → Fact (slice_index others at)) → AllByRecursion Fact (filter (λ (block : ℕ). not (nat_eq block 0)) others)
all_others Fact [] each = tt
all_others Fact (block ∷ others) each =
    all_if Fact (not (nat_eq block 0)) block _ (λ test. each 0 (omega arith) (none_is block test)) (all_others Fact others (λ at below. each (suc at) (omega (arith, below))))

-- what holds of each block of the run, and of each of the others that is a block, holds of all
pub each_block : (need : Need) (Fact : ℕ → Type 0) → ((block : ℕ) → need.first ≤ block → block < need.first + need.count → Fact block)
    → ((at : ℕ) → at < length need.others → slice_index need.others at ≢ 0 → Fact (slice_index need.others at)) → AllByRecursion Fact (blocks_of need)
each_block need Fact run others = all_append Fact (range_with_len need.first need.count) _ (all_in_run Fact need.first need.count run) (all_others Fact need.others others)
