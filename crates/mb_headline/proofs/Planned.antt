-- The rules of a job that a text writes fire at early crossings alone.
use Rattle.std.proofs.Common.{◌≡◌, List, [], ◌∷◌, ℕ, ◌+◌, ◌*◌, ◌<◌, ◌≤◌, Bool, true, false, cond, nat_eq, nat_lt, nat_le, inl, inr, Option, None, Some, Ok, length, ap, arith}
use Rattle.std.specs.Prelude.{◌&&◌, ◌-◌}
use Rattle.std.proofs.lemmas.Bool.{and_parts, leb-true, ltb-true, or_cases}
use Rattle.std.proofs.lemmas.Option.{same_Some}
use Rattle.std.specs.List.{AllByRecursion}
use Rattle.mb_edge.specs.declared.crossings.Crossing.{Crossing}
use Rattle.mb_edge.specs.declared.strokes.Stroke.{Stroke}
use Rattle.mb_kinds.specs.declared.faults.Kind.{Kind}
use Rattle.mb_plan.specs.Fires.{fires, is_meant, rule_fires}
use Rattle.mb_plan.specs.declared.rules.Rule.{Rule}
use Rattle.mb_jobs.specs.declared.jobs.JobCall.{JobCall}
use Rattle.mb_jobs.specs.Numbers.{digits_on, from_one, index_in, is_digit, number_below, zero_before}
use Rattle.mb_jobs.specs.Rules.{kind_in, rule_in, rule_of, rule_of_words, rules_in, strokes_in}
use Rattle.mb_jobs.specs.Words.{words_in}
use Rattle.mb_headline.specs.Laws.{IsEarly}
use Rattle.mb_headline.proofs.Reading.{all_with, and_then_some, no_some, read_keeps, when_some}

-- ---- numbers

digits_below : (base bound value : ℕ) (digits : List ℕ) (n : ℕ) → value < bound → digits_on base bound value digits ≡ Some n → n < bound
digits_below base bound value [] n low is = let same = same_Some value n is in omega (arith, low, same)
digits_below base bound value (digit ∷ more) n low is =
    let test = when_some (is_digit base digit && nat_lt (base * value + (digit - 48)) bound) (digits_on base bound (base * value + (digit - 48)) more) n is in
    let both = and_parts (is_digit base digit) (nat_lt (base * value + (digit - 48)) bound) test.0 in
    digits_below base bound (base * value + (digit - 48)) more n (ltb-true (base * value + (digit - 48)) bound both.1) test.1

zero_below : (bound : ℕ) (more : List ℕ) (n : ℕ) → 0 < bound → zero_before more ≡ Some n → n < bound
zero_below bound [] n low is = let same = same_Some 0 n is in omega (arith, low, same)
zero_below bound (digit ∷ more) n low is = absurd (no_some n is)

either_below : (bound : ℕ) (b : Bool) (one other : Option ℕ) (n : ℕ) → (one ≡ Some n → n < bound) → (other ≡ Some n → n < bound) → cond b one other ≡ Some n → n < bound
either_below bound true one other n first second is = first is
either_below bound false one other n first second is = second is

below_bound : (bound : ℕ) (word : List ℕ) (n : ℕ) → 0 < bound → number_below bound word ≡ Some n → n < bound
below_bound bound [] n low is = absurd (no_some n is)
below_bound bound (digit ∷ more) n low is =
    either_below bound (nat_eq digit 48) (zero_before more) (digits_on 10 bound 0 (digit ∷ more)) n (zero_below bound more n low) (digits_below 10 bound 0 (digit ∷ more) n low) is

one_is : (found n : ℕ) (b : Bool) → cond b None (Some found) ≡ Some n → found ≡ n
one_is found n true is = absurd (no_some n is)
one_is found n false is = same_Some found n is

index_within : (count : ℕ) (word : List ℕ) (n : ℕ) → index_in count word ≡ Some n → n ≤ count
index_within count word n is =
    let parts = and_then_some from_one (number_below (count + 1) word) n is in
    let low = below_bound (count + 1) word parts.0 (omega arith) parts.1 in
    let same = one_is parts.0 n (nat_eq parts.0 0) parts.2 in omega (arith, low, same)

-- ---- rules

rule_parts : (calls : List JobCall) (index : Option ℕ) (kind : Option Kind) (skip times : Option ℕ) (strokes : Option (List Stroke)) (rule : Rule) → rule_of calls index kind skip times strokes ≡ Some rule
    → (skip ≡ Some rule.skip) × (times ≡ Some rule.times)
rule_parts calls (Some index) (Some kind) (Some skip) (Some times) (Some strokes) rule is =
    let same = same_Some _ rule is in (ap (λ (r : Rule). Some r.skip) same, ap (λ (r : Rule). Some r.times) same)
rule_parts calls (Some index) (Some kind) (Some skip) (Some times) None rule is = absurd (no_some rule is)
rule_parts calls (Some index) (Some kind) (Some skip) None strokes rule is = absurd (no_some rule is)
rule_parts calls (Some index) (Some kind) None times strokes rule is = absurd (no_some rule is)
rule_parts calls (Some index) None skip times strokes rule is = absurd (no_some rule is)
rule_parts calls None kind skip times strokes rule is = absurd (no_some rule is)

words_early : (calls : List JobCall) (words : List (List ℕ)) (rule : Rule) → rule_of_words calls words ≡ Some rule → IsEarly rule
words_early calls (call ∷ kind ∷ skip ∷ times ∷ strokes) rule is =
    let parts = rule_parts calls (index_in (length calls) call) (kind_in kind) (number_below 100001 skip) (index_in 255 times) (strokes_in strokes) rule is in
    let skips = below_bound 100001 skip rule.skip (omega arith) parts.0 in
    let lasts = index_within 255 times rule.times parts.1 in omega (arith, skips, lasts)
words_early calls (call ∷ kind ∷ skip ∷ []) rule is = absurd (no_some rule is)
words_early calls (call ∷ kind ∷ []) rule is = absurd (no_some rule is)
words_early calls (call ∷ []) rule is = absurd (no_some rule is)
words_early calls [] rule is = absurd (no_some rule is)

pub rules_early : (calls : List JobCall) (texts : List (List ℕ)) (rules : List Rule) → rules_in calls texts ≡ Ok rules → AllByRecursion IsEarly rules
rules_early calls texts rules is = read_keeps (λ (before : List Rule) (text : List ℕ). rule_in calls text) (AllByRecursion IsEarly)
    (λ before text rule early one. all_with IsEarly before (rule ∷ []) early (words_early calls (words_in text) rule one, tt)) [] texts rules tt is

-- ---- rules fire early

rule_early : (rule : Rule) (at : Crossing) → IsEarly rule → rule_fires rule at ≡ true → at.nth ≤ 100255
rule_early rule at early holds =
    let parts = and_parts (is_meant rule at) (nat_lt rule.skip at.nth && nat_le at.nth (rule.skip + rule.times)) holds in
    let range = and_parts (nat_lt rule.skip at.nth) (nat_le at.nth (rule.skip + rule.times)) parts.1 in
    let within = leb-true at.nth (rule.skip + rule.times) range.1 in omega (arith, early, within)

pub fires_early : (rules : List Rule) (at : Crossing) → AllByRecursion IsEarly rules → fires rules at ≡ true → at.nth ≤ 100255
fires_early [] at early holds = absurd (let wrong : false ≡ true = holds in cc)
fires_early (rule ∷ rules) at early holds = elim (or_cases (rule_fires rule at) (fires rules at) holds) [
  | inl here ↦ rule_early rule at early.0 here
  | inr later ↦ fires_early rules at early.1 later
]
