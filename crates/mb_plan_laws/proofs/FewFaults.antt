-- At how many crossings, no two of which are the same, a plan fires.
use Rattle.std.proofs.Common.{List, [], ◌∷◌, ℕ, zero, suc, ◌+◌, ◌<◌, ◌≤◌, ◌≡◌, ◌≢◌, ◌&&◌, ◌||◌, Bool, true, false, cond, get_or, nat_eq, nat_lt, nat_le, refl, ap, sym, ◌∙◌, inl, inr, arith}
use Rattle.std.specs.Prelude.{All, sum_by}
use Rattle.std.specs.List.{count_by, list_any}
use Rattle.std.proofs.lemmas.Bool.{and_parts, cases_Bool, eqb-true, false≢true, leb-true, ltb-true}
use Rattle.std.proofs.lemmas.List.Elements.{All-head, All-tail}
use Rattle.std.proofs.lemmas.List.Sums.{sum_by-cons}
use Rattle.mb_kinds.specs.declared.faults.Kind.{Kind}
use Rattle.mb_kinds.specs.declared.faults.Kind.TheVariants.{Enter, Gather, Finish, Leave, Remount, Replay}
use Rattle.mb_edge.specs.declared.crossings.Crossing.{Crossing}
use Rattle.mb_plan.specs.declared.rules.Rule.{Rule}
use Rattle.mb_plan_laws.specs.Firing.{FiresAtMost, StandOnce}
use Rattle.mb_plan.specs.Fires.{fires, is_meant, rule_fires, same_kind}

-- one for what passes a test
abbrev weight : Bool → ℕ
weight passes = cond passes 1 0

count_cons : {X : Type 0} (test : X → Bool) (x : X) (xs : List X) → count_by test (x ∷ xs) ≡ weight (test x) + count_by test xs
count_cons test x xs = sum_by-cons (λ x. weight (test x)) x xs

count_none : {X : Type 0} (test : X → Bool) (xs : List X) → All (λ x. test x ≡ false) xs → count_by test xs ≡ 0
count_none test [] none = refl
count_none test (x ∷ xs) none =
    let here = All-head (λ x. test x ≡ false) x xs none in
    let rest = count_none test xs (All-tail (λ x. test x ≡ false) x xs none) in
    let none_here = ap weight here in
    omega (arith, count_cons test x xs, none_here, rest)

-- a test that two others cover
count_covered : {X : Type 0} (test first second : X → Bool) (xs : List X) → ((x : X) → weight (test x) ≤ weight (first x) + weight (second x))
    → count_by test xs ≤ count_by first xs + count_by second xs
count_covered test first second [] covered = omega arith
count_covered test first second (x ∷ xs) covered =
    let here = covered x in
    let rest = count_covered test first second xs covered in
    omega (arith, count_cons test x xs, count_cons first x xs, count_cons second x xs, here, rest)

-- a test that only one thing passes
others_fail : (test : Crossing → Bool) (at : Crossing) → ((other : Crossing) → test other ≡ true → at ≡ other) → (other : Crossing) → at ≢ other → test other ≡ false
others_fail test at alone other differ =
    elim (cases_Bool (test other)) [
      | inl passes ↦ absurd (differ (alone other passes))
      | inr fails ↦ fails
    ]

count_once : (test : Crossing → Bool) (xs : List Crossing) → ((first second : Crossing) → test first ≡ true → test second ≡ true → first ≡ second) → StandOnce xs → count_by test xs ≤ 1
count_once test [] same once = omega arith
count_once test (at ∷ more) same once =
    elim (cases_Bool (test at)) [
      | inl passes ↦
          let none = count_none test more (λ k x inside. others_fail test at (λ other holds. same at other passes holds) (get_or more k x) (once.0 k x inside)) in
          let here = ap weight passes in
          omega (arith, count_cons test at more, none, here)
      | inr fails ↦
          let rest = count_once test more same once.1 in
          let here = ap weight fails in
          omega (arith, count_cons test at more, rest, here)
    ]

kinds_same : (first second : Kind) → same_kind first second ≡ true → first ≡ second
kinds_same Enter Enter e = refl
kinds_same Gather Gather e = refl
kinds_same Finish Finish e = refl
kinds_same Leave Leave e = refl
kinds_same Remount Remount e = refl
kinds_same Replay Replay e = refl
kinds_same _ _ e = absurd (false≢true e)

-- a rule's crossings up to a number behind `skip`, and the one with that number
abbrev up_to : Rule → ℕ → Crossing → Bool
up_to rule times at = is_meant rule at && (nat_lt rule.skip at.nth && nat_le at.nth (rule.skip + times))

abbrev just_at : Rule → ℕ → Crossing → Bool
just_at rule number at = is_meant rule at && nat_eq at.nth number

abbrev crossing : ℕ → ℕ → Kind → ℕ → Crossing
crossing caller ordinal kind nth = record { caller = caller; ordinal = ordinal; kind = kind; nth = nth }

same_parts : (caller ordinal nth : ℕ) (kind : Kind) (caller' ordinal' nth' : ℕ) (kind' : Kind) → caller ≡ caller' → ordinal ≡ ordinal' → kind ≡ kind' → nth ≡ nth'
    → crossing caller ordinal kind nth ≡ crossing caller' ordinal' kind' nth'
same_parts caller ordinal nth kind caller' ordinal' nth' kind' a b c d = rw (a, b, c, d) refl

meant_same : (rule : Rule) (number : ℕ) (first second : Crossing) → just_at rule number first ≡ true → just_at rule number second ≡ true → first ≡ second
meant_same rule number first second here there =
    let a = and_parts (is_meant rule first) (nat_eq first.nth number) here in
    let b = and_parts (is_meant rule second) (nat_eq second.nth number) there in
    let am = and_parts (nat_eq rule.caller first.caller && nat_eq rule.ordinal first.ordinal) (same_kind rule.kind first.kind) a.0 in
    let bm = and_parts (nat_eq rule.caller second.caller && nat_eq rule.ordinal second.ordinal) (same_kind rule.kind second.kind) b.0 in
    let ac = and_parts (nat_eq rule.caller first.caller) (nat_eq rule.ordinal first.ordinal) am.0 in
    let bc = and_parts (nat_eq rule.caller second.caller) (nat_eq rule.ordinal second.ordinal) bm.0 in
    let caller : first.caller ≡ second.caller = sym (eqb-true rule.caller first.caller ac.0) ∙ eqb-true rule.caller second.caller bc.0 in
    let ordinal : first.ordinal ≡ second.ordinal = sym (eqb-true rule.ordinal first.ordinal ac.1) ∙ eqb-true rule.ordinal second.ordinal bc.1 in
    let kind : first.kind ≡ second.kind = sym (kinds_same rule.kind first.kind am.1) ∙ kinds_same rule.kind second.kind bm.1 in
    let nth : first.nth ≡ second.nth = eqb-true first.nth number a.1 ∙ sym (eqb-true second.nth number b.1) in
    same_parts first.caller first.ordinal first.nth first.kind second.caller second.ordinal second.nth second.kind caller ordinal kind nth

step_covered : (meant : Bool) (skip times nth : ℕ) → weight (meant && (nat_lt skip nth && nat_le nth (skip + suc times))) ≤ weight (meant && (nat_lt skip nth && nat_le nth (skip + times))) + weight (meant && nat_eq nth (skip + suc times))
step_covered false skip times nth = omega arith
step_covered true skip times nth = grind arith

none_up_to : (meant : Bool) (skip nth : ℕ) → (meant && (nat_lt skip nth && nat_le nth (skip + 0))) ≡ false
none_up_to false skip nth = refl
none_up_to true skip nth = grind arith

count_up_to : (rule : Rule) (times : ℕ) (xs : List Crossing) → StandOnce xs → count_by (up_to rule times) xs ≤ times
count_up_to rule zero xs once =
    let none = count_none (up_to rule zero) xs (λ k x inside. none_up_to (is_meant rule (get_or xs k x)) rule.skip (get_or xs k x).nth) in
    omega (arith, none)
count_up_to rule (suc times) xs once =
    let before = count_up_to rule times xs once in
    let last = count_once (just_at rule (rule.skip + suc times)) xs (meant_same rule (rule.skip + suc times)) once in
    let both = count_covered (up_to rule (suc times)) (up_to rule times) (just_at rule (rule.skip + suc times)) xs (λ at. step_covered (is_meant rule at) rule.skip times at.nth) in
    omega (arith, before, last, both)

either_covered : (first second : Bool) → weight (first || second) ≤ weight first + weight second
either_covered true second = omega arith
either_covered false second = omega arith

pub fires_at_most : FiresAtMost
fires_at_most [] crossings once = let none = count_none (λ (at : Crossing). fires [] at) crossings (λ k x inside. refl) in omega (arith, none)
fires_at_most (rule ∷ more) crossings once =
    let here = count_up_to rule rule.times crossings once in
    let rest = fires_at_most more crossings once in
    let both = count_covered (λ (at : Crossing). fires (rule ∷ more) at) (λ (at : Crossing). rule_fires rule at) (λ (at : Crossing). fires more at) crossings (λ at. either_covered (rule_fires rule at) (fires more at)) in
    omega (arith, here, rest, both, sum_by-cons (λ (rule : Rule). rule.times) rule more)
