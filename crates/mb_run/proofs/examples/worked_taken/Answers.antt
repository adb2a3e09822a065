use Rattle.std.proofs.Common.{◌≡◌, ℕ, zero, suc, ◌≤◌, true, false, refl, arith}
use Rattle.mb_kinds.specs.declared.faults.Kind.TheVariants.{Enter, Remount}
use Rattle.mb_plan.specs.Fires.{fires}
use Rattle.mb_run.specs.Examples.{entered_once, entered_twice, then_remounting}
use Rattle.mb_run.specs.Runs.{is_struck_at, recoveries_of, strikes_inside}
use Rattle.mb_run.proofs.examples.worked_taken.Goals as goal

two : strikes_inside entered_twice 0 1 ≡ 2
two = refl

one : strikes_inside entered_once 0 1 ≡ 1
one = refl

struck : (nth : ℕ) → 1 ≤ nth → nth ≤ 2 → is_struck_at entered_twice 0 1 Enter nth ≡ true
struck zero low high = absurd (omega (arith, low))
struck (suc zero) low high = refl
struck (suc (suc zero)) low high = refl
struck (suc (suc (suc n))) low high = absurd (omega (arith, high))

first : (nth : ℕ) → 1 ≤ nth → nth ≤ 1 → is_struck_at entered_once 0 1 Enter nth ≡ true
first zero low high = absurd (omega (arith, low))
first (suc zero) low high = refl
first (suc (suc n)) low high = absurd (omega (arith, high))

no_both : false ≡ true → ⊥
no_both same = cc

begun : recoveries_of entered_twice 0 1 ≡ 2
begun = refl

-- the first start is let pass
unfired : (nth : ℕ) → 1 ≤ nth → nth ≤ 1 → fires then_remounting (record { caller = 0; ordinal = 1; kind = Remount; nth = nth }) ≡ true → ⊥
unfired zero low high holds = absurd (omega (arith, low))
unfired (suc zero) low high holds = no_both holds
unfired (suc (suc n)) low high holds = absurd (omega (arith, high))

pub returns : goal.returns
returns c = (
  record {
    twice = omega (arith, two);
    enters = λ nth low high holds. struck nth low (omega (arith, high, two));
    gathers = λ nth low high holds. absurd (omega (arith, low, high));
    finishes = λ nth low high holds. absurd (omega (arith, low, high));
    leaves = λ nth low high holds. absurd (omega (arith, low, high));
    remounts = λ nth low high holds. absurd (no_both holds);
  },
  (λ takes. no_both (takes.enters 2 (omega arith) (omega (arith, one)) refl)),
  (λ takes. let many = takes.twice in omega (arith, many, two)),
  (λ takes. no_both (takes.remounts 2 (omega arith) (omega (arith, begun)) refl)),
  record {
    twice = omega (arith, two);
    enters = λ nth low high holds. struck nth low (omega (arith, high, two));
    gathers = λ nth low high holds. absurd (omega (arith, low, high));
    finishes = λ nth low high holds. absurd (omega (arith, low, high));
    leaves = λ nth low high holds. absurd (omega (arith, low, high));
    remounts = λ nth low high holds. absurd (unfired nth low (omega (arith, high, begun)) holds);
  },
  (λ once. let many = once refl in omega (arith, many, two)),
  (λ plain. omega (arith, one)),
  (λ takes. no_both (takes 2 (omega arith) (omega (arith, one)) refl)),
  (λ nth low high holds. first nth low (omega (arith, high, one))),
)
