-- The steps of a recovery, counted.
use Rattle.std.proofs.Common.{◌≡◌, ℕ, zero, suc, ◌+◌, ◌≤◌, ◌⊎◌, inl, inr, refl, subst, sym, arith}
use Rattle.mb_core_spec.specs.declared.stages.Stage.TheVariants as stage
use Rattle.mb_run.specs.Lengths.{Forward, GoesForward, GoesSince, RecoversSoon, ComesNoFurther, StandsOn, WentForward}
use Rattle.mb_run.specs.Recovering.{Rolls}
use Rattle.mb_run.specs.Sights.{IsOrderlyInSight, Sight}
use Rattle.mb_run.specs.declared.progress.Went.TheVariants as went

-- each step brings the end nearer, by more than the log grew shorter
forward_left : (steps : ℕ) (old new : Sight) → Forward steps old new → steps + new.left + old.ops ≤ old.left + new.ops
forward_left zero old new stands = let nearer = stands.nearer in omega (arith, nearer)
forward_left (suc steps) old new (before, after, stands, rolls, later) =
    let nearer = stands.nearer in
    let fewer = rolls.fewer in
    let rest = forward_left steps after new later in
    omega (arith, nearer, fewer, rest)

pub recovers_soon : RecoversSoon
recovers_soon steps fault now right forward = (
  (λ struck. (let low = right.struck struck in let so_far = forward_left steps fault now forward in omega (arith, low, so_far))),
  (λ again. (let low = right.again again in let so_far = forward_left steps fault now forward in omega (arith, low, so_far))),
)

-- ---- rows of steps

pub stands_still : (old new : Sight) → new ≡ old → ComesNoFurther old new
stands_still old new same = record { nearer = subst (λ (s : Sight). s.left + old.ops ≤ old.left + s.ops) (sym same) (omega arith) }

pub stands_on : StandsOn
stands_on old mid new one other = record { nearer = (let first = one.nearer in let second = other.nearer in omega (arith, first, second)) }

pub no_step : (old new : Sight) → ComesNoFurther old new → GoesForward old new
no_step old new stands = record { steps = 0; forward = stands }

pub one_step : (old new : Sight) → Rolls old new → GoesForward old new
one_step old new rolls = record { steps = 1; forward = (old, new, stands_still old old refl, rolls, stands_still new new refl) }

later_on : (old mid new : Sight) (steps : ℕ) → ComesNoFurther old mid → Forward steps mid new → Forward steps old new
later_on old mid new zero stands forward = stands_on old mid new stands forward
later_on old mid new (suc steps) stands (before, after, more, rolls, later) = (before, after, stands_on old mid before stands more, rolls, later)

both_rows : (first second : ℕ) (old mid new : Sight) → Forward first old mid → Forward second mid new → Forward (first + second) old new
both_rows zero second old mid new stands forward = subst (λ steps. Forward steps old new) (let same : second ≡ 0 + second = omega arith in same) (later_on old mid new second stands forward)
both_rows (suc first) second old mid new (before, after, stands, rolls, later) forward =
    subst (λ steps. Forward steps old new) (let same : suc (first + second) ≡ suc first + second = omega arith in same) (before, after, stands, rolls, both_rows first second after mid new later forward)

pub forward_then : (old mid new : Sight) → GoesForward old mid → GoesForward mid new → GoesForward old new
forward_then old mid new one other = record { steps = one.steps + other.steps; forward = both_rows one.steps other.steps old mid new one.forward other.forward }

-- ---- a driver's loop

-- from where it began, or from the last fault, to now
abbrev pub RanSince : Sight → Sight → Type 0
RanSince old new = GoesForward old new ⊎ ((fault : Sight) × IsOrderlyInSight fault × (fault.stage ≡ stage.Again) × GoesForward fault new)

pub since_begins : (old : Sight) → RanSince old old
since_begins old = inl (no_step old old (stands_still old old refl))

since_on : (old mid new : Sight) → RanSince old mid → GoesForward mid new → RanSince old new
since_on old mid new since more = elim since [
  | inl row ↦ inl (forward_then old mid new row more)
  | inr fault ↦ inr (fault.0, fault.1, fault.2, forward_then fault.0 mid new fault.3 more)
]

pub since_goes : (old mid new : Sight) → RanSince old mid → IsOrderlyInSight new → WentForward mid new went.On → RanSince old new
since_goes old mid new since right came = elim came [
  | inl row ↦ since_on old mid new since row
  | inr again ↦ inr (new, right, again, no_step new new (stands_still new new refl))
]

pub since_ends : (old mid new : Sight) → RanSince old mid → (new.stage ≡ stage.Failed) ⊎ GoesForward mid new → GoesSince old new
since_ends old mid new since came = elim came [
  | inl failed ↦ inl failed
  | inr row ↦ inr (since_on old mid new since row)
]

pub calm_ends : (old mid new : Sight) → GoesForward old mid → (new.stage ≡ stage.Failed) ⊎ GoesForward mid new → (new.stage ≡ stage.Failed) ⊎ GoesForward old new
calm_ends old mid new row came = elim came [
  | inl failed ↦ inl failed
  | inr more ↦ inr (forward_then old mid new row more)
]
