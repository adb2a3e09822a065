-- How many steps a recovery takes.
use Rattle.std.specs.Prelude.{ℕ, zero, suc, ◌+◌, ◌≤◌, ◌≡◌, ◌⊎◌, Option, None, Some}
use Rattle.mb_core_spec.specs.declared.stages.Stage.TheVariants as stage
use Rattle.mb_run.specs.Recovering.{Rolls}
use Rattle.mb_run.specs.Sights.{IsOrderlyInSight, Sight}
use Rattle.mb_run.specs.declared.progress.Went.{Went}
use Rattle.mb_run.specs.declared.progress.Went.TheVariants as went
use Rattle.mb_run.specs.declared.settles.SettleEnd.{SettleEnd}

-- what comes between two steps of a recovery brings its end no further off; an operation of the log is one step
pub record ComesNoFurther (old new : Sight) : Type 0 where
  pub nearer : new.left + old.ops ≤ old.left + new.ops

-- so much for one event after another
abbrev pub StandsOn : Type 0
StandsOn = (old mid new : Sight) → ComesNoFurther old mid → ComesNoFurther mid new → ComesNoFurther old new

-- so many steps forward were made, and no fault came
abbrev pub Forward : ℕ → Sight → Sight → Type 0
Forward zero old new = ComesNoFurther old new
Forward (suc steps) old new = (before after : Sight) × ComesNoFurther old before × Rolls before after × Forward steps after new

-- With c callers and a log of n operations, as it is in the end: after a fault at most c + 4 + n steps forward are made to the
-- end of the recovery, and after a fault in the recovery, when no call is inside, at most 4 + n. Whatever is made of them, no
-- more than the rest is left.
abbrev pub RecoversSoon : Type 0
RecoversSoon = (steps : ℕ) (fault now : Sight) → IsOrderlyInSight fault → Forward steps fault now
    → (fault.stage ≡ stage.Struck → steps + now.left ≤ fault.config.callers + 4 + now.ops) × (fault.stage ≡ stage.Again → steps + now.left ≤ 4 + now.ops)

-- ---- what a driver makes of it

-- steps forward in a row, without a fault
pub record GoesForward (old new : Sight) : Type 0 where
  pub steps : ℕ
  pub forward : Forward steps old new

-- from where it was, or from the last fault that came since; or the volume was given up
abbrev pub GoesSince : Sight → Sight → Type 0
GoesSince old new = (new.stage ≡ stage.Failed) ⊎ (GoesForward old new ⊎ ((fault : Sight) × IsOrderlyInSight fault × (fault.stage ≡ stage.Again) × GoesForward fault new))

-- what one step of a recovery comes to: forward, or a fault, or the volume was given up
abbrev pub WentForward : Sight → Sight → Went → Type 0
WentForward old new went.On = GoesForward old new ⊎ (new.stage ≡ stage.Again)
WentForward old new _ = (new.stage ≡ stage.Failed) ⊎ GoesForward old new

-- the same where nobody's call runs it, and no fault comes
abbrev pub CalmsForward : Sight → Sight → Option SettleEnd → Type 0
CalmsForward old new None = GoesForward old new
CalmsForward old new (Some came) = (new.stage ≡ stage.Failed) ⊎ GoesForward old new
