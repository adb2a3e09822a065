-- What the end of a run leaves.
use Rattle.std.specs.Prelude.{ℕ, ◌<◌, ◌≤◌, ◌≡◌, ◌≢◌, ◌⊎◌, true, false, length, Option, None, Some}
use Rattle.mb_run.specs.Orders.{seals_in}
use Rattle.mb_run.specs.Seals.{AreAskedFor, TrailGoesOn}
use Rattle.mb_core_spec.specs.declared.stages.Stage.TheVariants as stage
use Rattle.mb_run.specs.Sights.{Sight, omitted_in, recovers, undue_in}
use Rattle.mb_run.specs.Stales.{stales_beyond}
use Rattle.mb_run.specs.declared.settles.SettleEnd.{SettleEnd}
use Rattle.mb_run.specs.declared.settles.SettleEnd.TheVariants as end

-- history and fault records stay, and so does what each caller began and has in flight; the trace goes on, no sync(2) is left
-- without a checkpoint right behind, and no call is told that a copy is stale
pub record KeepsHistory (old new : Sight) : Type 0 where
  pub history : new.history ≡ old.history
  pub records : new.records ≡ old.records
  pub config : new.config ≡ old.config
  pub seats : (caller : ℕ) → new.seats caller ≡ old.seats caller
  pub trail : TrailGoesOn old.trail new.trail
  pub prompt : omitted_in new ≤ omitted_in old
  pub told : (caller : ℕ) → stales_beyond caller new.trail ≤ stales_beyond caller old.trail

-- one step of a recovery that nobody's call runs: the end, or fewer steps are left
abbrev pub Calms : Sight → Sight → Option SettleEnd → Type 0
Calms old new None = new.left < old.left
Calms old new (Some end.Clean) = recovers new.stage ≡ false
Calms old new (Some end.Device) = recovers new.stage ≡ true
Calms old new (Some _) = Unit {0}

-- pages are written back, and nothing else changes
pub record IsFlushed (old new : Sight) (came : SettleEnd) : Type 0 where
  pub rest : new ≡ record old { sealed = new.sealed }
  pub all : came ≡ end.Clean → new.sealed ≡ 0
  pub some : came ≡ end.Device → new.sealed ≢ 0

-- no recovery is in progress, and no page waits; a running volume has a checkpoint of all entries, which was taken there
pub record IsSettled (old new : Sight) : Type 0 where
  pub keeps : KeepsHistory old new
  pub over : recovers new.stage ≡ false
  pub current : new.current ≡ 0
  pub sealed : new.sealed ≡ 0
  pub sealed_at : new.stage ≡ stage.Running → new.sealed_at ≡ length new.history
  pub closes : new.stage ≡ stage.Running → seals_in old < seals_in new

-- no recovery is in progress, and pages wait to be written back; a running volume has a checkpoint of all entries
pub record HasPagesLeft (now : Sight) : Type 0 where
  pub over : recovers now.stage ≡ false
  pub current : now.current ≡ 0
  pub waits : now.sealed ≢ 0
  pub sealed_at : now.stage ≡ stage.Running → now.sealed_at ≡ length now.history

-- the end of a run broke off, in a recovery or behind its checkpoint
abbrev pub IsCutShort : Sight → Type 0
IsCutShort now = (recovers now.stage ≡ true) ⊎ HasPagesLeft now

-- no checkpoint was taken where none was due, but for one that ends the trace
abbrev pub SealsAtEnd : Sight → Sight → Type 0
SealsAtEnd old new = AreAskedFor new.config.threshold (undue_in old) new.history new.trail
