-- A checkpoint, and a page that is written back.
use Rattle.std.proofs.Common.{◌≡◌, ◌∙◌, ◌≤◌, ℕ, true, ◌∷◌, ◌++◌, Option, Result, Ok, Err, length, ap, sym, subst, arith, length-append}
use Rattle.std.specs.Result.{OnErr, OnOk}
use Rattle.mb_kinds.specs.Image.{Image}
use Rattle.mb_edge.specs.Causes.{Rose}
use Rattle.mb_cache.specs.State.{CacheState, Flushes}
use Rattle.mb_cache.specs.declared.answers.Flushed.{Flushed}
use Rattle.mb_cache.specs.declared.answers.Flushed.TheVariants as flushed
use Rattle.mb_core_spec.specs.Callers.{insiders}
use Rattle.mb_core_spec.specs.Events.{with_room}
use Rattle.mb_core_spec.specs.Recovery.{flushing, sealing}
use Rattle.mb_core_spec.specs.State.{CoreState}
use Rattle.mb_core_spec.specs.declared.stages.Stage.TheVariants as stage
use Rattle.mb_run.specs.CoreSight.{sight_of}
use Rattle.mb_core_state.specs.declared.answers.Finished.{Finished}
use Rattle.mb_core_state.specs.declared.answers.Finished.TheVariants as finished
use Rattle.mb_kinds.specs.declared.calls.Call.{Call}
use Rattle.mb_run.specs.Events.{FlushesWith, SealsIf, sealed}
use Rattle.mb_run.specs.Seals.{is_due}
use Rattle.mb_volume_core.specs.Seals.{SealsAfter}
use Rattle.mb_run.specs.Sights.{Sight, steps_left}
use Rattle.mb_run.proofs.InTime.{InTime, same_time, sealed_time}

-- what an answer gives, carried over to what follows from it
pub if_ok : {T E P Q : Type 0} (answer : Result T E) → (P → Q) → OnOk answer P → OnOk answer Q
if_ok (Ok value) follows holds = follows holds
if_ok (Err fault) follows holds = tt

pub if_err : {T E P Q : Type 0} (answer : Result T E) → (P → Q) → OnErr answer P → OnErr answer Q
if_err (Ok value) follows holds = tt
if_err (Err fault) follows holds = follows holds

-- a checkpoint, taken or not, leaves them in time
pub seal_time : {T E : Type 0} (old new : Sight) (answer : Result T E) → OnOk answer (new ≡ sealed old new) → OnErr answer (new ≡ old) → InTime old → InTime new
seal_time old new (Ok done) ok err was = sealed_time old new (let few = was.few in omega (arith, few)) ok
seal_time old new (Err none) ok err was = same_time old new err was

abbrev with_left : Sight → ℕ → Sight
with_left sight n = record sight { left = n }

module _ {F D : Type 0} (core new : CoreState F D) where
  abbrev with_sealed : ℕ → Sight
  with_sealed n = record (sight_of core) { sealed = n }

  -- no recovery is in progress before or after
  none_left : core.stage ≡ stage.Running → steps_left (insiders core.callers) 0 core.stage ≡ steps_left (insiders core.callers) (length core.journal.oplog) core.stage
  none_left runs = ap (steps_left (insiders core.callers) 0) runs ∙ sym (ap (steps_left (insiders core.callers) (length core.journal.oplog)) runs)

  pub seals : core.stage ≡ stage.Running → new ≡ with_room (sealing core new.cache.sealed) new → sight_of new ≡ sealed (sight_of core) (sight_of new)
  seals runs event = ap sight_of event ∙ ap (λ n. with_left (sealed (sight_of core) (sight_of new)) n) (none_left runs)

  -- where one is due after a call was logged
  pub seals_after : (answer : Finished) (made : Call) → answer ≡ finished.Logged → is_due core.config.threshold (length core.journal.oplog) made ≡ true → core.stage ≡ stage.Running → new ≡ with_room (sealing core new.cache.sealed) new
      → SealsAfter answer made core new
  seals_after answer made logged due runs event =
      subst (λ (a : Finished). SealsAfter a made core new) (sym logged) (subst (λ b. SealsIf b (sight_of core) (sight_of new)) (sym due) (seals runs event))

  -- ---- a page is written back

  pub flushes : (told : D → Option Image) (faults : D → ℕ) (answer : Flushed) → Flushes told faults core.cache new.cache answer → new ≡ with_room (flushing core new.cache.disk new.cache.sealed) new
      → FlushesWith (sight_of core) (sight_of new) answer
  flushes told faults flushed.One by rest =
      let pages = by.0 in
      let was : length core.cache.sealed ≡ length (pages.before ++ (pages.page ∷ pages.behind)) = ap length pages.waits in
      let now : length new.cache.sealed ≡ length (pages.before ++ pages.behind) = ap (λ (c : CacheState D). length c.sealed) by.1 in
      let all = length-append pages.before (pages.page ∷ pages.behind) in
      let left = length-append pages.before pages.behind in
      (omega (arith, was, now, all, left), ap sight_of rest)
  flushes told faults flushed.Clean by rest = (ap length by.0, ap sight_of rest ∙ ap (λ (c : CacheState D). with_sealed (length c.sealed)) by.1)
  flushes told faults flushed.Device by rest =
      let pages = by.0 in
      let was : length core.cache.sealed ≡ length (pages.before ++ (pages.page ∷ pages.behind)) = ap length pages.waits in
      let all = length-append pages.before (pages.page ∷ pages.behind) in
      (λ none. omega (arith, was, all, none), ap sight_of rest ∙ ap (λ (c : CacheState D). with_sealed (length c.sealed)) by.1)

  pub flush_rose : (told : D → Option Image) (faults : D → ℕ) (answer : Flushed) → Flushes told faults core.cache new.cache answer → answer ≡ flushed.Device → Rose (faults core.cache.disk) (faults new.cache.disk)
  flush_rose told faults flushed.One by is = absurd (let wrong : flushed.One ≡ flushed.Device = is in cc)
  flush_rose told faults flushed.Clean by is = absurd (let wrong : flushed.Clean ≡ flushed.Device = is in cc)
  flush_rose told faults flushed.Device by is = by.2

  pub flush_later : (told : D → Option Image) (faults : D → ℕ) (answer : Flushed) → Flushes told faults core.cache new.cache answer → faults core.cache.disk ≤ faults new.cache.disk
  flush_later told faults flushed.One by = by.0.cause.later
  flush_later told faults flushed.Clean by = let same : faults new.cache.disk ≡ faults core.cache.disk = ap (λ (c : CacheState D). faults c.disk) by.1 in omega (arith, same)
  flush_later told faults flushed.Device by = by.0.cause.later
