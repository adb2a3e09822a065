-- Checkpoints that an order asks for are taken while no fault comes.
use Rattle.std.proofs.Common.{◌≡◌, inl, inr, List, [], ◌∷◌, ℕ, ◌+◌, ◌≤◌, cond, count_by, length, ap, ◌∙◌, arith, length-append}
use Rattle.std.proofs.lemmas.List.Sums.{sum_by-append}
use Rattle.mb_core_spec.specs.declared.stages.Stage.TheVariants as stage
use Rattle.mb_core_spec.specs.declared.steps.Step.{Step}
use Rattle.mb_core_spec.specs.declared.steps.Step.TheVariants as step
use Rattle.mb_run.specs.Orders.{IsQuiet, IsSealedNow, TakesAsked, seals_in}
use Rattle.mb_run.specs.Runs.{is_seal}
use Rattle.mb_run.specs.Seals.{TrailGoesOn}
use Rattle.mb_run.specs.Served.{ActsAlone}
use Rattle.mb_run.specs.Sights.{Sight}

-- a trace that goes on loses no checkpoint
pub seals_more : (trail now : List Step) → TrailGoesOn trail now → count_by is_seal trail ≤ count_by is_seal now
seals_more trail now goes =
    let is = ap (count_by is_seal) goes.whole ∙ sum_by-append (λ (one : Step). cond (is_seal one) 1 0) trail goes.steps in
    omega (arith, is)

pub takes_same : (sight : Sight) → TakesAsked 0 sight sight
takes_same sight = record { records = omega arith; runs = λ same runs. runs; takes = λ same runs. omega arith }

pub takes_then : (a b d : Sight) (m n : ℕ) → TakesAsked m a b → TakesAsked n b d → TakesAsked (m + n) a d
takes_then a b d m n one two =
    let low = one.records in
    let high = two.records in
    let first : length d.records ≡ length a.records → length b.records ≡ length a.records = λ same. omega (arith, low, high, same) in
    let second : length d.records ≡ length a.records → length d.records ≡ length b.records = λ same. omega (arith, low, high, same) in
    record {
      records = omega (arith, low, high);
      runs = λ same running. two.runs (second same) (one.runs (first same) running);
      takes = λ same running.
          (let before = one.takes (first same) running in
          let after = two.takes (second same) (one.runs (first same) running) in
          omega (arith, before, after));
    }

pub takes_acts : (caller : ℕ) (old new : Sight) → ActsAlone caller old new → TakesAsked 0 old new
takes_acts caller old new acts =
    let longer : length new.records ≡ length old.records + length acts.more = ap length acts.records ∙ length-append old.records acts.more in
    record {
      records = omega (arith, longer);
      runs = λ same running. acts.runs (acts.calm same) running;
      takes = λ same running. (let low = seals_more old.trail new.trail acts.trail in omega (arith, low));
    }

pub takes_quiet : (asked : ℕ) (old new : Sight) → IsQuiet old new → (old.stage ≡ stage.Running → seals_in old + asked ≤ seals_in new) → TakesAsked asked old new
takes_quiet asked old new quiet takes = record {
  records = (let same = ap length quiet.records in omega (arith, same));
  runs = λ same running. quiet.runs running;
  takes = λ same running. takes running;
}

-- none is asked for
pub takes_none : (asked : ℕ) (old new : Sight) → asked ≡ 0 → IsQuiet old new → old.stage ≡ stage.Running → seals_in old + asked ≤ seals_in new
takes_none asked old new none quiet running = let low = seals_more old.trail new.trail quiet.trail in omega (arith, low, none)

-- one is taken
pub takes_one : (asked : ℕ) (old new : Sight) → asked ≡ 1 → IsSealedNow old new → old.stage ≡ stage.Running → seals_in old + asked ≤ seals_in new
takes_one asked old new one seals running = elim seals [
  | inl taken ↦ (
      let is = ap (λ (s : Sight). count_by is_seal s.trail) taken.1 ∙ sum_by-append (λ (x : Step). cond (is_seal x) 1 0) old.trail (step.Sealed (length old.history) ∷ []) in
      omega (arith, is, one))
  | inr none ↦ absurd (none.0 running)
]
