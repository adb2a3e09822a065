-- A job that is generated from a number can be run.
use Rattle.std.proofs.Common.{◌≡◌, List, [], ◌∷◌, ℕ, ◌+◌, ◌*◌, ◌≤◌, length, ap, sym, subst, ◌∙◌, arith}
use Rattle.std.specs.List.{AllByRecursion}
use Rattle.std.proofs.lemmas.List.{length-map}
use Rattle.mb_core_spec.specs.Bounds.{IsConfig}
use Rattle.mb_core_spec.specs.declared.config.Config.{Config}
use Rattle.mb_gen.specs.Generator.{generated}
use Rattle.mb_gen.specs.Laws.{GeneratedAreFit, IsFitToRun, StrikesFirst}
use Rattle.mb_jobs.specs.declared.jobs.Caller.{Caller}
use Rattle.mb_jobs.specs.declared.jobs.Job.{Job}
use Rattle.mb_plan.specs.declared.rules.Rule.{Rule}
use Rattle.mb_run.specs.Letters.{AreLetters}
use Rattle.mb_headline.specs.Headline.{IsConfigOf}
use Rattle.mb_headline.specs.Laws.{IsEarly, IsFitJob, SoaksAreFit}

early_of : (rules : List Rule) → AllByRecursion StrikesFirst rules → AllByRecursion IsEarly rules
early_of [] strikes = tt
early_of (rule ∷ rules) strikes = (let first = strikes.0.first in let once = strikes.0.once in omega (arith, first, once), early_of rules strikes.1)

-- `a` and `b`
two_letters : AreLetters (97 ∷ 98 ∷ [])
two_letters = record {
  small = ((omega arith, omega arith), ((omega arith, omega arith), tt));
  apart = (((λ (same : 97 ≡ 98). omega (arith, same)), tt), (tt, tt));
}

module _ (faults : ℕ) (job : Job) (fit : IsFitToRun faults job) where
  two_callers : length job.callers ≡ 2
  two_callers = sym (length-map job.callers (λ (caller : Caller). caller.letter)) ∙ ap length fit.letters

  config_fits : (config : Config) → IsConfigOf job config → config.most ≡ length job.calls → IsConfig config
  config_fits config is most =
      let callers : length config.callers ≡ 2 = ap length is.callers ∙ length-map job.callers (λ (caller : Caller). caller.cred) ∙ two_callers in
      let short = fit.short in
      let start : config.start ≡ 0 = is.start ∙ fit.start in
      let threshold : config.threshold ≡ 64 = is.threshold ∙ fit.threshold in
      let limit : config.limit ≡ 255 = is.limit ∙ fit.limit in
      record {
        some = omega (arith, callers);
        callers = omega (arith, callers);
        moments = subst (λ n. config.start + config.most * n ≤ 4294967295) (sym callers) (omega (arith, most, short, start));
        due = omega (arith, threshold);
        often = omega (arith, threshold);
        limit = omega (arith, limit);
      }

  job_fits : IsFitJob job
  job_fits = record {
    runnable = record {
      callers = (let two = two_callers in omega (arith, two));
      named = fit.named;
      small = (let short = fit.short in omega (arith, short));
    };
    config = config_fits;
    letters = subst AreLetters (sym fit.letters) two_letters;
    early = early_of job.plan fit.strikes;
  }

pub soaks_fit : GeneratedAreFit → SoaksAreFit
soaks_fit law number calls faults some few = job_fits faults (generated number calls faults) (law number calls faults few)
