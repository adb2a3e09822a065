-- A job that a text writes can be run, its rules fire early, and its callers have letters of their own.
use Rattle.std.proofs.Common.{◌≡◌, ◌<◌, ◌≤◌, length, ap, sym, subst, ◌∙◌, arith}
use Rattle.std.specs.List.{AllByRecursion}
use Rattle.std.proofs.lemmas.List.{length-map}
use Rattle.std.proofs.lemmas.Nat.{mul-le}
use Rattle.mb_core_spec.specs.Bounds.{IsConfig}
use Rattle.mb_core_spec.specs.declared.config.Config.{Config}
use Rattle.mb_jobs.specs.Lists.{with_exits}
use Rattle.mb_jobs.specs.declared.jobs.Caller.{Caller}
use Rattle.mb_jobs.specs.declared.jobs.Job.{Job}
use Rattle.mb_run.specs.Letters.{AreLetters, letters_of}
use Rattle.mb_headline.specs.Headline.{IsConfigOf}
use Rattle.mb_headline.specs.Laws.{IsEarly, IsFitJob, JobsAreFit}
use Rattle.mb_headline.proofs.Fields.{fields_fit}
use Rattle.mb_headline.proofs.Lines.{all_few, all_named}
use Rattle.mb_headline.proofs.Planned.{rules_early}
use Rattle.mb_headline.proofs.Reading.{IsRead, read_job}

module _ (job : Job) (read : IsRead job) where
  callers_are : read.fields.callers ≡ job.callers
  callers_are = ap (λ (j : Job). j.callers) read.made.is

  calls_are : with_exits read.fields.callers read.made.calls ≡ job.calls
  calls_are = ap (λ (j : Job). j.calls) read.made.is

  fit_few : length job.callers ≤ 8
  fit_few = (let few = (fields_fit read.members read.fields read.keyed).callers.few in let same = ap length callers_are in omega (arith, few, same))

  fit_calls : length job.calls ≤ 100008
  fit_calls = (let few = all_few read.fields.callers read.fields.calls read.made.calls read.made.called in let callers = (fields_fit read.members read.fields read.keyed).callers.few in
      let same = ap length calls_are in omega (arith, few, callers, same))

  fit_config : (config : Config) → IsConfigOf job config → config.most ≡ length job.calls → IsConfig config
  fit_config config is most =
      let fit = fields_fit read.members read.fields read.keyed in
      let callers : length config.callers ≡ length job.callers = ap length is.callers ∙ length-map job.callers (λ (caller : Caller). caller.cred) in
      let same = ap length callers_are in
      let start : read.fields.start ≡ config.start = ap (λ (j : Job). j.start) read.made.is ∙ sym is.start in
      let threshold : read.fields.threshold ≡ config.threshold = ap (λ (j : Job). j.threshold) read.made.is ∙ sym is.threshold in
      let limit : read.fields.limit ≡ config.limit = ap (λ (j : Job). j.limit) read.made.is ∙ sym is.limit in
      let fits : config.most ≤ 100008 = omega (arith, most, fit_calls) in
      let few : length config.callers ≤ 8 = omega (arith, callers, fit_few) in
      record {
        some = (let some = fit.callers.some in omega (arith, some, same, callers));
        callers = few;
        moments = (let product = mul-le config.most (length config.callers) 100008 8 fits few in let early = fit.start in omega (arith, product, early, start));
        due = (let due = fit.due in omega (arith, due, threshold));
        often = (let often = fit.often in omega (arith, often, threshold));
        limit = (let low = fit.limit in omega (arith, low, limit));
      }

  plan_early : AllByRecursion IsEarly job.plan
  plan_early = subst (AllByRecursion IsEarly) (ap (λ (j : Job). j.plan) read.made.is) (rules_early (with_exits read.fields.callers read.made.calls) read.fields.faults read.made.rules read.made.planned)

  fit_letters : AreLetters (letters_of job.callers)
  fit_letters = subst (λ callers. AreLetters (letters_of callers)) callers_are (fields_fit read.members read.fields read.keyed).callers.letters

  pub fit_job : IsFitJob job
  fit_job = record {
    runnable = record {
      callers = fit_few;
      named = subst (λ callers. AllByRecursion (λ made. made.caller < length callers) job.calls) callers_are
          (subst (AllByRecursion (λ made. made.caller < length read.fields.callers)) calls_are (all_named read.fields.callers read.fields.calls read.made.calls read.made.called));
      small = (let few = fit_calls in omega (arith, few));
    };
    config = fit_config;
    letters = fit_letters;
    early = plan_early;
  }

pub jobs_fit : JobsAreFit
jobs_fit bytes job is = fit_job job (read_job bytes job is)
