-- What a generated job keeps, as each job that a text writes does.
use Rattle.std.specs.Prelude.{[], ◌∷◌, ℕ, ◌<◌, ◌≤◌, ◌≡◌, Some, length, map}
use Rattle.std.specs.List.{AllByRecursion}
use Rattle.mb_plan.specs.declared.rules.Rule.{Rule}
use Rattle.mb_jobs.specs.Calls.{line_call}
use Rattle.mb_jobs.specs.declared.jobs.Caller.{Caller}
use Rattle.mb_jobs.specs.declared.jobs.Job.{Job}
use Rattle.mb_jobs.specs.declared.jobs.JobCall.{JobCall}
use Rattle.mb_gen.specs.Generator.{generated}

-- a call is what a job's reader makes of its text
abbrev pub IsReadOfText : JobCall → Type 0
IsReadOfText made = line_call made.text ≡ Some made.call

-- a rule strikes once, at the first crossing that it means
pub record StrikesFirst (rule : Rule) : Type 0 where
  pub first : rule.skip ≡ 0
  pub once : rule.times ≡ 1

-- a job of the callers `a` and `b`, whose calls each name one of them and are few, and read as their texts; whose start, threshold and
-- limit are those of a text that names none, and which has so many rules, each of which strikes once
pub record IsFitToRun (faults : ℕ) (job : Job) : Type 0 where
  pub letters : map (λ (caller : Caller). caller.letter) job.callers ≡ 97 ∷ 98 ∷ []
  pub named : AllByRecursion (λ (made : JobCall). made.caller < length job.callers) job.calls
  pub read : AllByRecursion IsReadOfText job.calls
  pub short : length job.calls ≤ 32770
  pub start : job.start ≡ 0
  pub threshold : job.threshold ≡ 64
  pub limit : job.limit ≡ 255
  pub rules : length job.plan ≡ faults
  pub strikes : AllByRecursion StrikesFirst job.plan

abbrev pub GeneratedAreFit : Type 0
GeneratedAreFit = (number calls faults : ℕ) → calls ≤ 32768 → IsFitToRun faults (generated number calls faults)
