-- The job that is generated from a number (this project's choice).
use Rattle.std.specs.Prelude.{List, [], ◌∷◌, ℕ, None}
use Rattle.rand_pcg.specs.Lcg.{Lcg, increment_of, started}
use Rattle.rand_pcg.specs.Pcg.{multiplier_64, pcg32}
use Rattle.mb_jobs.specs.declared.jobs.Caller.{Caller}
use Rattle.mb_jobs.specs.declared.jobs.Job.{Job}
use Rattle.mb_jobs.specs.Lists.{with_exits}
use Rattle.mb_gen.specs.Calls.{calls_drawn}
use Rattle.mb_gen.specs.Faults.{rules_drawn}

-- the callers `a 0 0` and `b 0 0`
abbrev pub the_callers : List Caller
the_callers = record { letter = 97; cred = record { uid = 0; gid = 0 } } ∷ record { letter = 98; cred = record { uid = 0; gid = 0 } } ∷ []

-- the job of so many calls and so many faults that draws give: first the calls, to which `exit`s are added as to those of any job,
-- then the rules, each of one of the calls that were drawn
abbrev pub job_drawn : {G : Type 0} → (G → ℕ × G) → ℕ → ℕ → G → Job
job_drawn step calls faults draws =
    let made = calls_drawn step calls draws in
    let all = with_exits the_callers made.0 in
    record { callers = the_callers; calls = all; plan = (rules_drawn step all calls faults made.1).0; order = None; start = 0; threshold = 64; limit = 255 }

-- the generator of a number: PCG32, begun at that state on its stream 1
abbrev pub draws_of : ℕ → Lcg
draws_of number = started 64 multiplier_64 number (increment_of 64 1)

-- the job of a number
abbrev pub generated : ℕ → ℕ → ℕ → Job
generated number calls faults = job_drawn pcg32 calls faults (draws_of number)
