-- Why no job is run, from the bytes that were read.
use Rattle.std.proofs.Common.{List, ℕ, ◌≡◌, ◌≤◌, length, subst, Option, Ok}
use Rattle.std.specs.Io.KnownBytes.{Consumes}
use Rattle.mb_edge.specs.Transfers.{AreFirst}
use Rattle.mb_jobs.specs.Job.{job_in}
use Rattle.mb_jobs.specs.declared.jobs.Job.{Job}
use Rattle.mb_program.specs.Outcomes.{IsJobRefused, IsRefusal, OfBytes, SaysWhy}
use Rattle.mb_program.specs.declared.outcomes.Outcome.{Outcome}
use Rattle.mb_program.specs.declared.outcomes.Outcome.TheVariants as outcome

of_bytes : (left now : Option (List ℕ)) (bytes : List ℕ) (Fact : List ℕ → Type 0) → AreFirst left 4194305 bytes → Consumes left now bytes → length bytes ≤ 4194305 → Fact bytes → OfBytes left now Fact
of_bytes left now bytes Fact first rest few fact = record { bytes = bytes; first = first; rest = rest; few = few; fact = fact }

-- the job is that of the bytes that were read
pub is_read : (left now : Option (List ℕ)) (bytes read : List ℕ) (job : Job) → AreFirst left 4194305 bytes → Consumes left now bytes → length bytes ≤ 4194305 → read ≡ bytes → job_in read ≡ Ok job
    → OfBytes left now (λ (bytes : List ℕ). job_in bytes ≡ Ok job)
is_read left now bytes read job first rest few same gives =
    of_bytes left now bytes (λ (b : List ℕ). job_in b ≡ Ok job) first rest few (subst (λ (b : List ℕ). job_in b ≡ Ok job) same gives)

refuses : (left now : Option (List ℕ)) (bytes : List ℕ) (why : Outcome) → AreFirst left 4194305 bytes → Consumes left now bytes → length bytes ≤ 4194305 → IsRefusal (job_in bytes) why → IsJobRefused left now why
refuses left now bytes (outcome.JobRefused line) first rest few is = of_bytes left now bytes (λ (b : List ℕ). SaysWhy (job_in b) line) first rest few is
refuses left now bytes outcome.OutOfMemory first rest few is = tt
refuses left now bytes _ first rest few is = absurd is

pub is_refused : (left now : Option (List ℕ)) (bytes read : List ℕ) (why : Outcome) → AreFirst left 4194305 bytes → Consumes left now bytes → length bytes ≤ 4194305 → read ≡ bytes → IsRefusal (job_in read) why → IsJobRefused left now why
is_refused left now bytes read why first rest few same is = refuses left now bytes why first rest few (subst (λ (b : List ℕ). IsRefusal (job_in b) why) same is)
