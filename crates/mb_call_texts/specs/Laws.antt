-- The text of a call and the reader of calls, each against the other.
use Rattle.std.specs.Prelude.{List, ℕ, ◌≡◌, All, Some, Ok}
use Rattle.mb_kinds.specs.declared.calls.Call.{Call}
use Rattle.mb_jobs.specs.declared.jobs.Job.{Job}
use Rattle.mb_jobs.specs.declared.jobs.JobCall.{JobCall}
use Rattle.mb_jobs.specs.Calls.{line_call}
use Rattle.mb_jobs.specs.Job.{job_in}
use Rattle.mb_call_texts.specs.CallText.{call_text}
use Rattle.mb_call_texts.specs.Writable.{CanBeWritten}

-- a call that a text can write is what is read of its own text
abbrev pub ReadsBack : Type 0
ReadsBack = (call : Call) → CanBeWritten call → line_call (call_text call) ≡ Some call

-- what is read of any text is a call that a text can write
abbrev pub ReadsWritable : Type 0
ReadsWritable = (line : List ℕ) (call : Call) → line_call line ≡ Some call → CanBeWritten call

-- so each text may be replaced by the text of its call
abbrev pub HasOneText : Type 0
HasOneText = (line : List ℕ) (call : Call) → line_call line ≡ Some call → line_call (call_text call) ≡ Some call

-- a job's call is read of its text in the job, and of the text that is written for it
pub record IsReadBack (call : JobCall) : Type 0 where
  pub read : line_call call.text ≡ Some call.call
  pub again : line_call (call_text call.call) ≡ Some call.call

-- whatever bytes a job is read of, its calls can be written again
abbrev pub JobsReadBack : Type 0
JobsReadBack = (bytes : List ℕ) (job : Job) → job_in bytes ≡ Ok job → All IsReadBack job.calls
