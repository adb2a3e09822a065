-- The job that a text writes, or the first cause why it writes none.
use Rattle.std.specs.Prelude.{List, String, ℕ, ◌≡◌, nat_le, length, Option, Some, None, Result, Ok, Err, if◌then◌else◌}
use Rattle.std.specs.Str.{is_utf8}
use Rattle.std.specs.BTreeMap.{BTreeMap}
use Rattle.std.specs.declared.alloc.Global.{Global}
use Rattle.toml.specs.Data.{Members}
use Rattle.toml.specs.Parse.{parse_document}
use Rattle.toml.specs.View.{table_view}
use Rattle.toml.specs.declared.value.Value.{Value}
use Rattle.mb_plan.specs.declared.rules.Rule.{Rule}
use Rattle.mb_jobs.specs.declared.jobs.Job.{Job}
use Rattle.mb_jobs.specs.declared.jobs.JobCall.{JobCall}
use Rattle.mb_jobs.specs.declared.jobs.JobFault.{JobFault}
use Rattle.mb_jobs.specs.declared.jobs.JobFault.TheVariants.{TooLong, NotToml, BadKey, BadCall, BadFault, BadOrder, NoMemory}
use Rattle.mb_jobs.specs.Keys.{KeyFields, fields_in}
use Rattle.mb_jobs.specs.Lists.{calls_in, with_exits}
use Rattle.mb_jobs.specs.Orders.{bad_in}
use Rattle.mb_jobs.specs.Rules.{rules_in}

-- the table that some bytes write
abbrev pub table_in : List ℕ → Option Members
table_in bytes = if is_utf8 bytes then parse_document bytes else None

-- the job of a table's fields, of its calls and of its rules
abbrev pub job_with : KeyFields → List JobCall → List Rule → Job
job_with fields calls rules =
    record { callers = fields.callers; calls = calls; plan = rules; order = fields.order; start = fields.start; threshold = fields.threshold; limit = fields.limit }

-- the last cause is an order with a bad character
abbrev pub job_ordered : Option ℕ → Job → Result Job JobFault
job_ordered (Some place) job = Err (BadOrder place)
job_ordered None job = Ok job

-- before it comes a fault that is no rule
abbrev pub job_planned : KeyFields → List JobCall → Result (List Rule) ℕ → Result Job JobFault
job_planned fields calls (Ok rules) = job_ordered (bad_in fields.callers fields.order) (job_with fields calls rules)
job_planned fields calls (Err index) = Err (BadFault index)

-- before that a call that is none; the rules speak of the calls with the added exits
abbrev pub job_called : KeyFields → Result (List JobCall) ℕ → Result Job JobFault
job_called fields (Ok calls) = job_planned fields (with_exits fields.callers calls) (rules_in (with_exits fields.callers calls) fields.faults)
job_called fields (Err index) = Err (BadCall index)

-- before that a bad key
abbrev pub job_keyed : Result KeyFields (List ℕ) → Result Job JobFault
job_keyed (Ok fields) = job_called fields (calls_in fields.callers fields.calls)
job_keyed (Err key) = Err (BadKey key)

-- what no table writes is no TOML document
abbrev pub job_of_document : Option Members → Result Job JobFault
job_of_document (Some members) = job_keyed (fields_in members)
job_of_document None = Err NotToml

-- the job of a text of at most 4,194,304 bytes
abbrev pub job_in : List ℕ → Result Job JobFault
job_in bytes = if nat_le (length bytes) 4194304 then job_of_document (table_in bytes) else Err TooLong

-- what was answered is the job or its refusal, unless memory ran out
abbrev pub GivesJob : Result Job JobFault → Result Job JobFault → Type 0
GivesJob (Ok job) answer = answer ≡ Ok job
GivesJob (Err NoMemory) answer = Unit {0}
GivesJob (Err fault) answer = answer ≡ Err fault

-- the same of the table
abbrev pub GivesTable : Result (BTreeMap (String Global) Value) JobFault → Option Members → Type 0
GivesTable (Ok table) members = members ≡ Some (table_view table)
GivesTable (Err NoMemory) members = Unit {0}
GivesTable (Err NotToml) members = members ≡ None
GivesTable (Err fault) members = ⊥
