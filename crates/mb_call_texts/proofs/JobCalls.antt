-- Each call of a job is read of its own text.
use Rattle.std.proofs.Common.{List, [], ◌∷◌, ◌++◌, ℕ, ◌+◌, ◌≡◌, eqb, nat_le, length, Option, Some, None, Result, Ok, Err, refl}
use Rattle.std.specs.Prelude.{All, IfOk, IfSome}
use Rattle.std.specs.Option.{is_some, option_to_list}
use Rattle.std.proofs.lemmas.Bool.{cond_both}
use Rattle.std.proofs.lemmas.List.Elements.{All-append, All-cons, All-nil, All-weaker}
use Rattle.toml.specs.Data.{Members}
use Rattle.mb_kinds.specs.declared.calls.Call.{Call}
use Rattle.mb_plan.specs.declared.rules.Rule.{Rule}
use Rattle.mb_jobs.specs.declared.jobs.Caller.{Caller}
use Rattle.mb_jobs.specs.declared.jobs.Job.{Job}
use Rattle.mb_jobs.specs.declared.jobs.JobCall.{JobCall}
use Rattle.mb_jobs.specs.declared.jobs.JobFault.{JobFault}
use Rattle.mb_jobs.specs.declared.jobs.JobFault.TheVariants.{TooLong}
use Rattle.mb_jobs.specs.Calls.{line_call}
use Rattle.mb_jobs.specs.Folds.{read_all}
use Rattle.mb_jobs.specs.Job.{job_called, job_in, job_keyed, job_of_document, job_ordered, job_planned, job_with, table_in}
use Rattle.mb_jobs.specs.Keys.{KeyFields, fields_in}
use Rattle.mb_jobs.specs.Lists.{added_exit, call_by, call_in, calls_in, exit_at, exits_from, lacks_exit, may_follow, next_call, place_in, where_it_may, with_exits}
use Rattle.mb_jobs.specs.Orders.{bad_in}
use Rattle.mb_jobs.specs.Rules.{rules_in}
use Rattle.mb_call_texts.specs.Laws.{IsReadBack, JobsReadBack}
use Rattle.mb_call_texts.proofs.Writables.{has_one_text}

abbrev IsRead : JobCall → Type 0
IsRead call = line_call call.text ≡ Some call.call

abbrev IsReadWhere : Option JobCall → Type 0
IsReadWhere found = IfSome found IsRead

by_read : (place : Option ℕ) (line : List ℕ) (found : Option Call) → line_call line ≡ found → IsReadWhere (call_by place line found)
by_read None line found is = tt
by_read (Some place) line None is = tt
by_read (Some place) line (Some call) is = is

call_read : (callers : List Caller) (text : List ℕ) → IsReadWhere (call_in callers text)
call_read callers [] = tt
call_read callers (letter ∷ []) = tt
call_read callers (letter ∷ blank ∷ line) =
    cond_both (eqb blank 32) (call_by (place_in callers letter) line (line_call line)) None IsReadWhere
    (λ _. by_read (place_in callers letter) line (line_call line) refl) (λ _. tt)

may_read : (before : List JobCall) (found : Option JobCall) → IsReadWhere found → IsReadWhere (where_it_may before found)
may_read before None is = tt
may_read before (Some call) is = cond_both (may_follow before call) (Some call) None IsReadWhere (λ _. is) (λ _. tt)

listed : (found : Option JobCall) → IsReadWhere found → All IsRead (option_to_list found)
listed None is = All-nil IsRead
listed (Some call) is = All-cons IsRead call [] is (All-nil IsRead)

abbrev AreRead : Result (List JobCall) ℕ → Type 0
AreRead found = IfOk found (All IsRead)

all_read : (next : List JobCall → List ℕ → Option JobCall) → ((before : List JobCall) (text : List ℕ) → IsReadWhere (next before text)) → (before : List JobCall) (texts : List (List ℕ)) → All IsRead before
    → AreRead (read_all next before texts)
all_read next each before [] all = all
all_read next each before (text ∷ more) all =
    cond_both (is_some (next before text)) (read_all next (before ++ option_to_list (next before text)) more) (Err (length before + 1)) AreRead
    (λ _. all_read next each (before ++ option_to_list (next before text)) more (All-append IsRead before (option_to_list (next before text)) all (listed (next before text) (each before text)))) (λ _. tt)

calls_read : (callers : List Caller) (texts : List (List ℕ)) → AreRead (calls_in callers texts)
calls_read callers texts =
    all_read (next_call callers) (λ before text. may_read before (call_in callers text) (call_read callers text)) [] texts (All-nil IsRead)

exit_read : (calls : List JobCall) (place : ℕ) → All IsRead (exit_at calls place)
exit_read calls place =
    cond_both (lacks_exit calls place) (added_exit place ∷ []) [] (All IsRead) (λ _. All-cons IsRead (added_exit place) [] refl (All-nil IsRead)) (λ _. All-nil IsRead)

exits_read : (calls : List JobCall) (place : ℕ) (callers : List Caller) → All IsRead (exits_from calls place callers)
exits_read calls place [] = All-nil IsRead
exits_read calls place (caller ∷ more) =
    All-append IsRead (exit_at calls place) (exits_from calls (place + 1) more) (exit_read calls place) (exits_read calls (place + 1) more)

-- the calls of a job, where there is one
abbrev HasRead : Result Job JobFault → Type 0
HasRead found = IfOk found (λ (job : Job). All IsRead job.calls)

ordered_read : (place : Option ℕ) (job : Job) → All IsRead job.calls → HasRead (job_ordered place job)
ordered_read None job all = all
ordered_read (Some place) job all = tt

planned_read : (fields : KeyFields) (calls : List JobCall) (rules : Result (List Rule) ℕ) → All IsRead calls → HasRead (job_planned fields calls rules)
planned_read fields calls (Ok rules) all = ordered_read (bad_in fields.callers fields.order) (job_with fields calls rules) all
planned_read fields calls (Err index) all = tt

called_read : (fields : KeyFields) (found : Result (List JobCall) ℕ) → AreRead found → HasRead (job_called fields found)
called_read fields (Ok calls) all =
    planned_read fields (with_exits fields.callers calls) (rules_in (with_exits fields.callers calls) fields.faults)
    (All-append IsRead calls (exits_from calls 0 fields.callers) all (exits_read calls 0 fields.callers))
called_read fields (Err index) all = tt

keyed_read : (found : Result KeyFields (List ℕ)) → HasRead (job_keyed found)
keyed_read (Ok fields) = called_read fields (calls_in fields.callers fields.calls) (calls_read fields.callers fields.calls)
keyed_read (Err key) = tt

document_read : (members : Option Members) → HasRead (job_of_document members)
document_read None = tt
document_read (Some members) = keyed_read (fields_in members)

job_read : (bytes : List ℕ) → HasRead (job_in bytes)
job_read bytes = cond_both (nat_le (length bytes) 4194304) (job_of_document (table_in bytes)) (Err TooLong) HasRead (λ _. document_read (table_in bytes)) (λ _. tt)

pub jobs_read_back : JobsReadBack
jobs_read_back bytes job is =
    All-weaker IsRead IsReadBack (λ call here. record { read = here; again = has_one_text call.text call.call here }) job.calls (rw is at (job_read bytes))
