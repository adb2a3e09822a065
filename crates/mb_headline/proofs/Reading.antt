-- What a text that writes a job gave for its parts.
use Rattle.std.proofs.Common.{◌≡◌, List, [], ◌∷◌, ◌++◌, ℕ, ◌+◌, Bool, true, false, cond, Option, None, Some, Result, Ok, Err, length, length-append, refl, ap, sym, subst, ◌∙◌, arith}
use Rattle.std.proofs.lemmas.Option.{same_Some}
use Rattle.std.specs.List.{AllByRecursion}
use Rattle.std.specs.Option.{is_some, option_to_list}
use Rattle.std.specs.Prelude.{option_and_then}
use Rattle.std.specs.Result.{result_ok}
use Rattle.mb_plan.specs.declared.rules.Rule.{Rule}
use Rattle.mb_jobs.specs.declared.jobs.Job.{Job}
use Rattle.mb_jobs.specs.declared.jobs.JobCall.{JobCall}
use Rattle.mb_jobs.specs.declared.jobs.JobFault.TheVariants.{TooLong, NotToml, BadKey, BadCall, BadFault, BadOrder}
use Rattle.mb_jobs.specs.Folds.{read_all}
use Rattle.mb_jobs.specs.Job.{job_called, job_in, job_keyed, job_of_document, job_ordered, job_planned, job_with, table_in}
use Rattle.mb_jobs.specs.Keys.{KeyFields, fields_in, needs}
use Rattle.mb_jobs.specs.Lists.{calls_in, with_exits}
use Rattle.mb_jobs.specs.Orders.{bad_in}
use Rattle.mb_jobs.specs.Rules.{rules_in}
use Rattle.toml.specs.Data.{Members}

-- ---- answers

pub no_ok : {A B : Type 0} (x : A) (e : B) → Err e ≡ Ok x → ⊥
no_ok x e is = cc

pub no_some : {A : Type 0} (x : A) → None ≡ Some x → ⊥
no_some x is = cc

abbrev ok_or : {A B : Type 0} → A → Result A B → A
ok_or other (Ok x) = x
ok_or other (Err e) = other

pub same_ok : {A B : Type 0} (r : Result A B) (x y : A) → r ≡ Ok x → r ≡ Ok y → x ≡ y
same_ok r x y one other = ap (ok_or x) (sym one ∙ other)

pub when_ok : {A B : Type 0} (b : Bool) (r : Result A B) (e : B) (x : A) → cond b r (Err e) ≡ Ok x → r ≡ Ok x
when_ok true r e x is = is
when_ok false r e x is = absurd (no_ok x e is)

pub when_some : {A : Type 0} (b : Bool) (found : Option A) (x : A) → cond b found None ≡ Some x → (b ≡ true) × (found ≡ Some x)
when_some true found x is = (refl, is)
when_some false found x is = absurd (no_some x is)

pub and_then_some : {A B : Type 0} (go : A → Option B) (found : Option A) (y : B) → option_and_then go found ≡ Some y → (x : A) × (found ≡ Some x) × (go x ≡ Some y)
and_then_some go (Some x) y is = (x, refl, is)
and_then_some go None y is = absurd (no_some y is)

pub ok_some : {A B : Type 0} (r : Result A B) (x : A) → result_ok r ≡ Some x → r ≡ Ok x
ok_some (Ok y) x is = ap Ok (same_Some y x is)
ok_some (Err e) x is = absurd (no_some x is)

-- what is needed was found
pub needs_then : {A B : Type 0} (key : List ℕ) (found : Option A) (go : A → Result B (List ℕ)) (y : B) (C : Type 0) → needs key found go ≡ Ok y → ((x : A) → found ≡ Some x → go x ≡ Ok y → C) → C
needs_then key (Some x) go y C is then = then x refl is
needs_then key None go y C is then = absurd (no_ok y key is)

-- ---- lists

pub all_with : {A : Type 0} (P : A → Type 0) (xs ys : List A) → AllByRecursion P xs → AllByRecursion P ys → AllByRecursion P (xs ++ ys)
all_with P [] ys some more = more
all_with P (x ∷ xs) ys some more = (some.0, all_with P xs ys some.1 more)

module _ {A : Type 0} (next : List A → List ℕ → Option A) where
  read_by : (before : List A) (more : List (List ℕ)) (out : List A) (found : Option A) → cond (is_some found) (read_all next (before ++ option_to_list found) more) (Err (length before + 1)) ≡ Ok out
      → (x : A) × (found ≡ Some x) × (read_all next (before ++ x ∷ []) more ≡ Ok out)
  read_by before more out (Some x) is = (x, refl, is)
  read_by before more out None is = absurd (no_ok out (length before + 1) is)

  read_step : (before : List A) (text : List ℕ) (more : List (List ℕ)) (out : List A) → read_all next before (text ∷ more) ≡ Ok out
      → (x : A) × (next before text ≡ Some x) × (read_all next (before ++ x ∷ []) more ≡ Ok out)
  read_step before text more out is = read_by before more out (next before text) is

  -- what each text keeps holds of all that is read
  pub read_keeps : (P : List A → Type 0) → ((before : List A) (text : List ℕ) (x : A) → P before → next before text ≡ Some x → P (before ++ x ∷ []))
      → (before : List A) (texts : List (List ℕ)) (out : List A) → P before → read_all next before texts ≡ Ok out → P out
  read_keeps P step before [] out holds is = subst P (same_ok (read_all next before []) before out refl is) holds
  read_keeps P step before (text ∷ more) out holds is =
      let one = read_step before text more out is in read_keeps P step (before ++ one.0 ∷ []) more out (step before text one.0 holds one.1) one.2

  -- each text writes one thing
  pub read_length : (before : List A) (texts : List (List ℕ)) (out : List A) → read_all next before texts ≡ Ok out → length out ≡ length before + length texts
  read_length before [] out is = let same = ap length (same_ok (read_all next before []) before out refl is) in omega (arith, same)
  read_length before (text ∷ more) out is =
      let one = read_step before text more out is in
      let rest = read_length (before ++ one.0 ∷ []) more out one.2 in
      let last = length-append before (one.0 ∷ []) in omega (arith, rest, last)

-- ---- the whole

-- a job was made of a table's fields: of these calls, and of the rules that their texts write
pub record IsReadFrom (fields : KeyFields) (job : Job) : Type 0 where
  pub calls : List JobCall
  pub rules : List Rule
  pub called : calls_in fields.callers fields.calls ≡ Ok calls
  pub planned : rules_in (with_exits fields.callers calls) fields.faults ≡ Ok rules
  pub is : job_with fields (with_exits fields.callers calls) rules ≡ job

ordered_job : (bad : Option ℕ) (made job : Job) → job_ordered bad made ≡ Ok job → made ≡ job
ordered_job (Some place) made job is = absurd (no_ok job (BadOrder place) is)
ordered_job None made job is = same_ok (job_ordered None made) made job refl is

planned_job : (fields : KeyFields) (calls : List JobCall) (found : Result (List Rule) ℕ) (job : Job) → job_planned fields calls found ≡ Ok job
    → (rules : List Rule) × (found ≡ Ok rules) × (job_with fields calls rules ≡ job)
planned_job fields calls (Ok rules) job is = (rules, refl, ordered_job (bad_in fields.callers fields.order) (job_with fields calls rules) job is)
planned_job fields calls (Err index) job is = absurd (no_ok job (BadFault index) is)

called_job : (fields : KeyFields) (found : Result (List JobCall) ℕ) (job : Job) → calls_in fields.callers fields.calls ≡ found → job_called fields found ≡ Ok job → IsReadFrom fields job
called_job fields (Ok calls) job here is =
    let parts = planned_job fields (with_exits fields.callers calls) (rules_in (with_exits fields.callers calls) fields.faults) job is in
    record { calls = calls; rules = parts.0; called = here; planned = parts.1; is = parts.2 }
called_job fields (Err index) job here is = absurd (no_ok job (BadCall index) is)

keyed_job : (found : Result KeyFields (List ℕ)) (job : Job) → job_keyed found ≡ Ok job → (fields : KeyFields) × (found ≡ Ok fields) × IsReadFrom fields job
keyed_job (Ok fields) job is = (fields, refl, called_job fields (calls_in fields.callers fields.calls) job refl is)
keyed_job (Err key) job is = absurd (no_ok job (BadKey key) is)

-- the fields of a table that a text writes
pub record IsRead (job : Job) : Type 0 where
  pub members : Members
  pub fields : KeyFields
  pub keyed : fields_in members ≡ Ok fields
  pub made : IsReadFrom fields job

document_job : (found : Option Members) (job : Job) → job_of_document found ≡ Ok job → IsRead job
document_job (Some members) job is = let parts = keyed_job (fields_in members) job is in record { members = members; fields = parts.0; keyed = parts.1; made = parts.2 }
document_job None job is = absurd (no_ok job NotToml is)

pub read_job : (bytes : List ℕ) (job : Job) → job_in bytes ≡ Ok job → IsRead job
read_job bytes job is = document_job (table_in bytes) job (when_ok _ (job_of_document (table_in bytes)) TooLong job is)
