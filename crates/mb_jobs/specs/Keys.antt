-- The keys of a job's table, and what each of them may hold.
use Rattle.std.specs.Prelude.{List, [], ◌∷◌, ℕ, ◌≡◌, ◌≤◌, pos, ◌&&◌, ◌||◌, Bool, nat_le, bytes_eq, codes, length, Option, Some, None, Result, Ok, Err, option_map, option_and_then, if◌then◌else◌}
use Rattle.std.specs.Cmp.Lexicographic.{slice_cmp}
use Rattle.std.specs.Ordering.{is_lt, nat_cmp}
use Rattle.toml.specs.Data.{Data, string, integer, array, Items, no_items, item, Members, no_members, member, get_member}
use Rattle.mb_jobs.specs.declared.jobs.Caller.{Caller}
use Rattle.mb_jobs.specs.declared.jobs.JobFault.{JobFault}
use Rattle.mb_jobs.specs.declared.jobs.JobFault.TheVariants.{BadKey, NoMemory}
use Rattle.mb_jobs.specs.Callers.{callers_in, the_caller}

-- the texts of an array, where it holds nothing else
abbrev pub texts_of : Items → Option (List (List ℕ))
texts_of no_items = Some []
texts_of (item (string text) more) = option_map (λ (texts : List (List ℕ)). text ∷ texts) (texts_of more)
texts_of (item value more) = None

-- the same of a value
abbrev pub texts_in : Data → Option (List (List ℕ))
texts_in (array items) = texts_of items
texts_in value = None

-- what a value gives, or what a missing one does
abbrev pub given : {A : Type 0} → A → (Data → Option A) → Option Data → Option A
given missing read (Some value) = read value
given missing read None = Some missing

-- `callers`: 1 to 8 texts that each write a caller
abbrev pub some_callers : Data → Option (List Caller)
some_callers value = option_and_then callers_in (texts_in value)

-- `faults`: at most 1000 texts
abbrev pub few_texts : List (List ℕ) → Option (List (List ℕ))
few_texts texts = if nat_le (length texts) 1000 then Some texts else None

abbrev pub some_faults : Data → Option (List (List ℕ))
some_faults value = option_and_then few_texts (texts_in value)

-- `order`: a text
abbrev pub some_order : Data → Option (Option (List ℕ))
some_order (string text) = Some (Some text)
some_order value = None

-- a whole number from one to another
abbrev pub whole_from : ℕ → ℕ → Data → Option ℕ
whole_from least most (integer (pos number)) = if nat_le least number && nat_le number most then Some number else None
whole_from least most value = None

-- what a table holds under its keys
pub record KeyFields : Type 0 where
  pub callers : List Caller
  pub calls : List (List ℕ)
  pub faults : List (List ℕ)
  pub limit : ℕ
  pub order : Option (List ℕ)
  pub start : ℕ
  pub threshold : ℕ

-- fields with as many callers and faults as a job may have
pub record HasFew (fields : KeyFields) : Type 0 where
  pub callers : length fields.callers ≤ 8
  pub faults : length fields.faults ≤ 1000

-- what is under a key goes on, or the key is bad
abbrev pub needs : {A B : Type 0} → List ℕ → Option A → (A → Result B (List ℕ)) → Result B (List ℕ)
needs key (Some found) go = go found
needs key None go = Err key

-- what a table has under `callers`, `faults` and `order`
abbrev pub callers_under : Members → Option (List Caller)
callers_under members = given (the_caller ∷ []) some_callers (get_member (codes "callers") members)

abbrev pub faults_under : Members → Option (List (List ℕ))
faults_under members = given [] some_faults (get_member (codes "faults") members)

abbrev pub order_under : Members → Option (Option (List ℕ))
order_under members = given None some_order (get_member (codes "order") members)

-- the known keys, in byte order, or the first of them that is bad; the value of `calls` stands apart
abbrev pub known_beside : Option Data → Members → Result KeyFields (List ℕ)
known_beside calls members =
    needs (codes "callers") (callers_under members) (λ callers.
    -- it may not be missing
    needs (codes "calls") (option_and_then texts_in calls) (λ calls.
    needs (codes "faults") (faults_under members) (λ faults.
    needs (codes "limit") (given 255 (whole_from 0 255) (get_member (codes "limit") members)) (λ limit.
    needs (codes "order") (order_under members) (λ order.
    needs (codes "start") (given 0 (whole_from 0 1000000000) (get_member (codes "start") members)) (λ start.
    needs (codes "threshold") (given 64 (whole_from 1 4096) (get_member (codes "threshold") members)) (λ threshold.
    Ok (record { callers = callers; calls = calls; faults = faults; limit = limit; order = order; start = start; threshold = threshold }))))))))

-- the same of the whole table
abbrev pub known_fields : Members → Result KeyFields (List ℕ)
known_fields members = known_beside (get_member (codes "calls") members) members

-- one of the seven known keys
abbrev pub is_known : List ℕ → Bool
is_known key =
    (((((bytes_eq key (codes "callers") || bytes_eq key (codes "calls")) || bytes_eq key (codes "faults")) || bytes_eq key (codes "limit"))
    || bytes_eq key (codes "order")) || bytes_eq key (codes "start")) || bytes_eq key (codes "threshold")

-- the first key, in byte order, that is unknown
abbrev pub unknown_key : Members → Option (List ℕ)
unknown_key no_members = None
unknown_key (member key value more) = if is_known key then unknown_key more else Some key

-- the one of two keys that is before the other in byte order
abbrev pub lesser : List ℕ → List ℕ → List ℕ
lesser key other = if is_lt (slice_cmp nat_cmp key other) then key else other

-- the first of the bad keys
abbrev pub or_unknown : Option (List ℕ) → Result KeyFields (List ℕ) → Result KeyFields (List ℕ)
or_unknown None found = found
or_unknown (Some key) (Ok fields) = Err key
or_unknown (Some key) (Err bad) = Err (lesser key bad)

-- what a table holds, or its first bad key: unknown, missing, of another type, or out of range
abbrev pub fields_in : Members → Result KeyFields (List ℕ)
fields_in members = or_unknown (unknown_key members) (known_fields members)

-- the same where the value of `calls` stands apart
abbrev pub fields_beside : Option Data → Members → Result KeyFields (List ℕ)
fields_beside calls members = or_unknown (unknown_key members) (known_beside calls members)

-- what was answered are the fields or the bad key, unless memory ran out
abbrev pub GivesFields : Result KeyFields JobFault → Result KeyFields (List ℕ) → Type 0
GivesFields (Ok fields) answer = answer ≡ Ok fields
GivesFields (Err NoMemory) answer = Unit {0}
GivesFields (Err (BadKey key)) answer = answer ≡ Err key
GivesFields (Err fault) answer = ⊥
