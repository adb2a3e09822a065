-- Entries in the order of a job's calls.
use Rattle.std.proofs.Common.{◌≡◌, List, [], ◌∷◌, ◌++◌, ℕ, ◌+◌, ◌<◌, cond, nat_eq, refl, ap, sym, subst, ◌∙◌, arith, Option, None, Some, length, map, take, slice_get}
use Rattle.std.proofs.lemmas.Bool.{eq-eqb}
use Rattle.std.proofs.lemmas.List.{append_cancel_left, map-append}
use Rattle.std.proofs.lemmas.List.Elements.{filter-append}
use Rattle.std.specs.List.{AllByRecursion}
use Rattle.mb_jobs.specs.declared.jobs.JobCall.{JobCall}
use Rattle.mb_kinds.specs.Own.{own}
use Rattle.mb_kinds.specs.declared.calls.Call.{Call}
use Rattle.mb_kinds.specs.declared.entries.Entry.{Entry}
use Rattle.mb_kinds.specs.declared.entries.Flight.{Flight}
use Rattle.mb_run.specs.Served.{IsAtBy, EntriesAreCalls, calls_in}
use Rattle.mb_run.proofs.Lists.{take_next}

own_all : (entries : List Entry) (caller : ℕ) → AllByRecursion (λ (entry : Entry). entry.caller ≡ caller) entries → own entries caller ≡ entries
own_all [] caller theirs = refl
own_all (entry ∷ entries) caller theirs = ap (λ b. cond b (entry ∷ own entries caller) (own entries caller)) (eq-eqb entry.caller caller theirs.0) ∙ ap (λ es. entry ∷ es) (own_all entries caller theirs.1)

calls_grown : (history entries : List Entry) (caller : ℕ) → AllByRecursion (λ (entry : Entry). entry.caller ≡ caller) entries → calls_in (history ++ entries) caller ≡ calls_in history caller ++ map (λ (e : Entry). e.call) entries
calls_grown history entries caller theirs =
    ap (map (λ (e : Entry). e.call)) (filter-append (λ (e : Entry). nat_eq e.caller caller) history entries ∙ ap (λ es. own history caller ++ es) (own_all entries caller theirs))
    ∙ map-append (λ (e : Entry). e.call) (own history caller) entries

-- the one entry of a call
one_caller : (entries : List Entry) (caller : ℕ) (call : Call) → AllByRecursion (λ (entry : Entry). entry.caller ≡ caller) entries → map (λ (e : Entry). e.call) entries ≡ call ∷ [] → map (λ (e : Entry). e.caller) entries ≡ caller ∷ []
one_caller [] caller call theirs one = absurd (omega (arith, ap length one))
one_caller (entry ∷ []) caller call theirs one = ap (λ n. n ∷ []) theirs.0
one_caller (entry ∷ other ∷ entries) caller call theirs one = absurd (omega (arith, ap length one))

made_by : (list made : List Call) (done begun : ℕ) (flight : Option Flight) → flight ≡ None → IsAtBy list made done begun flight → made ≡ take done list
made_by list made done begun flight free at = (subst (IsAtBy list made done begun) free at).1

-- one call more in list order
pub listed_next : (calls : List JobCall) (index : ℕ) (made : JobCall) (old new entries : List Entry) (list : List Call) (done now begun after : ℕ) (flight later : Option Flight) → slice_get calls index ≡ Some made → index < length calls
    → EntriesAreCalls old (take index calls) → new ≡ old ++ entries → AllByRecursion (λ (entry : Entry). entry.caller ≡ made.caller) entries → slice_get list done ≡ Some made.call → now ≡ done + 1
    → flight ≡ None → IsAtBy list (calls_in old made.caller) done begun flight → later ≡ None → IsAtBy list (calls_in new made.caller) now after later → EntriesAreCalls new (take (index + 1) calls)
listed_next calls index made old new entries list done now begun after flight later here low listed grown theirs next more free was gone is =
    let first : calls_in old made.caller ≡ take done list = made_by list (calls_in old made.caller) done begun flight free was in
    let last : calls_in new made.caller ≡ take now list = made_by list (calls_in new made.caller) now after later gone is in
    let joined : take done list ++ map (λ (e : Entry). e.call) entries ≡ take done list ++ made.call ∷ [] =
    ap (λ cs. cs ++ map (λ (e : Entry). e.call) entries) (sym first) ∙ sym (calls_grown old entries made.caller theirs) ∙ ap (λ h. calls_in h made.caller) (sym grown) ∙ last ∙ ap (λ n. take n list) more ∙ take_next list done made.call next in
    let one : map (λ (e : Entry). e.call) entries ≡ made.call ∷ [] = append_cancel_left (take done list) (map (λ (e : Entry). e.call) entries) (made.call ∷ []) joined in
    let cut : take (index + 1) calls ≡ take index calls ++ made ∷ [] = take_next calls index made here in
    record {
      callers = ap (map (λ (e : Entry). e.caller)) grown ∙ map-append (λ (e : Entry). e.caller) old entries ∙ ap (λ ns. map (λ (e : Entry). e.caller) old ++ ns) (one_caller entries made.caller made.call theirs one)
          ∙ ap (λ ns. ns ++ made.caller ∷ []) listed.callers ∙ sym (map-append (λ (m : JobCall). m.caller) (take index calls) (made ∷ [])) ∙ ap (map (λ (m : JobCall). m.caller)) (sym cut);
      made = ap (map (λ (e : Entry). e.call)) grown ∙ map-append (λ (e : Entry). e.call) old entries ∙ ap (λ cs. map (λ (e : Entry). e.call) old ++ cs) one
          ∙ ap (λ cs. cs ++ made.call ∷ []) listed.made ∙ sym (map-append (λ (m : JobCall). m.call) (take index calls) (made ∷ [])) ∙ ap (map (λ (m : JobCall). m.call)) (sym cut);
    }
