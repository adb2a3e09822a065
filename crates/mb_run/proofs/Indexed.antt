-- Where each caller's calls stand in a job's list.
use Rattle.std.proofs.Common.{◌≡◌, List, [], ◌∷◌, ◌++◌, ℕ, ◌+◌, ◌<◌, ◌≤◌, Bool, true, false, cond, length, take, map, filter, nat_eq, inl, inr, refl, ap, sym, subst, ◌∙◌, arith, Option, None, Some, option_map, slice_get, slice_set, get_or, get_or-set_same, get_or-set_other}
use Rattle.std.proofs.Math.ListN.{length-set}
use Rattle.std.proofs.lemmas.Bool.{eq-eqb}
use Rattle.std.proofs.lemmas.List.{append-nil, map-append, take_all}
use Rattle.std.proofs.lemmas.List.Elements.{filter-append}
use Rattle.std.proofs.lemmas.Option.{slice_get-map, slice_get-get_or, slice_get_within, get_or_from_slice_get}
use Rattle.std.specs.List.{AllByRecursion}
use Rattle.mb_kinds.specs.declared.calls.Call.{Call}
use Rattle.mb_jobs.specs.declared.jobs.JobCall.{JobCall}
use Rattle.mb_run.specs.Indexes.{IsIndexOf, PlacesLeadTo, call_at}
use Rattle.mb_run.specs.Served.{calls_of}
use Rattle.mb_run.proofs.Counting.{same_or_not}
use Rattle.mb_run.proofs.InOrder.{all_callers}
use Rattle.mb_run.proofs.Lists.{neq, take_next}

some_here : {A : Type 0} (xs : List A) (at : ℕ) (x : A) → at < length xs → x ≡ get_or xs at x → slice_get xs at ≡ Some x
some_here xs at x low is = slice_get-get_or xs at x low ∙ ap Some (sym is)

-- ---- a call is looked up

abbrev flat : Option (Option Call) → Option Call
flat None = None
flat (Some found) = found

flat_some : (o : Option Call) → flat (option_map (λ (call : Call). Some call) o) ≡ o
flat_some None = refl
flat_some (Some call) = refl

module _ (calls : List JobCall) (places : List (List ℕ)) (caller : ℕ) (place : ℕ) (index : IsIndexOf calls places) where
  module _ (mine : List ℕ) (low : caller < length places) (is : mine ≡ get_or places caller mine) where
    found : slice_get (calls_of calls caller) place ≡ flat (option_map (call_at calls) (slice_get mine place))
    found =
        let same : map (call_at calls) mine ≡ map (λ (call : Call). Some call) (calls_of calls caller) = index.leads.each caller mine (some_here places caller mine low is) ∙ ap (λ made. map (λ (call : Call). Some call) (calls_of made caller)) (take_all (length calls) calls (omega arith)) in
        sym (flat_some (slice_get (calls_of calls caller) place)) ∙ ap flat (sym (slice_get-map (λ (call : Call). Some call) (calls_of calls caller) place) ∙ ap (λ found. slice_get found place) (sym same) ∙ slice_get-map (call_at calls) mine place)

    pub found_none : None ≡ slice_get mine place → None ≡ slice_get (calls_of calls caller) place
    found_none none = sym (found ∙ ap (λ o. flat (option_map (call_at calls) o)) (sym none))

    pub found_some : (at : ℕ) → Some at ≡ slice_get mine place → (o : Option JobCall) → o ≡ slice_get calls at → option_map (λ (m : JobCall). m.call) o ≡ slice_get (calls_of calls caller) place
    found_some at some o it = sym (found ∙ ap (λ o. flat (option_map (call_at calls) o)) (sym some) ∙ ap (λ x. option_map (λ (m : JobCall). m.call) x) (sym it))

-- ---- one call more

if_mine : JobCall → Bool → List Call
if_mine made b = cond b (made.call ∷ []) []

calls_more : (calls : List JobCall) (index : ℕ) (made : JobCall) (caller : ℕ) → slice_get calls index ≡ Some made → calls_of (take (index + 1) calls) caller ≡ calls_of (take index calls) caller ++ if_mine made (nat_eq made.caller caller)
unfolding if_mine
calls_more calls index made caller here =
    ap (λ made. calls_of made caller) (take_next calls index made here) ∙ ap (map (λ (m : JobCall). m.call)) (filter-append (λ (m : JobCall). nat_eq m.caller caller) (take index calls) (made ∷ []))
    ∙ map-append (λ (m : JobCall). m.call) (filter (λ (m : JobCall). nat_eq m.caller caller) (take index calls)) (filter (λ (m : JobCall). nat_eq m.caller caller) (made ∷ []))
    ∙ ap (λ more. calls_of (take index calls) caller ++ more) (elim (nat_eq made.caller caller) as (λ b. map (λ (m : JobCall). m.call) (cond b (made ∷ []) []) ≡ if_mine made b) [ true ↦ refl | false ↦ refl ])

leads_next : (calls : List JobCall) (index : ℕ) (made : JobCall) → slice_get calls index ≡ Some made → (places : List (List ℕ)) (mine : List ℕ) → slice_get places made.caller ≡ Some mine → PlacesLeadTo calls index places
    → PlacesLeadTo calls (index + 1) (slice_set places made.caller (mine ++ index ∷ []))
unfolding if_mine
leads_next calls index made here places mine there leads =
    let low : made.caller < length places = slice_get_within places made.caller mine there in
    let after : List (List ℕ) = slice_set places made.caller (mine ++ index ∷ []) in
    let at_it : call_at calls index ≡ Some made.call = ap (λ o. option_map (λ (m : JobCall). m.call) o) here in
    record {
      eight = length-set places made.caller (mine ++ index ∷ []) ∙ leads.eight;
      each = λ caller given is. elim (same_or_not caller made.caller) [
        | inl same ↦ (
            let now : given ≡ mine ++ index ∷ [] = sym (get_or_from_slice_get after caller given given is) ∙ ap (λ n. get_or after n given) same ∙ get_or-set_same places made.caller (mine ++ index ∷ []) given low in
            ap (map (call_at calls)) now ∙ map-append (call_at calls) mine (index ∷ []) ∙ ap (λ xs. xs ++ call_at calls index ∷ []) (leads.each made.caller mine there) ∙ ap (λ o. map (λ (call : Call). Some call) (calls_of (take index calls) made.caller) ++ o ∷ []) at_it
            ∙ sym (map-append (λ (call : Call). Some call) (calls_of (take index calls) made.caller) (made.call ∷ []))
            ∙ ap (λ b. map (λ (call : Call). Some call) (calls_of (take index calls) made.caller ++ if_mine made b)) (sym (eq-eqb made.caller made.caller refl))
            ∙ ap (map (λ (call : Call). Some call)) (sym (calls_more calls index made made.caller here)) ∙ ap (λ n. map (λ (call : Call). Some call) (calls_of (take (index + 1) calls) n)) (sym same))
        | inr apart ↦ (
            let within : caller < length after = slice_get_within after caller given is in
            let size : length after ≡ length places = length-set places made.caller (mine ++ index ∷ []) in
            let was : slice_get places caller ≡ Some given = slice_get-get_or places caller given (omega (arith, within, size)) ∙ ap Some (sym (get_or-set_other places made.caller caller (mine ++ index ∷ []) given apart) ∙ get_or_from_slice_get after caller given given is) in
            leads.each caller given was
            ∙ ap (map (λ (call : Call). Some call)) (sym (calls_more calls index made caller here ∙ ap (λ b. calls_of (take index calls) caller ++ if_mine made b) (neq made.caller caller (λ same. apart (sym same))) ∙ append-nil (calls_of (take index calls) caller))))
      ];
    }

-- a caller's places with one more
pub leads_more : (calls : List JobCall) (index place : ℕ) (made : JobCall) → slice_get calls index ≡ Some made → place ≡ index → AllByRecursion (λ (m : JobCall). m.caller < 8) calls → (places : List (List ℕ)) (mine : List ℕ)
    → mine ≡ get_or places made.caller mine → (now : List ℕ) → now ≡ get_or places made.caller mine ++ place ∷ [] → PlacesLeadTo calls index places → PlacesLeadTo calls (index + 1) (slice_set places made.caller now)
leads_more calls index place made here same named places mine is now pushed leads =
    let low : made.caller < length places = omega (arith, leads.eight, all_callers calls 8 index made named here) in
    subst (λ (ps : List ℕ). PlacesLeadTo calls (index + 1) (slice_set places made.caller ps)) (ap (λ n. mine ++ n ∷ []) (sym same) ∙ ap (λ (m : List ℕ). m ++ place ∷ []) is ∙ sym pushed)
    (leads_next calls index made here places mine (some_here places made.caller mine low is) leads)

-- no other caller has a call
none_past : (calls : List JobCall) (caller : ℕ) → 8 ≤ caller → AllByRecursion (λ (m : JobCall). m.caller < 8) calls → calls_of calls caller ≡ []
none_past [] caller past named = refl
none_past (made ∷ calls) caller past named =
    ap (λ b. map (λ (m : JobCall). m.call) (cond b (made ∷ filter (λ (m : JobCall). nat_eq m.caller caller) calls) (filter (λ (m : JobCall). nat_eq m.caller caller) calls))) (neq made.caller caller (λ same. let low = named.0 in omega (arith, low, same, past)))
    ∙ none_past calls caller past named.1

pub leads_all : (calls : List JobCall) (index : ℕ) (places : List (List ℕ)) → length calls ≤ index → index ≤ length calls → AllByRecursion (λ (m : JobCall). m.caller < 8) calls → PlacesLeadTo calls index places → IsIndexOf calls places
leads_all calls index places all few named leads =
    let size : index ≡ length calls = omega (arith, all, few) in
    record { leads = subst (λ n. PlacesLeadTo calls n places) size leads; past = λ caller past. none_past calls caller past named }
