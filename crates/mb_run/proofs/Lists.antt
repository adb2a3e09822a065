-- Lists of entries and of records.
use Rattle.std.proofs.Common.{◌≡◌, ◌≢◌, List, [], ◌∷◌, ◌++◌, ℕ, ◌+◌, true, false, cond, nat_eq, map, take, refl, ap, ◌∙◌, Some, slice_get}
use Rattle.std.proofs.lemmas.Bool.{eqb-true, eq-eqb}
use Rattle.std.proofs.lemmas.List.{append-nil, map_push, take_more}
use Rattle.std.proofs.lemmas.List.Elements.{filter-append}
use Rattle.std.proofs.lemmas.Option.{slice_get_within, get_or_from_slice_get}
use Rattle.std.specs.List.{AllByRecursion}
use Rattle.mb_kinds.specs.Own.{own}
use Rattle.mb_kinds.specs.declared.entries.Entry.{Entry}
use Rattle.mb_run.specs.Served.{calls_in}

pub neq : (m n : ℕ) → m ≢ n → nat_eq m n ≡ false
neq m n apart = elim (nat_eq m n) as (λ b. nat_eq m n ≡ b → b ≡ false) [ true ↦ λ same. absurd (apart (eqb-true m n same)) | false ↦ λ other. refl ] refl

pub all_map : {X : Type 0} (P Q : X → Type 0) (xs : List X) → ((x : X) → P x → Q x) → AllByRecursion P xs → AllByRecursion Q xs
all_map P Q [] more all = tt
all_map P Q (x ∷ xs) more all = (more x all.0, all_map P Q xs more all.1)

pub all_both : {X : Type 0} (P : X → Type 0) (xs ys : List X) → AllByRecursion P xs → AllByRecursion P ys → AllByRecursion P (xs ++ ys)
all_both P [] ys front back = back
all_both P (x ∷ xs) ys front back = (front.0, all_both P xs ys front.1 back)

pub own_other : (history : List Entry) (entry : Entry) (other : ℕ) → entry.caller ≢ other → own (history ++ entry ∷ []) other ≡ own history other
own_other history entry other apart =
    filter-append (λ (e : Entry). nat_eq e.caller other) history (entry ∷ []) ∙ ap (λ b. own history other ++ cond b (entry ∷ []) []) (neq entry.caller other apart) ∙ append-nil (own history other)

pub own_mine : (history : List Entry) (entry : Entry) (caller : ℕ) → entry.caller ≡ caller → own (history ++ entry ∷ []) caller ≡ own history caller ++ entry ∷ []
own_mine history entry caller same =
    filter-append (λ (e : Entry). nat_eq e.caller caller) history (entry ∷ []) ∙ ap (λ b. own history caller ++ cond b (entry ∷ []) []) (eq-eqb entry.caller caller same)

pub calls_push : (history : List Entry) (entry : Entry) (caller : ℕ) → entry.caller ≡ caller → calls_in (history ++ entry ∷ []) caller ≡ calls_in history caller ++ entry.call ∷ []
calls_push history entry caller same = ap (map (λ (e : Entry). e.call)) (own_mine history entry caller same) ∙ map_push (λ (e : Entry). e.call) (own history caller) entry

pub take_next : {X : Type 0} (xs : List X) (i : ℕ) (x : X) → slice_get xs i ≡ Some x → take (i + 1) xs ≡ take i xs ++ x ∷ []
take_next xs i x here = take_more xs i x (slice_get_within xs i x here) ∙ ap (λ y. take i xs ++ y ∷ []) (get_or_from_slice_get xs i x x here)
