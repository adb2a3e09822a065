-- The entries of a history, by their callers.
use Rattle.std.proofs.Common.{List, [], ◌∷◌, ◌++◌, ℕ, ◌+◌, ◌≡◌, ◌≢◌, ◌<◌, ◌≤◌, true, false, cond, nat_eq, length, refl, ap, sym, ◌∙◌, arith}
use Rattle.std.proofs.lemmas.Bool.{eqb-false, eqb-true, eq-eqb}
use Rattle.std.proofs.lemmas.List.{append-nil}
use Rattle.std.proofs.lemmas.List.Elements.{filter-append}
use Rattle.std.specs.List.{AllByRecursion}
use Rattle.mb_kinds.specs.Own.{own}
use Rattle.mb_kinds.specs.declared.entries.Entry.{Entry}

apart_test : (m n : ℕ) → m ≢ n → nat_eq m n ≡ false
apart_test m n apart = elim (nat_eq m n) as (λ b. nat_eq m n ≡ b → b ≡ false) [ true ↦ λ same. absurd (apart (eqb-true m n same)) | false ↦ λ other. refl ] refl

-- ---- one entry more is its caller's own, and no other's

pub own_mine : (history : List Entry) (entry : Entry) (caller : ℕ) → entry.caller ≡ caller → own (history ++ entry ∷ []) caller ≡ own history caller ++ entry ∷ []
own_mine history entry caller same =
    filter-append (λ (e : Entry). nat_eq e.caller caller) history (entry ∷ []) ∙ ap (λ b. own history caller ++ cond b (entry ∷ []) []) (eq-eqb entry.caller caller same)

pub own_other : (history : List Entry) (entry : Entry) (caller : ℕ) → entry.caller ≢ caller → own (history ++ entry ∷ []) caller ≡ own history caller
own_other history entry caller apart =
    filter-append (λ (e : Entry). nat_eq e.caller caller) history (entry ∷ []) ∙ ap (λ b. own history caller ++ cond b (entry ∷ []) []) (apart_test entry.caller caller apart) ∙ append-nil (own history caller)

-- ---- the entries of the other callers

abbrev pub others : List Entry → ℕ → List Entry
others [] caller = []
others (entry ∷ history) caller = cond (nat_eq entry.caller caller) (others history caller) (entry ∷ others history caller)

pub own_and_others : (history : List Entry) (caller : ℕ) → length history ≡ length (own history caller) + length (others history caller)
own_and_others [] caller = refl
own_and_others (entry ∷ history) caller = let rest = own_and_others history caller in
    elim (nat_eq entry.caller caller) as (λ b. length (entry ∷ history) ≡ length (cond b (entry ∷ own history caller) (own history caller)) + length (cond b (others history caller) (entry ∷ others history caller))) [
      | true ↦ omega (arith, rest)
      | false ↦ omega (arith, rest)
    ]

pub own_others : (history : List Entry) (caller other : ℕ) → other ≢ caller → own (others history caller) other ≡ own history other
own_others [] caller other apart = refl
own_others (entry ∷ history) caller other apart = let rest = own_others history caller other apart in
    elim (nat_eq entry.caller caller) as (λ b. nat_eq entry.caller caller ≡ b → own (cond b (others history caller) (entry ∷ others history caller)) other ≡ own (entry ∷ history) other) [
      | true ↦ λ same. rest ∙ sym (ap (λ b. cond b (entry ∷ own history other) (own history other)) (apart_test entry.caller other (λ is. apart (sym is ∙ eqb-true entry.caller caller same))))
      | false ↦ λ differs. ap (λ es. cond (nat_eq entry.caller other) (entry ∷ es) es) rest
    ] refl

-- the callers of all entries are so many from the first one on
abbrev pub AreOf : ℕ → ℕ → List Entry → Type 0
AreOf first count history = AllByRecursion (λ (e : Entry). (first ≤ e.caller) × (e.caller < first + count)) history

above : (n m : ℕ) → nat_eq n m ≡ false → m ≤ n → m + 1 ≤ n
above n m differs low = let apart = eqb-false n m differs in omega (arith, apart, low)

pub others_above : (history : List Entry) (first count : ℕ) → AreOf first (count + 1) history → AreOf (first + 1) count (others history first)
others_above [] first count all = tt
others_above (entry ∷ history) first count all = let rest = others_above history first count all.1 in
    elim (nat_eq entry.caller first) as (λ b. nat_eq entry.caller first ≡ b → AreOf (first + 1) count (cond b (others history first) (entry ∷ others history first))) [
      | true ↦ λ same. rest
      | false ↦ λ differs. ((above entry.caller first differs all.0.0, omega (arith, all.0.1)), rest)
    ] refl

pub none_left : (history : List Entry) (first : ℕ) → AreOf first 0 history → history ≡ []
none_left [] first all = refl
none_left (entry ∷ history) first all = absurd (omega (arith, all.0.0, all.0.1))
