-- Where a trace has a checkpoint right behind each sync(2).
use Rattle.std.proofs.Common.{◌≡◌, List, [], ◌∷◌, ◌++◌, ℕ, ◌+◌, ◌≤◌, Bool, true, false, ◌&&◌, ◌||◌, not, nat_eq, refl, ap, ◌∙◌, arith, append_assoc}
use Rattle.std.proofs.lemmas.Bool.{eq-eqb}
use Rattle.std.specs.List.{AllByRecursion}
use Rattle.mb_core_spec.specs.declared.steps.Step.{Step}
use Rattle.mb_core_spec.specs.declared.steps.Step.TheVariants as step
use Rattle.mb_kinds.specs.declared.entries.Entry.{Entry}
use Rattle.mb_kinds.specs.declared.faults.Ticket.{Ticket}
use Rattle.mb_run.specs.Seals.{are_syncs_of, is_other, is_sealed_next, is_sync, omits, omitted}

no_other : false ≡ true → ⊥
no_other same = cc

-- ---- the history grows

syncs_front : (history more : List Entry) (ticket : Ticket) → are_syncs_of (history ++ more) ticket ≡ true → are_syncs_of history ticket ≡ true
syncs_front [] more ticket is = refl
syncs_front (entry ∷ history) more ticket is = elim (not (nat_eq entry.caller ticket.caller && nat_eq entry.ordinal ticket.ordinal) || is_sync entry.call)
    as (λ b. (b && are_syncs_of (history ++ more) ticket) ≡ true → (b && are_syncs_of history ticket) ≡ true) [
      | true ↦ λ rest. syncs_front history more ticket rest
      | false ↦ λ wrong. wrong
    ] is

-- ---- more steps

sealed_front : (trail steps : List Step) → is_sealed_next trail ≡ true → is_sealed_next (trail ++ steps) ≡ true
sealed_front [] steps is = absurd (no_other is)
sealed_front (step.Sealed count ∷ trail) steps is = refl
sealed_front (step.Entered ticket ∷ trail) steps is = absurd (no_other is)
sealed_front (step.Logged ticket ∷ trail) steps is = absurd (no_other is)
sealed_front (step.Stale ticket block ∷ trail) steps is = absurd (no_other is)
sealed_front (step.Left ticket ∷ trail) steps is = absurd (no_other is)
sealed_front (step.Struck number ∷ trail) steps is = absurd (no_other is)
sealed_front (step.Unwound ticket ∷ trail) steps is = absurd (no_other is)
sealed_front (step.Dropped ∷ trail) steps is = absurd (no_other is)
sealed_front (step.Remounted ∷ trail) steps is = absurd (no_other is)
sealed_front (step.Reopened ∷ trail) steps is = absurd (no_other is)
sealed_front (step.Replayed number ∷ trail) steps is = absurd (no_other is)
sealed_front (step.Resumed ∷ trail) steps is = absurd (no_other is)
sealed_front (step.Failed number ∷ trail) steps is = absurd (no_other is)

fewer_omits : (now was sealed_now sealed_was : Bool) → (now ≡ true → was ≡ true) → (sealed_was ≡ true → sealed_now ≡ true) → omits now sealed_now ≤ omits was sealed_was
fewer_omits false was sealed_now sealed_was is seals = omega arith
fewer_omits true was true sealed_was is seals = omega arith
fewer_omits true was false true is seals = absurd (no_other (seals refl))
fewer_omits true was false false is seals = let same : omits was false ≡ 1 = ap (λ b. omits b false) (is refl) in omega (arith, same)

pushed : (history more : List Entry) (trail steps : List Step) → omitted (history ++ more) (trail ++ steps) ≤ omitted history trail + omitted (history ++ more) steps
unfolding omitted
pushed history more [] steps = omega arith
pushed history more (step.Logged ticket ∷ trail) steps =
    let rest = pushed history more trail steps in
    let here = fewer_omits (are_syncs_of (history ++ more) ticket) (are_syncs_of history ticket) (is_sealed_next (trail ++ steps)) (is_sealed_next trail) (syncs_front history more ticket) (sealed_front trail steps) in
    omega (arith, rest, here)
pushed history more (step.Sealed count ∷ trail) steps = pushed history more trail steps
pushed history more (step.Entered ticket ∷ trail) steps = pushed history more trail steps
pushed history more (step.Stale ticket block ∷ trail) steps = pushed history more trail steps
pushed history more (step.Left ticket ∷ trail) steps = pushed history more trail steps
pushed history more (step.Struck number ∷ trail) steps = pushed history more trail steps
pushed history more (step.Unwound ticket ∷ trail) steps = pushed history more trail steps
pushed history more (step.Dropped ∷ trail) steps = pushed history more trail steps
pushed history more (step.Remounted ∷ trail) steps = pushed history more trail steps
pushed history more (step.Reopened ∷ trail) steps = pushed history more trail steps
pushed history more (step.Replayed number ∷ trail) steps = pushed history more trail steps
pushed history more (step.Resumed ∷ trail) steps = pushed history more trail steps
pushed history more (step.Failed number ∷ trail) steps = pushed history more trail steps

-- ---- what each event makes of a trace

unlogged : (history : List Entry) (one : Step) → is_other one ≡ true → (steps : List Step) → omitted history (one ∷ steps) ≡ omitted history steps
unfolding omitted
unlogged history (step.Logged ticket) other steps = absurd (no_other other)
unlogged history _ other steps = refl

others_omit : (history : List Entry) (steps : List Step) → AllByRecursion (λ (one : Step). is_other one ≡ true) steps → omitted history steps ≡ 0
unfolding omitted
others_omit history [] others = refl
others_omit history (one ∷ steps) others = unlogged history one others.0 steps ∙ others_omit history steps others.1

omits_sealed : (sync : Bool) → omits sync true ≡ 0
omits_sealed true = refl
omits_sealed false = refl

module _ (history more : List Entry) (trail : List Step) where
  -- other steps
  pub marks_omitted : (steps : List Step) → AllByRecursion (λ (one : Step). is_other one ≡ true) steps → omitted (history ++ more) (trail ++ steps) ≤ omitted history trail
  marks_omitted steps others = let low = pushed history more trail steps in let none = others_omit (history ++ more) steps others in omega (arith, low, none)

  -- a call is told that a copy is stale
  pub stale_omitted : (ticket : Ticket) (block : ℕ) → omitted (history ++ more) (trail ++ step.Stale ticket block ∷ []) ≤ omitted history trail
  unfolding omitted
  stale_omitted ticket block = let low = pushed history more trail (step.Stale ticket block ∷ []) in omega (arith, low)

  -- a checkpoint is taken
  pub sealed_omitted : (count : ℕ) → omitted (history ++ more) (trail ++ step.Sealed count ∷ []) ≤ omitted history trail
  unfolding omitted
  sealed_omitted count = let low = pushed history more trail (step.Sealed count ∷ []) in omega (arith, low)

  -- a call is logged, which is no sync(2)
  pub logged_omitted : (ticket : Ticket) → are_syncs_of (history ++ more) ticket ≡ false → omitted (history ++ more) (trail ++ step.Logged ticket ∷ []) ≤ omitted history trail
  unfolding omitted
  logged_omitted ticket none =
      let low = pushed history more trail (step.Logged ticket ∷ []) in
      let same : omits (are_syncs_of (history ++ more) ticket) false ≡ 0 = ap (λ b. omits b false) none in
      omega (arith, low, same)

  -- a call is logged, and a checkpoint is taken
  pub due_omitted : (ticket : Ticket) (count : ℕ) → omitted (history ++ more) ((trail ++ step.Logged ticket ∷ []) ++ step.Sealed count ∷ []) ≤ omitted history trail
  unfolding omitted
  due_omitted ticket count =
      let low = pushed history more trail (step.Logged ticket ∷ step.Sealed count ∷ []) in
      let same = omits_sealed (are_syncs_of (history ++ more) ticket) in
      let whole = ap (omitted (history ++ more)) (append_assoc trail (step.Logged ticket ∷ []) (step.Sealed count ∷ [])) in
      omega (arith, low, same, whole)

-- the call's entry stands last, and is of no sync(2)
pub no_sync_last : (history : List Entry) (entry : Entry) (ticket : Ticket) → entry.caller ≡ ticket.caller → entry.ordinal ≡ ticket.ordinal → is_sync entry.call ≡ false → are_syncs_of (history ++ entry ∷ []) ticket ≡ false
no_sync_last [] entry ticket caller ordinal none =
    rw (eq-eqb entry.caller ticket.caller caller, eq-eqb entry.ordinal ticket.ordinal ordinal, none) refl
no_sync_last (first ∷ history) entry ticket caller ordinal none =
    and_later (not (nat_eq first.caller ticket.caller && nat_eq first.ordinal ticket.ordinal) || is_sync first.call) (no_sync_last history entry ticket caller ordinal none) where
      and_later : (a : Bool) → are_syncs_of (history ++ entry ∷ []) ticket ≡ false → (a && are_syncs_of (history ++ entry ∷ []) ticket) ≡ false
      and_later true is = is
      and_later false is = refl

-- none at the beginning
pub none_omitted : (history : List Entry) → omitted history [] ≡ 0
unfolding omitted
none_omitted history = refl
