-- Where a trace has its checkpoints, step after step.
use Rattle.std.proofs.Common.{◌≡◌, List, [], ◌∷◌, ◌++◌, ℕ, ◌+◌, ◌≤◌, Bool, true, false, ◌&&◌, ◌||◌, if◌then◌else◌, nat_eq, refl, ap, sym, subst, ◌∙◌, arith}
use Rattle.std.proofs.lemmas.Bool.{eq-eqb}
use Rattle.std.proofs.lemmas.Bool.Decides.{nat_tests}
use Rattle.std.specs.List.{AllByRecursion}
use Rattle.std.specs.Prelude.{nat_le}
use Rattle.mb_core_spec.specs.declared.steps.Step.{Step}
use Rattle.mb_core_spec.specs.declared.steps.Step.TheVariants as step
use Rattle.mb_kinds.specs.declared.calls.Call.{Call}
use Rattle.mb_kinds.specs.declared.entries.Entry.{Entry}
use Rattle.mb_kinds.specs.declared.faults.Ticket.{Ticket}
use Rattle.mb_run.specs.Seals.{MarksTrail, Sealing, is_due, is_other, is_sync, is_sync_of, logged_since, sealing_after, sealing_next, undue, unsealed}

-- ---- one part of a trace after another

after_both : (threshold : ℕ) (history : List Entry) (was : Sealing) (steps more : List Step) → sealing_after threshold history was (steps ++ more) ≡ sealing_after threshold history (sealing_after threshold history was steps) more
after_both threshold history was [] more = refl
after_both threshold history was (one ∷ steps) more = after_both threshold history (sealing_next threshold history was one) steps more

-- ---- steps with which no call is logged and no checkpoint is taken

no_other : false ≡ true → ⊥
no_other same = cc

other_next : (threshold : ℕ) (history : List Entry) (was : Sealing) (one : Step) → is_other one ≡ true → sealing_next threshold history was one ≡ record was { due = false }
other_next threshold history was (step.Logged ticket) other = absurd (no_other other)
other_next threshold history was (step.Sealed count) other = absurd (no_other other)
other_next threshold history was (step.Stale ticket block) other = absurd (no_other other)
other_next threshold history was _ other = refl

others_after : (threshold : ℕ) (history : List Entry) (was : Sealing) (steps : List Step) → AllByRecursion (λ (one : Step). is_other one ≡ true) steps
    → ((sealing_after threshold history was steps).since ≡ was.since) × ((sealing_after threshold history was steps).undue ≡ was.undue)
others_after threshold history was [] others = (refl, refl)
others_after threshold history was (one ∷ steps) others =
    let next = other_next threshold history was one others.0 in
    let rest = others_after threshold history (sealing_next threshold history was one) steps others.1 in
    (rest.0 ∙ ap (λ (s : Sealing). s.since) next, rest.1 ∙ ap (λ (s : Sealing). s.undue) next)

-- ---- the history grows

pub record IsBelow (now was : Sealing) : Type 0 where
  pub since : now.since ≡ was.since
  pub due : was.due ≡ true → now.due ≡ true
  pub undue : now.undue ≤ was.undue

sync_push : (history more : List Entry) (ticket : Ticket) → is_sync_of history ticket ≡ true → is_sync_of (history ++ more) ticket ≡ true
sync_push [] more ticket is = absurd (no_other is)
sync_push (entry ∷ history) more ticket is = elim ((nat_eq entry.caller ticket.caller && nat_eq entry.ordinal ticket.ordinal) && is_sync entry.call)
    as (λ b. (b || is_sync_of history ticket) ≡ true → (b || is_sync_of (history ++ more) ticket) ≡ true) [
      | true ↦ λ first. refl
      | false ↦ λ later. sync_push history more ticket later
    ] is

or_more : (a b d : Bool) → (b ≡ true → d ≡ true) → (a || b) ≡ true → (a || d) ≡ true
or_more true b d more is = refl
or_more false b d more is = more is

fewer : (now was : Bool) (m n : ℕ) → (was ≡ true → now ≡ true) → m ≤ n → m + (if now then 0 else 1) ≤ n + (if was then 0 else 1)
fewer now true m n more low = rw (more refl) (omega (arith, low))
fewer true false m n more low = omega (arith, low)
fewer false false m n more low = omega (arith, low)

below_next : (threshold : ℕ) (history more : List Entry) (now was : Sealing) (one : Step) → IsBelow now was → IsBelow (sealing_next threshold (history ++ more) now one) (sealing_next threshold history was one)
below_next threshold history more now was (step.Logged ticket) below = record {
  since = ap (λ n. n + 1) below.since;
  due = λ is. subst (λ n. (nat_le threshold (n + 1) || is_sync_of (history ++ more) ticket) ≡ true) (sym below.since) (or_more (nat_le threshold (was.since + 1)) (is_sync_of history ticket) (is_sync_of (history ++ more) ticket) (sync_push history more ticket) is);
  undue = below.undue;
}
below_next threshold history more now was (step.Sealed count) below = record { since = refl; due = λ is. is; undue = fewer now.due was.due now.undue was.undue below.due below.undue }
below_next threshold history more now was _ below = record { since = below.since; due = λ is. is; undue = below.undue }

below_after : (threshold : ℕ) (history more : List Entry) (now was : Sealing) (steps : List Step) → IsBelow now was → IsBelow (sealing_after threshold (history ++ more) now steps) (sealing_after threshold history was steps)
below_after threshold history more now was [] below = below
below_after threshold history more now was (one ∷ steps) below = below_after threshold history more (sealing_next threshold (history ++ more) now one) (sealing_next threshold history was one) steps (below_next threshold history more now was one below)

below_same : (s : Sealing) → IsBelow s s
below_same s = record { since = refl; due = λ is. is; undue = omega arith }

-- ---- what each event makes of a trace

module _ (threshold : ℕ) (history more : List Entry) (trail : List Step) where
  grown : IsBelow (sealing_after threshold (history ++ more) unsealed trail) (sealing_after threshold history unsealed trail)
  grown = below_after threshold history more unsealed unsealed trail (below_same unsealed)

  marked : (now : List Step) (marks : MarksTrail trail now) → sealing_after threshold (history ++ more) unsealed now ≡ sealing_after threshold (history ++ more) (sealing_after threshold (history ++ more) unsealed trail) marks.steps
  marked now marks = ap (sealing_after threshold (history ++ more) unsealed) marks.whole ∙ after_both threshold (history ++ more) unsealed trail marks.steps

  -- other steps, and entries
  pub marks_undue : (now : List Step) → MarksTrail trail now → undue threshold (history ++ more) now ≤ undue threshold history trail
  unfolding undue
  marks_undue now marks =
      let low = grown.undue in
      let rest = (others_after threshold (history ++ more) (sealing_after threshold (history ++ more) unsealed trail) marks.steps marks.others).1 in
      let all = ap (λ (s : Sealing). s.undue) (marked now marks) in
      omega (arith, low, rest, all)

  -- a call is told that a copy is stale
  pub stale_undue : (ticket : Ticket) (block : ℕ) → undue threshold (history ++ more) (trail ++ step.Stale ticket block ∷ []) ≤ undue threshold history trail
  unfolding undue
  stale_undue ticket block =
      let low = grown.undue in
      let all = ap (λ (s : Sealing). s.undue) (after_both threshold (history ++ more) unsealed trail (step.Stale ticket block ∷ [])) in
      omega (arith, low, all)

  -- a call is logged
  module _ (ticket : Ticket) where
    logged : sealing_after threshold (history ++ more) unsealed (trail ++ step.Logged ticket ∷ []) ≡ sealing_next threshold (history ++ more) (sealing_after threshold (history ++ more) unsealed trail) (step.Logged ticket)
    logged = after_both threshold (history ++ more) unsealed trail (step.Logged ticket ∷ [])

    pub logged_undue : undue threshold (history ++ more) (trail ++ step.Logged ticket ∷ []) ≤ undue threshold history trail
    unfolding undue
    logged_undue = let low = grown.undue in let all = ap (λ (s : Sealing). s.undue) logged in omega (arith, low, all)

    logged_due : (nat_le threshold (logged_since threshold history trail + 1) || is_sync_of (history ++ more) ticket) ≡ true → (sealing_after threshold (history ++ more) unsealed (trail ++ step.Logged ticket ∷ [])).due ≡ true
    unfolding logged_since
    logged_due due = ap (λ (s : Sealing). s.due) logged ∙ ap (λ n. nat_le threshold (n + 1) || is_sync_of (history ++ more) ticket) grown.since ∙ due

    -- and the checkpoint that is then due is taken
    pub due_undue : (count : ℕ) → (nat_le threshold (logged_since threshold history trail + 1) || is_sync_of (history ++ more) ticket) ≡ true
        → undue threshold (history ++ more) ((trail ++ step.Logged ticket ∷ []) ++ step.Sealed count ∷ []) ≤ undue threshold history trail
    unfolding undue
    due_undue count due =
        let low : (sealing_after threshold (history ++ more) unsealed (trail ++ step.Logged ticket ∷ [])).undue ≤ (sealing_after threshold history unsealed trail).undue = logged_undue in
        let all = ap (λ (s : Sealing). s.undue) (after_both threshold (history ++ more) unsealed (trail ++ step.Logged ticket ∷ []) (step.Sealed count ∷ [])) in
        let one_unless : Bool → ℕ = λ b. if b then 0 else 1 in
        let none = ap one_unless (logged_due due) in
        omega (arith, low, all, none)

one_most : (b : Bool) → (if b then 0 else 1) ≤ 1
one_most true = omega arith
one_most false = omega arith

-- any other checkpoint
pub sealed_undue : (threshold count : ℕ) (history : List Entry) (trail : List Step) → undue threshold history (trail ++ step.Sealed count ∷ []) ≤ undue threshold history trail + 1
unfolding undue
sealed_undue threshold count history trail =
    let all = ap (λ (s : Sealing). s.undue) (after_both threshold history unsealed trail (step.Sealed count ∷ [])) in
    let one = one_most (sealing_after threshold history unsealed trail).due in
    omega (arith, all, one)

-- ---- which checkpoint is due

and_here : (a b d : Bool) → a ≡ true → b ≡ true → d ≡ true → ((a && b) && d) ≡ true
and_here a b d one two three = rw (one, two, three) refl

-- the call's entry stands last
pub sync_last : (history : List Entry) (entry : Entry) (ticket : Ticket) → entry.caller ≡ ticket.caller → entry.ordinal ≡ ticket.ordinal → is_sync entry.call ≡ true → is_sync_of (history ++ entry ∷ []) ticket ≡ true
sync_last [] entry ticket caller ordinal sync =
    ap (λ (b : Bool). b || false) (and_here (nat_eq entry.caller ticket.caller) (nat_eq entry.ordinal ticket.ordinal) (is_sync entry.call) (eq-eqb entry.caller ticket.caller caller) (eq-eqb entry.ordinal ticket.ordinal ordinal) sync)
sync_last (first ∷ history) entry ticket caller ordinal sync = or_later ((nat_eq first.caller ticket.caller && nat_eq first.ordinal ticket.ordinal) && is_sync first.call) (sync_last history entry ticket caller ordinal sync) where
  or_later : (a : Bool) → is_sync_of (history ++ entry ∷ []) ticket ≡ true → (a || is_sync_of (history ++ entry ∷ []) ticket) ≡ true
  or_later true is = refl
  or_later false is = is

-- by the log, which has no more operations than calls were logged
pub due_by : (threshold ops since : ℕ) (made : Call) (sync : Bool) → ops ≤ since → (is_sync made ≡ true → sync ≡ true) → is_due threshold ops made ≡ true → (nat_le threshold since || sync) ≡ true
due_by threshold ops since made sync low is due = elim (nat_le threshold ops) as (λ b. nat_le threshold ops ≡ b → (b || is_sync made) ≡ true → (nat_le threshold since || sync) ≡ true) [
  | true ↦ λ reached second. (let more : nat_le threshold since ≡ true = grind (arith, nat_tests) in rw more refl)
  | false ↦ λ few second. or_sync (nat_le threshold since) (is second)
] refl due where
  or_sync : (a : Bool) → sync ≡ true → (a || sync) ≡ true
  or_sync true so = refl
  or_sync false so = so

-- none is taken at the beginning
pub none_undue : (threshold : ℕ) (history : List Entry) → undue threshold history [] ≡ 0
unfolding undue
none_undue threshold history = refl
