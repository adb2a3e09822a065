-- Behind the failed volume's answer every other one is its, too.
use Rattle.std.proofs.Common.{◌≡◌, ◌≢◌, ◌⊎◌, inl, inr, List, [], ◌∷◌, ◌++◌, ℕ, ◌≤◌, Bool, true, false, cond, not, count_by, refl, ap, sym, ◌∙◌, arith}
use Rattle.std.proofs.lemmas.List.Sums.{sum_by_push}
use Rattle.std.specs.List.{AllByRecursion}
use Rattle.mb_core_spec.specs.declared.stages.Stage.{Stage}
use Rattle.mb_core_spec.specs.declared.stages.Stage.TheVariants as stage
use Rattle.mb_kinds.specs.declared.entries.Entry.{Entry}
use Rattle.mb_kinds.specs.declared.replies.Reply.{Reply}
use Rattle.mb_kinds.specs.declared.replies.Reply.TheVariants as reply
use Rattle.mb_run.specs.Events.{IsAnsweredAt, IsUnplain}
use Rattle.mb_run.specs.Seals.{is_failed, late}
use Rattle.mb_run.specs.Sights.{IsOrderlyInSight, Sight, late_in, recovers}

late_by : (entry : Entry) (history : List Entry) (is : Bool) → is_failed entry.reply ≡ is → late (entry ∷ history) ≡ cond is (count_by (λ (other : Entry). not (is_failed other.reply)) history) (late history)
late_by entry history is same = ap (λ b. cond b (count_by (λ (other : Entry). not (is_failed other.reply)) history) (late history)) same

abbrev as_other : Bool → ℕ
as_other is = cond (not is) 1 0

-- where none is the failed volume's, one more makes none late
none_late : (history : List Entry) (entry : Entry) → AllByRecursion (λ (one : Entry). is_failed one.reply ≡ false) history → late (history ++ entry ∷ []) ≡ 0
none_late [] entry none = elim (is_failed entry.reply) as (λ b. cond b (count_by (λ (other : Entry). not (is_failed other.reply)) []) (late []) ≡ 0) [ true ↦ refl | false ↦ refl ]
none_late (first ∷ history) entry none = late_by first (history ++ entry ∷ []) false none.0 ∙ none_late history entry none.1

-- one more of its is none
failed_late : (history : List Entry) (entry : Entry) → is_failed entry.reply ≡ true → late (history ++ entry ∷ []) ≡ late history
failed_late [] entry is = late_by entry [] true is
failed_late (first ∷ history) entry is = elim (is_failed first.reply) as (λ b. is_failed first.reply ≡ b → late (first ∷ history ++ entry ∷ []) ≡ late (first ∷ history)) [
  | true ↦ λ here. (
      let push = sum_by_push (λ (other : Entry). cond (not (is_failed other.reply)) 1 0) history entry in
      let none = ap as_other is in
      let before = late_by first history true here in
      let after = late_by first (history ++ entry ∷ []) true here in
      omega (arith, push, none, before, after))
  | false ↦ λ here. late_by first (history ++ entry ∷ []) false here ∙ failed_late history entry is ∙ sym (late_by first history false here)
] refl

pub still_late : (old new : Sight) → new.history ≡ old.history → late_in new ≤ late_in old
still_late old new same = let is = ap late same in omega (arith, is)

-- an answer of the failed volume, or one of a volume that has not failed
abbrev pub MayTell : Stage → Reply → Type 0
MayTell now answer = (is_failed answer ≡ true) ⊎ (now ≢ stage.Failed)

pub entry_late : (old new : Sight) (entry : Entry) → IsOrderlyInSight old → MayTell old.stage entry.reply → new.history ≡ old.history ++ entry ∷ [] → late_in new ≤ late_in old
entry_late old new entry right tells grown = let is = ap late grown in elim tells [
  | inl failed ↦ (let same = failed_late old.history entry failed in omega (arith, is, same))
  | inr goes ↦ (let none = none_late old.history entry (right.failures goes) in omega (arith, is, none))
]

pub runs_not_failed : (now : Stage) → now ≡ stage.Running → now ≢ stage.Failed
runs_not_failed now runs failed = let wrong : stage.Running ≡ stage.Failed = sym runs ∙ failed in cc

pub recovers_not_failed : (now : Stage) → recovers now ≡ true → now ≢ stage.Failed
recovers_not_failed now recovered failed = let wrong : false ≡ true = ap recovers (sym failed) ∙ recovered in cc

-- the two answers to a call that enters
pub told_entering : (now : Stage) (answer : Reply) → IsUnplain answer → IsAnsweredAt now answer → MayTell now answer
told_entering now (reply.Restart first second) is told = inr (runs_not_failed now told)
told_entering now (reply.Failed faults) is told = inl refl
told_entering now reply.Device is told = absurd told
told_entering now (reply.Num number) is told = absurd is
told_entering now (reply.Got bytes) is told = absurd is
told_entering now (reply.Info stat) is told = absurd is
told_entering now (reply.Refused error) is told = absurd is
