-- One call more, and one rule more.
use Rattle.std.proofs.Common.{List, [], ◌∷◌, ◌++◌, ℕ, suc, ◌+◌, ◌≡◌, refl, ap, sym, ◌∙◌, arith}
use Rattle.mb_plan.specs.declared.rules.Rule.{Rule}
use Rattle.mb_jobs.specs.declared.jobs.JobCall.{JobCall}
use Rattle.mb_gen.specs.Calls.{call_drawn, calls_drawn}
use Rattle.mb_gen.specs.Faults.{rule_drawn, rules_drawn}

module _ {G : Type 0} (step : G → ℕ × G) where
  pub calls_none : (draws : G) → calls_drawn step 0 draws ≡ ([], draws)
  unfolding calls_drawn
  calls_none draws = refl

  calls_next : (count : ℕ) (draws : G) → calls_drawn step (suc count) draws ≡ ((calls_drawn step count draws).0 ++ (call_drawn step (calls_drawn step count draws).1).0 ∷ [], (call_drawn step (calls_drawn step count draws).1).1)
  unfolding calls_drawn
  calls_next count draws = refl

  pub calls_more : (count : ℕ) (first draws : G) (items : List JobCall) (last : JobCall) (now : G) → (items, draws) ≡ calls_drawn step count first → (last, now) ≡ call_drawn step draws
      → (items ++ last ∷ [], now) ≡ calls_drawn step (count + 1) first
  calls_more count first draws items last now is one =
      let e : count + 1 ≡ suc count = omega arith in
      ap (λ (l : JobCall × G). (items ++ l.0 ∷ [], l.1)) one
      ∙ ap (λ (b : List JobCall × G). (b.0 ++ (call_drawn step b.1).0 ∷ [], (call_drawn step b.1).1)) is
      ∙ sym (calls_next count first) ∙ ap (λ n. calls_drawn step n first) (sym e)

module _ {G : Type 0} (step : G → ℕ × G) (calls : List JobCall) (bound : ℕ) where
  pub rules_none : (draws : G) → rules_drawn step calls bound 0 draws ≡ ([], draws)
  unfolding rules_drawn
  rules_none draws = refl

  rules_next : (count : ℕ) (draws : G) → rules_drawn step calls bound (suc count) draws
      ≡ ((rules_drawn step calls bound count draws).0 ++ (rule_drawn step calls bound (rules_drawn step calls bound count draws).1).0 ∷ [], (rule_drawn step calls bound (rules_drawn step calls bound count draws).1).1)
  unfolding rules_drawn
  rules_next count draws = refl

  pub rules_more : (count : ℕ) (first draws : G) (items : List Rule) (last : Rule) (now : G) → (items, draws) ≡ rules_drawn step calls bound count first → (last, now) ≡ rule_drawn step calls bound draws
      → (items ++ last ∷ [], now) ≡ rules_drawn step calls bound (count + 1) first
  rules_more count first draws items last now is one =
      let e : count + 1 ≡ suc count = omega arith in
      ap (λ (l : Rule × G). (items ++ l.0 ∷ [], l.1)) one
      ∙ ap (λ (b : List Rule × G). (b.0 ++ (rule_drawn step calls bound b.1).0 ∷ [], (rule_drawn step calls bound b.1).1)) is
      ∙ sym (rules_next count first) ∙ ap (λ n. rules_drawn step calls bound n first) (sym e)
