-- How often a trace tells a caller's calls that a copy is stale, step after step.
use Rattle.std.proofs.Common.{◌≡◌, ◌≢◌, List, [], ◌∷◌, ◌++◌, ℕ, ◌+◌, ◌<◌, ◌≤◌, Bool, true, false, if◌then◌else◌, nat_eq, refl, ap, sym, subst, ◌∙◌, arith}
use Rattle.std.proofs.lemmas.Bool.{eq-eqb}
use Rattle.std.proofs.lemmas.Bool.Decides.{nat_tests}
use Rattle.std.specs.List.{AllByRecursion}
use Rattle.std.specs.Prelude.{nat_lt}
use Rattle.mb_core_spec.specs.declared.steps.Step.{Step}
use Rattle.mb_core_spec.specs.declared.steps.Step.TheVariants as step
use Rattle.mb_kinds.specs.declared.faults.Ticket.{Ticket}
use Rattle.mb_run.specs.Seals.{MarksTrail, is_other}
use Rattle.mb_run.specs.Stales.{Stales, entered_if, stales_beyond, stales_since, staling_after, staling_next, told_if, untold}

no_other : false ≡ true → ⊥
no_other same = cc

-- no more since, and as many behind the fourth
record IsNoMore (now was : Stales) : Type 0 where
  pub since : now.since ≤ was.since
  pub beyond : now.beyond ≡ was.beyond

no_more : (was : Stales) → IsNoMore was was
no_more was = record { since = omega arith; beyond = refl }

entered_no_more : (b : Bool) (was : Stales) → IsNoMore (entered_if b was) was
entered_no_more true was = record { since = omega arith; beyond = refl }
entered_no_more false was = no_more was

module _ (caller : ℕ) where
  after_both : (was : Stales) (steps more : List Step) → staling_after caller was (steps ++ more) ≡ staling_after caller (staling_after caller was steps) more
  after_both was [] more = refl
  after_both was (one ∷ steps) more = after_both (staling_next caller was one) steps more

  other_next : (was : Stales) (one : Step) → is_other one ≡ true → IsNoMore (staling_next caller was one) was
  other_next was (step.Entered ticket) other = entered_no_more (nat_eq ticket.caller caller) was
  other_next was (step.Logged ticket) other = absurd (no_other other)
  other_next was (step.Sealed count) other = absurd (no_other other)
  other_next was (step.Stale ticket block) other = absurd (no_other other)
  other_next was _ other = no_more was

  others_after : (was : Stales) (steps : List Step) → AllByRecursion (λ (one : Step). is_other one ≡ true) steps → IsNoMore (staling_after caller was steps) was
  others_after was [] others = no_more was
  others_after was (one ∷ steps) others =
      let next = other_next was one others.0 in
      let rest = others_after (staling_next caller was one) steps others.1 in
      record { since = omega (arith, next.since, rest.since); beyond = rest.beyond ∙ next.beyond }

  module _ (trail : List Step) where
    marked : (now : List Step) → MarksTrail trail now → IsNoMore (staling_after caller untold now) (staling_after caller untold trail)
    marked now marks =
        let is = ap (staling_after caller untold) marks.whole ∙ after_both untold trail marks.steps in
        subst (λ (s : Stales). IsNoMore s (staling_after caller untold trail)) (sym is) (others_after (staling_after caller untold trail) marks.steps marks.others)

    -- other steps
    pub marks_since : (now : List Step) → MarksTrail trail now → stales_since caller now ≤ stales_since caller trail
    unfolding stales_since
    marks_since now marks = (marked now marks).since

    pub marks_beyond : (now : List Step) → MarksTrail trail now → stales_beyond caller now ≡ stales_beyond caller trail
    unfolding stales_beyond
    marks_beyond now marks = (marked now marks).beyond

    put : (one : Step) → staling_after caller untold (trail ++ one ∷ []) ≡ staling_next caller (staling_after caller untold trail) one
    put one = after_both untold trail (one ∷ [])

    -- a step of no caller's entering, nor of its being told
    pub put_since : (one : Step) → staling_next caller (staling_after caller untold trail) one ≡ staling_after caller untold trail → stales_since caller (trail ++ one ∷ []) ≡ stales_since caller trail
    unfolding stales_since
    put_since one same = ap (λ (s : Stales). s.since) (put one ∙ same)

    pub put_beyond : (one : Step) → staling_next caller (staling_after caller untold trail) one ≡ staling_after caller untold trail → stales_beyond caller (trail ++ one ∷ []) ≡ stales_beyond caller trail
    unfolding stales_beyond
    put_beyond one same = ap (λ (s : Stales). s.beyond) (put one ∙ same)

    module _ (ticket : Ticket) where
      -- its call enters
      pub entered_since : ticket.caller ≡ caller → stales_since caller (trail ++ step.Entered ticket ∷ []) ≡ 0
      unfolding stales_since
      entered_since own = ap (λ (s : Stales). s.since) (put (step.Entered ticket) ∙ ap (λ b. entered_if b (staling_after caller untold trail)) (eq-eqb ticket.caller caller own))

      pub entered_beyond : stales_beyond caller (trail ++ step.Entered ticket ∷ []) ≡ stales_beyond caller trail
      unfolding stales_beyond
      entered_beyond = ap (λ (s : Stales). s.beyond) (put (step.Entered ticket)) ∙ (entered_no_more (nat_eq ticket.caller caller) (staling_after caller untold trail)).beyond

      -- a call is told that a copy is stale
      module _ (block : ℕ) where
        told : staling_after caller untold (trail ++ step.Stale ticket block ∷ []) ≡ told_if (nat_eq ticket.caller caller) (staling_after caller untold trail)
        told = put (step.Stale ticket block)

        -- its own
        pub told_since : ticket.caller ≡ caller → stales_since caller (trail ++ step.Stale ticket block ∷ []) ≡ stales_since caller trail + 1
        unfolding stales_since
        told_since own = ap (λ (s : Stales). s.since) (told ∙ ap (λ b. told_if b (staling_after caller untold trail)) (eq-eqb ticket.caller caller own))

        pub told_beyond : ticket.caller ≡ caller → stales_since caller trail < 4 → stales_beyond caller (trail ++ step.Stale ticket block ∷ []) ≡ stales_beyond caller trail
        unfolding stales_beyond stales_since
        told_beyond own few =
            let test : nat_lt (staling_after caller untold trail).since 4 ≡ true = grind (arith, nat_tests, few) in
            let one_unless : Bool → ℕ = λ b. (staling_after caller untold trail).beyond + (if b then 0 else 1) in
            let none = ap one_unless test in
            let is = ap (λ (s : Stales). s.beyond) (told ∙ ap (λ b. told_if b (staling_after caller untold trail)) (eq-eqb ticket.caller caller own)) in
            omega (arith, is, none)

        -- or another's
        other_told : ticket.caller ≢ caller → staling_next caller (staling_after caller untold trail) (step.Stale ticket block) ≡ staling_after caller untold trail
        other_told apart = let test : nat_eq ticket.caller caller ≡ false = grind (arith, nat_tests, apart) in ap (λ b. told_if b (staling_after caller untold trail)) test

        pub told_other : ticket.caller ≢ caller → stales_since caller (trail ++ step.Stale ticket block ∷ []) ≡ stales_since caller trail
        told_other apart = put_since (step.Stale ticket block) (other_told apart)

        pub told_other_beyond : ticket.caller ≢ caller → stales_beyond caller (trail ++ step.Stale ticket block ∷ []) ≡ stales_beyond caller trail
        told_other_beyond apart = put_beyond (step.Stale ticket block) (other_told apart)

  -- none at the beginning
  pub none_beyond : stales_beyond caller [] ≡ 0
  unfolding stales_beyond
  none_beyond = refl
