-- How often a caller's call is told that a copy of its is stale.
use Rattle.std.specs.Prelude.{ℕ, ◌+◌, List, [], ◌∷◌, nat_eq, nat_lt, Bool, true, false, if◌then◌else◌}
use Rattle.mb_core_spec.specs.declared.steps.Step.{Step}
use Rattle.mb_core_spec.specs.declared.steps.Step.TheVariants as step

-- of one caller: how often its call was told so since it entered, and how often one was told so that had been told four times
pub record Stales : Type 0 where
  pub since : ℕ
  pub beyond : ℕ

abbrev pub untold : Stales
untold = record { since = 0; beyond = 0 }

abbrev pub entered_if : Bool → Stales → Stales
entered_if true was = record was { since = 0 }
entered_if false was = was

abbrev pub told_if : Bool → Stales → Stales
told_if true was = record { since = was.since + 1; beyond = was.beyond + (if nat_lt was.since 4 then 0 else 1) }
told_if false was = was

abbrev pub staling_next : ℕ → Stales → Step → Stales
staling_next caller was (step.Entered ticket) = entered_if (nat_eq ticket.caller caller) was
staling_next caller was (step.Stale ticket block) = told_if (nat_eq ticket.caller caller) was
staling_next caller was _ = was

-- a trace, step after step
abbrev pub staling_after : ℕ → Stales → List Step → Stales
staling_after caller was [] = was
staling_after caller was (one ∷ trail) = staling_after caller (staling_next caller was one) trail

unfoldable pub stales_since : ℕ → List Step → ℕ
stales_since caller trail = (staling_after caller untold trail).since

-- how many such answers to the caller's calls a trace has behind the fourth
unfoldable pub stales_beyond : ℕ → List Step → ℕ
stales_beyond caller trail = (staling_after caller untold trail).beyond
