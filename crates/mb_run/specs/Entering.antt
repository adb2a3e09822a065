-- A caller whose calls enter, whoever acts meanwhile: how often its call entered, and the faults that it took there.
use Rattle.std.specs.Prelude.{ℕ, ◌+◌, ◌<◌, ◌≤◌, ◌≡◌, List, Bool, Option}
use Rattle.std.specs.List.{AllByRecursion}
use Rattle.mb_edge.specs.declared.crossings.Crossing.{Crossing}
use Rattle.mb_edge.specs.declared.crossings.Crossings.{Crossings}
use Rattle.mb_kinds.specs.declared.entries.Entry.{Entry}
use Rattle.mb_kinds.specs.declared.faults.FaultRecord.{FaultRecord}
use Rattle.mb_kinds.specs.declared.faults.Kind.TheVariants.{Enter}
use Rattle.mb_run.specs.Runs.{TakesUpTo, TakesWhereItEntered, strikes_inside}
use Rattle.mb_run.specs.Sights.{Sight, one_if}
use Rattle.mb_run.specs.Tallies.{count_of, has_entered}
use Rattle.mb_run.specs.declared.runner.At.{At}
use Rattle.mb_run.specs.declared.runner.Runner.{Runner}

-- an entry of this caller is of an earlier call, or of this one, which has it; and its call took its faults where it entered
abbrev pub HasEnteredPast : Option (Crossing → Bool) → List FaultRecord → Crossings → Bool → Entry → Type 0
HasEnteredPast test records crossings answered entry = entry.caller ≡ crossings.caller → (entry.ordinal < crossings.ordinal + one_if answered) × TakesWhereItEntered test records entry

-- a call that stands there, or is on its way there
pub record EntersSoFar (test : Option (Crossing → Bool)) (records : List FaultRecord) (history : List Entry) (crossings : Crossings) (answered : Bool) (stand : At) : Type 0 where
  -- it entered once for each fault that struck it before it had its entry, and once more where it is inside or has that
  pub often : strikes_inside records crossings.caller crossings.ordinal + has_entered answered stand ≤ count_of crossings Enter
  pub taken : TakesUpTo test records crossings.caller crossings.ordinal Enter (count_of crossings Enter)
  pub past : AllByRecursion (HasEnteredPast test records crossings answered) history

abbrev pub EntersIn : Option (Crossing → Bool) → Sight → Runner → At → Type 0
EntersIn test sight runner stand = EntersSoFar test sight.records sight.history runner.crossings runner.answered stand

-- the entries of so many callers are of calls that took their faults where they entered
abbrev pub AreTakenEntering : Option (Crossing → Bool) → ℕ → List Entry → List FaultRecord → Type 0
AreTakenEntering test callers history records = AllByRecursion (λ (entry : Entry). entry.caller < callers → TakesWhereItEntered test records entry) history
