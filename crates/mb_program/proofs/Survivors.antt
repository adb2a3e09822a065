-- Why a volume survives the faults of a plan: it records no more than the plan's rules have times.
use Rattle.std.proofs.Common.{List, [], ◌∷◌, ℕ, ◌≤◌, ◌≡◌, ◌≢◌, Bool, true, length, map, cond, refl, ap, arith}
use Rattle.std.specs.Prelude.{All, sum_by}
use Rattle.std.specs.List.{AllByRecursion, count_by}
use Rattle.std.proofs.lemmas.List.Elements.{All-cons, All-nil}
use Rattle.std.proofs.lemmas.List.Sums.{sum_by-cons}
use Rattle.mb_edge.specs.declared.crossings.Crossing.{Crossing}
use Rattle.mb_kinds.specs.declared.faults.FaultRecord.{FaultRecord}
use Rattle.mb_plan.specs.Fires.{fires}
use Rattle.mb_plan.specs.declared.rules.Rule.{Rule}
use Rattle.mb_plan_laws.specs.Firing.{FiresAtMost, StandOnce}
use Rattle.mb_run.specs.Recovering.{crossing_of}
use Rattle.mb_run.specs.Runs.{AreDistinct}

abbrev record_at : Crossing → FaultRecord
record_at at = record { caller = at.caller; ordinal = at.ordinal; kind = at.kind; nth = at.nth }

others : (fault : FaultRecord) (later : List FaultRecord) → AllByRecursion (λ (other : FaultRecord). fault ≢ other) later
    → All (λ (other : Crossing). crossing_of fault ≢ other) (map crossing_of later)
others fault [] differ = All-nil (λ (other : Crossing). crossing_of fault ≢ other)
others fault (next ∷ later) differ =
    All-cons (λ (other : Crossing). crossing_of fault ≢ other) (crossing_of next) (map crossing_of later)
    (λ same. differ.0 (ap record_at same)) (others fault later differ.1)

once : (records : List FaultRecord) → AreDistinct records → StandOnce (map crossing_of records)
once [] distinct = tt
once (fault ∷ later) distinct = (others fault later distinct.0, once later distinct.1)

-- all of them fire
abbrev one_if : Bool → ℕ
one_if passes = cond passes 1 0

all_fire : (plan : List Rule) (records : List FaultRecord) → AllByRecursion (λ (fault : FaultRecord). fires plan (crossing_of fault) ≡ true) records
    → count_by (λ (at : Crossing). fires plan at) (map crossing_of records) ≡ length records
all_fire plan [] fire = refl
all_fire plan (fault ∷ later) fire =
    let rest = all_fire plan later fire.1 in
    let here = ap one_if fire.0 in
    omega (arith, sum_by-cons (λ (at : Crossing). one_if (fires plan at)) (crossing_of fault) (map crossing_of later), here, rest)

pub few_records : (plan : List Rule) (records : List FaultRecord) → FiresAtMost → AllByRecursion (λ (fault : FaultRecord). fires plan (crossing_of fault) ≡ true) records → AreDistinct records
    → length records ≤ sum_by (λ (rule : Rule). rule.times) plan
few_records plan records law fire distinct =
    let most = law plan (map crossing_of records) (once records distinct) in
    omega (arith, most, all_fire plan records fire)
