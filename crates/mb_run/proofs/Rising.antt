-- The count rises with the fault records, step by step.
use Rattle.std.proofs.Common.{◌≡◌, ◌≤◌, List, [], ◌∷◌, ◌++◌, ℕ, ◌+◌, length, ap, ◌∙◌, arith, length-append}
use Rattle.mb_edge.specs.Causes.{Rose}
use Rattle.mb_kinds.specs.declared.faults.FaultRecord.{FaultRecord}
use Rattle.mb_run.specs.Rising.{RisesWith}

pub rises_none : (before now : ℕ) (old new : List FaultRecord) → before ≤ now → new ≡ old → RisesWith before now old new
rises_none before now old new later same =
    let long : length new ≡ length old = ap (λ (rs : List FaultRecord). length rs) same in
    record { later = later; more = 0; longer = omega (arith, long); rose = omega (arith, later) }

pub rises_one : (before now : ℕ) (old new : List FaultRecord) (fault : FaultRecord) → before ≤ now → Rose before now → new ≡ old ++ fault ∷ [] → RisesWith before now old new
rises_one before now old new fault later rose same =
    record { later = later; more = 1; longer = ap (λ (rs : List FaultRecord). length rs) same ∙ length-append old (fault ∷ []); rose = rose }

pub rises_then : (before between now : ℕ) (old mid new : List FaultRecord) → RisesWith before between old mid → RisesWith between now mid new → RisesWith before now old new
rises_then before between now old mid new one other =
    let first = one.rose in
    let second = other.rose in
    let a = one.longer in
    let b = other.longer in
    let low = one.later in
    let high = other.later in
    record { later = omega (arith, low, high); more = one.more + other.more; longer = omega (arith, a, b); rose = omega (arith, first, second) }
