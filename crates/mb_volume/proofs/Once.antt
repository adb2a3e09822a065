-- How many faults of its own a call met.
use Rattle.std.proofs.Common.{◌≡◌, List, [], ◌∷◌, ◌++◌, ℕ, ◌+◌, ◌≤◌, Bool, true, false, ◌&&◌, cond, nat_eq, length, filter, refl, ap, sym, subst, ◌∙◌, arith, length-append}
use Rattle.std.proofs.lemmas.List.{append-nil}
use Rattle.std.proofs.lemmas.List.Elements.{filter-append}
use Rattle.std.proofs.lemmas.List.Sums.{sum_by-cons}
use Rattle.mb_core_spec.specs.Faults.{IsTwice}
use Rattle.mb_core_spec.specs.State.{records_of}
use Rattle.mb_kinds.specs.declared.faults.FaultRecord.{FaultRecord}
use Rattle.mb_kinds.specs.declared.faults.Kind.{Kind}
use Rattle.mb_kinds.specs.declared.faults.Kind.TheVariants.{Enter, Gather, Finish, Leave, Remount, Replay}
use Rattle.mb_kinds.specs.declared.faults.Ticket.{Ticket}
use Rattle.mb_run.proofs.Twice.{once_at_most}
use Rattle.mb_run.specs.Runs.{is_of, strikes_inside}
use Rattle.mb_run.specs.Sights.{SightSeat}
use Rattle.mb_run.specs.Tallies.{is_logged}
use Rattle.mb_run.specs.declared.runner.At.{At}
use Rattle.mb_run.specs.declared.runner.At.TheVariants as at
use Rattle.mb_volume.specs.Called.{MetOnce, is_own, own_faults}
use Rattle.mb_volume.specs.Parts.{Part}
use Rattle.mb_volume.specs.Underway.{FlightHasEntry, FlightLacksEntry, HasMetOnce, PlaceHoldsTicket, PlaceStands}
use Rattle.mb_volume.proofs.Marking.{lacks_entry}

abbrev has_ordinal : ℕ → FaultRecord → Bool
has_ordinal ordinal fault = nat_eq fault.ordinal ordinal

-- ---- counted among all records, and among the caller's

from_own : (own : Bool) (fault : FaultRecord) (later : List FaultRecord) → length (cond own (fault ∷ later) later) ≡ cond own 1 0 + length later
from_own true fault later = omega arith
from_own false fault later = omega arith

from_call : (its : Bool) (fault : FaultRecord) (later : List FaultRecord) → length (own_faults (cond its (fault ∷ later) later)) ≡ cond its (cond (is_own fault.kind) 1 0) 0 + length (own_faults later)
from_call true fault later = from_own (is_own fault.kind) fault (own_faults later)
from_call false fault later = omega arith

from_caller : (mine : Bool) (ordinal : ℕ) (fault : FaultRecord) (later : List FaultRecord)
    → length (own_faults (filter (has_ordinal ordinal) (cond mine (fault ∷ later) later))) ≡ cond mine (cond (nat_eq fault.ordinal ordinal) (cond (is_own fault.kind) 1 0) 0) 0 + length (own_faults (filter (has_ordinal ordinal) later))
from_caller true ordinal fault later = from_call (nat_eq fault.ordinal ordinal) fault (filter (has_ordinal ordinal) later)
from_caller false ordinal fault later = omega arith

-- as `is_of` tells the kinds apart
abbrev same_kind : Kind → Kind → Bool
same_kind one kind = is_of 0 0 kind (record { caller = 0; ordinal = 0; kind = one; nth = 0 })

-- an own fault is of one kind
kinds_own : (kind : Kind) → cond (same_kind kind Enter) 1 0 + (cond (same_kind kind Gather) 1 0 + cond (same_kind kind Finish) 1 0) ≡ cond (is_own kind) 1 0
kinds_own Enter = omega arith
kinds_own Gather = omega arith
kinds_own Finish = omega arith
kinds_own Leave = omega arith
kinds_own Remount = omega arith
kinds_own Replay = omega arith

one_own : (mine its : Bool) (kind : Kind)
    → cond ((mine && its) && same_kind kind Enter) 1 0 + (cond ((mine && its) && same_kind kind Gather) 1 0 + cond ((mine && its) && same_kind kind Finish) 1 0) ≡ cond mine (cond its (cond (is_own kind) 1 0) 0) 0
one_own true true kind = kinds_own kind
one_own true false kind = omega arith
one_own false its kind = omega arith

pub own_strikes : (records : List FaultRecord) (caller ordinal : ℕ) → strikes_inside records caller ordinal ≡ length (own_faults (filter (λ (fault : FaultRecord). nat_eq fault.ordinal ordinal) (records_of records caller)))
own_strikes [] caller ordinal = omega arith
own_strikes (fault ∷ records) caller ordinal =
    let rest = own_strikes records caller ordinal in
    let enters = sum_by-cons (λ (f : FaultRecord). cond (is_of caller ordinal Enter f) 1 0) fault records in
    let gathers = sum_by-cons (λ (f : FaultRecord). cond (is_of caller ordinal Gather f) 1 0) fault records in
    let finishes = sum_by-cons (λ (f : FaultRecord). cond (is_of caller ordinal Finish f) 1 0) fault records in
    let one = one_own (nat_eq fault.caller caller) (nat_eq fault.ordinal ordinal) fault.kind in
    let all = from_caller (nat_eq fault.caller caller) ordinal fault (records_of records caller) in
    omega (arith, rest, enters, gathers, finishes, one, all)

-- a call that enters met no two
pub once_inside : (records : List FaultRecord) (caller ordinal : ℕ) → ((first second : ℕ) → IsTwice records caller ordinal first second → ⊥) → MetOnce ordinal (records_of records caller)
once_inside records caller ordinal never =
    let few = once_at_most records caller ordinal never in
    let same = own_strikes records caller ordinal in
    omega (arith, few, same)

-- ---- one record more

pushed_none : (its : Bool) (fault : FaultRecord) → is_own fault.kind ≡ false → own_faults (cond its (fault ∷ []) []) ≡ []
pushed_none true fault other = ap (λ b. cond b (fault ∷ []) []) other
pushed_none false fault other = refl

pub once_push : (ordinal : ℕ) (struck : List FaultRecord) (fault : FaultRecord) → is_own fault.kind ≡ false → MetOnce ordinal struck → MetOnce ordinal (struck ++ fault ∷ [])
once_push ordinal struck fault other once =
    let same : own_faults (filter (has_ordinal ordinal) (struck ++ fault ∷ [])) ≡ own_faults (filter (has_ordinal ordinal) struck) =
    ap own_faults (filter-append (has_ordinal ordinal) struck (fault ∷ []))
    ∙ filter-append (λ (f : FaultRecord). is_own f.kind) (filter (has_ordinal ordinal) struck) (filter (has_ordinal ordinal) (fault ∷ []))
    ∙ ap (λ fs. own_faults (filter (has_ordinal ordinal) struck) ++ fs) (pushed_none (nat_eq fault.ordinal ordinal) fault other) ∙ append-nil (own_faults (filter (has_ordinal ordinal) struck)) in
    subst (λ (fs : List FaultRecord). length fs ≤ 1) (sym same) once

-- of the records that came, which are all the call's
pub once_more : (ordinal : ℕ) (before more struck : List FaultRecord) → struck ≡ before ++ more → filter (λ (fault : FaultRecord). nat_eq fault.ordinal ordinal) more ≡ more → MetOnce ordinal struck → length (own_faults more) ≤ 1
once_more ordinal before more struck whole all once =
    let early = own_faults (filter (has_ordinal ordinal) before) in
    let parts : own_faults (filter (has_ordinal ordinal) struck) ≡ early ++ own_faults more =
    ap (λ fs. own_faults (filter (has_ordinal ordinal) fs)) whole ∙ ap own_faults (filter-append (has_ordinal ordinal) before more)
    ∙ filter-append (λ (f : FaultRecord). is_own f.kind) (filter (has_ordinal ordinal) before) (filter (has_ordinal ordinal) more) ∙ ap (λ fs. early ++ own_faults fs) all in
    omega (arith, once, ap length parts, length-append early (own_faults more))

-- ---- by where the call stands

pub once_with : (ordinal : ℕ) (now : Part) (a : At) → FlightHasEntry now.seat.flight → HasMetOnce ordinal now a → MetOnce ordinal now.struck
once_with ordinal now at.Outside has once = once has
once_with ordinal now (at.Inside ticket) has once = once
once_with ordinal now (at.Logged ticket) has once = once

-- it is outside then, or where it was
pub once_out : (ordinal : ℕ) (now : Part) (a : At) → HasMetOnce ordinal now a → HasMetOnce ordinal now at.Outside
once_out ordinal now a once = λ has. once_with ordinal now a has once

-- it was struck in a recovery
pub once_struck : (ordinal : ℕ) (was is : Part) (fault : FaultRecord) (a : At) → is_own fault.kind ≡ false → is.seat ≡ was.seat → is.struck ≡ was.struck ++ fault ∷ [] → HasMetOnce ordinal was a → HasMetOnce ordinal is a
once_struck ordinal was is fault at.Outside other seat struck once =
    λ has. subst (MetOnce ordinal) (sym struck) (once_push ordinal was.struck fault other (once (subst (λ (s : SightSeat). FlightHasEntry s.flight) seat has)))
once_struck ordinal was is fault (at.Inside ticket) other seat struck once = subst (MetOnce ordinal) (sym struck) (once_push ordinal was.struck fault other once)
once_struck ordinal was is fault (at.Logged ticket) other seat struck once = subst (MetOnce ordinal) (sym struck) (once_push ordinal was.struck fault other once)

-- it was struck, and has to enter again
pub once_faulted : (caller ordinal : ℕ) (was is : Part) (fault : FaultRecord) (a : At) (ticket : Ticket) → PlaceHoldsTicket a ticket → PlaceStands caller was.seat a → (is_logged a ≡ 1 → fault.kind ≡ Leave) → is.seat ≡ was.seat
    → is.struck ≡ was.struck ++ fault ∷ [] → HasMetOnce ordinal was a → HasMetOnce ordinal is at.Outside
once_faulted caller ordinal was is fault at.Outside ticket holds stands leaves seat struck once = absurd holds
once_faulted caller ordinal was is fault (at.Inside mine) ticket holds stands leaves seat struck once =
    λ has. absurd (lacks_entry was.seat.flight (subst FlightLacksEntry (sym stands.0.here) stands.0.answered) (subst (λ (s : SightSeat). FlightHasEntry s.flight) seat has))
once_faulted caller ordinal was is fault (at.Logged mine) ticket holds stands leaves seat struck once = λ has. subst (MetOnce ordinal) (sym struck) (once_push ordinal was.struck fault (ap is_own (leaves refl)) once)
