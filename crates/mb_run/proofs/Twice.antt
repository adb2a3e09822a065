-- A call that met no two faults of its own was struck once at most before it had its entry.
use Rattle.std.proofs.Common.{◌≡◌, List, [], ◌∷◌, ℕ, suc, ◌+◌, ◌<◌, ◌≤◌, Bool, true, false, ◌&&◌, ◌||◌, cond, nat_eq, count_by, inl, inr, refl, ap, ◌∙◌, arith, Some, slice_get}
use Rattle.std.proofs.lemmas.Bool.{eqb-true}
use Rattle.std.proofs.lemmas.Bool.Decides.{leb_tells}
use Rattle.std.proofs.lemmas.List.Sums.{sum_by-cons}
use Rattle.mb_core_spec.specs.Faults.{IsOwn, IsTwice, Names}
use Rattle.mb_kinds.specs.declared.faults.FaultRecord.{FaultRecord}
use Rattle.mb_kinds.specs.declared.faults.Kind.{Kind}
use Rattle.mb_kinds.specs.declared.faults.Kind.TheVariants.{Enter, Gather, Finish, Leave, Remount, Replay}
use Rattle.mb_plan.specs.Fires.{same_kind}
use Rattle.mb_run.specs.Runs.{is_of, strikes_inside}

-- ---- a list with one or two that pass a test

module _ (test : FaultRecord → Bool) where
  record Stands (records : List FaultRecord) (place : ℕ) : Type 0 where
    pub fault : FaultRecord
    pub at : slice_get records place ≡ Some fault
    pub passes : test fault ≡ true

  further : (first : FaultRecord) (records : List FaultRecord) (place : ℕ) → Stands records place → Stands (first ∷ records) (suc place)
  further first records place stands = record { fault = stands.fault; at = stands.at; passes = stands.passes }

  pub counted : (first : FaultRecord) (records : List FaultRecord) (is : Bool) → test first ≡ is → count_by test (first ∷ records) ≡ cond is 1 0 + count_by test records
  counted first records is passes = sum_by-cons (λ (fault : FaultRecord). cond (test fault) 1 0) first records ∙ ap (λ b. cond b 1 0 + count_by test records) passes

  one_stands : (records : List FaultRecord) → 1 ≤ count_by test records → (place : ℕ) × Stands records place
  one_stands [] some = absurd (omega (arith, some))
  one_stands (first ∷ records) some = elim (test first) as (λ is. test first ≡ is → (place : ℕ) × Stands (first ∷ records) place) [
    | true ↦ λ is. (0, record { fault = first; at = refl; passes = is })
    | false ↦ λ is. (
        let fewer = counted first records false is in
        let rest = one_stands records (omega (arith, some, fewer)) in
        (suc rest.0, further first records rest.0 rest.1))
  ] refl

  two_stand : (records : List FaultRecord) → 2 ≤ count_by test records → (one other : ℕ) × (one < other) × Stands records one × Stands records other
  two_stand [] some = absurd (omega (arith, some))
  two_stand (first ∷ records) some = elim (test first) as (λ is. test first ≡ is → (one other : ℕ) × (one < other) × Stands (first ∷ records) one × Stands (first ∷ records) other) [
    | true ↦ λ is. (
        let fewer = counted first records true is in
        let rest = one_stands records (omega (arith, some, fewer)) in
        (0, suc rest.0, omega arith, record { fault = first; at = refl; passes = is }, further first records rest.0 rest.1))
    | false ↦ λ is. (
        let fewer = counted first records false is in
        let rest = two_stand records (omega (arith, some, fewer)) in
        let low = rest.2 in
        (suc rest.0, suc rest.1, omega (arith, low), further first records rest.0 rest.3, further first records rest.1 rest.4))
  ] refl

-- ---- faults of a call's own

abbrev pub is_own_kind : Kind → Bool
is_own_kind kind = same_kind kind Enter || (same_kind kind Gather || same_kind kind Finish)

abbrev pub is_inside : ℕ → ℕ → FaultRecord → Bool
is_inside caller ordinal fault = (nat_eq fault.caller caller && nat_eq fault.ordinal ordinal) && is_own_kind fault.kind

-- it is of one kind alone
one_kind : (mine : Bool) (kind : Kind) → cond (mine && is_own_kind kind) 1 0 ≡ cond (mine && same_kind kind Enter) 1 0 + (cond (mine && same_kind kind Gather) 1 0 + cond (mine && same_kind kind Finish) 1 0)
one_kind false kind = omega arith
one_kind true Enter = omega arith
one_kind true Gather = omega arith
one_kind true Finish = omega arith
one_kind true Leave = omega arith
one_kind true Remount = omega arith
one_kind true Replay = omega arith

pub all_inside : (caller ordinal : ℕ) (records : List FaultRecord) → count_by (is_inside caller ordinal) records ≡ strikes_inside records caller ordinal
all_inside caller ordinal [] = omega arith
all_inside caller ordinal (fault ∷ records) =
    let rest = all_inside caller ordinal records in
    let all = sum_by-cons (λ (f : FaultRecord). cond (is_inside caller ordinal f) 1 0) fault records in
    let enters = sum_by-cons (λ (f : FaultRecord). cond (is_of caller ordinal Enter f) 1 0) fault records in
    let gathers = sum_by-cons (λ (f : FaultRecord). cond (is_of caller ordinal Gather f) 1 0) fault records in
    let finishes = sum_by-cons (λ (f : FaultRecord). cond (is_of caller ordinal Finish f) 1 0) fault records in
    let one = one_kind (nat_eq fault.caller caller && nat_eq fault.ordinal ordinal) fault.kind in
    omega (arith, rest, all, enters, gathers, finishes, one)

own_kind : (kind : Kind) → is_own_kind kind ≡ true → IsOwn kind
own_kind Enter is = tt
own_kind Gather is = tt
own_kind Finish is = tt
own_kind Leave is = cc
own_kind Remount is = cc
own_kind Replay is = cc

both : (a b : Bool) → (a && b) ≡ true → (a ≡ true) × (b ≡ true)
both true b is = (refl, is)
both false b is = cc

named : (records : List FaultRecord) (caller ordinal place : ℕ) → Stands (is_inside caller ordinal) records place → Names records caller ordinal (place + 1)
named records caller ordinal place stands =
    let fault = stands.fault in
    let parts = both (nat_eq fault.caller caller && nat_eq fault.ordinal ordinal) (is_own_kind fault.kind) stands.passes in
    let mine = both (nat_eq fault.caller caller) (nat_eq fault.ordinal ordinal) parts.0 in
    record {
      place = place;
      counted = refl;
      fault = fault;
      at = stands.at;
      caller_is = eqb-true fault.caller caller mine.0;
      ordinal_is = eqb-true fault.ordinal ordinal mine.1;
      own = own_kind fault.kind parts.1;
    }

pub once_at_most : (records : List FaultRecord) (caller ordinal : ℕ) → ((first second : ℕ) → IsTwice records caller ordinal first second → ⊥) → strikes_inside records caller ordinal ≤ 1
once_at_most records caller ordinal never = elim (leb_tells 2 (strikes_inside records caller ordinal)) [
  | inl twice ↦ absurd (
      let many = twice.1 in
      let same = all_inside caller ordinal records in
      let two = two_stand (is_inside caller ordinal) records (omega (arith, many, same)) in
      let rising = two.2 in
      never (two.0 + 1) (two.1 + 1) (record { rising = omega (arith, rising); one = named records caller ordinal two.0 two.3; other = named records caller ordinal two.1 two.4 }))
  | inr few ↦ (let low = few.1 in omega (arith, low))
]
