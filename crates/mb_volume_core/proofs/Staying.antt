-- An event of one caller leaves the others as they are.
use Rattle.std.proofs.Common.{◌≡◌, ◌≢◌, ◌⊎◌, inl, inr, ◌∙◌, List, [], ◌∷◌, ◌++◌, ℕ, zero, suc, ◌+◌, ◌<◌, Option, None, Some, true, false, if◌then◌else◌, nat_eq, length, slice_get, slice_set, refl, ap, sym, arith, append_assoc}
use Rattle.std.proofs.lemmas.List.{append-nil}
use Rattle.std.proofs.lemmas.Option.{same_Some}
use Rattle.mb_kinds.specs.declared.entries.Flight.{Flight}
use Rattle.mb_core_spec.specs.Callers.{begun, one_if}
use Rattle.mb_core_spec.specs.Events.{without}
use Rattle.mb_core_spec.specs.Numbers.{is_open, open_calls, open_flight}
use Rattle.mb_core_spec.specs.State.{CallerState, CoreState}
use Rattle.mb_core_order.proofs.Beginning.{set_here, set_there}
use Rattle.mb_core_order.proofs.Overlays.{total_set}
use Rattle.mb_run.specs.CoreSight.{pages_kept, seat_of, sight_of, stales_of}
use Rattle.mb_core_spec.specs.declared.steps.Step.{Step}
use Rattle.mb_run.specs.Events.{KeepsLog, LeavesOthersAlone}
use Rattle.mb_run.specs.Seals.{MarksTrail, is_other}
use Rattle.mb_run.specs.Sights.{limits_of}

-- ---- a list of callers

pub some_at : {X : Type 0} (xs : List X) (at : ℕ) → at < length xs → (x : X) × (slice_get xs at ≡ Some x)
some_at [] at low = absurd (omega (arith, low))
some_at (x ∷ xs) zero low = (x, refl)
some_at (x ∷ xs) (suc at) low = some_at xs at (omega (arith, low))

pub set_same : {X : Type 0} (xs : List X) (at : ℕ) (x : X) → slice_get xs at ≡ Some x → slice_set xs at x ≡ xs
set_same [] at x here = refl
set_same (y ∷ xs) zero x here = ap (λ z. z ∷ xs) (sym (same_Some y x here))
set_same (y ∷ xs) (suc at) x here = ap (λ zs. y ∷ zs) (set_same xs at x here)

pub set_twice : {X : Type 0} (xs : List X) (at : ℕ) (one other : X) → slice_set (slice_set xs at one) at other ≡ slice_set xs at other
set_twice [] at one other = refl
set_twice (x ∷ xs) zero one other = refl
set_twice (x ∷ xs) (suc at) one other = ap (λ rest. x ∷ rest) (set_twice xs at one other)

-- a seat with a call in flight is a declared caller's
pub seated : (found : Option CallerState) (flight : Flight) → (seat_of found).flight ≡ Some flight → (mine : CallerState) × (found ≡ Some mine) × (mine.flight ≡ Some flight)
seated None flight flies = absurd (let wrong : None ≡ Some flight = flies in cc)
seated (Some mine) flight flies = (mine, refl, flies)

-- ---- the right to commit alone is given back, or stays

pub floor_without : (caller : ℕ) (floor : Option ℕ) → (without caller floor ≡ None) ⊎ (without caller floor ≡ floor)
floor_without caller None = inl refl
floor_without caller (Some holder) = elim (nat_eq caller holder) as (λ b. ((if b then None else Some holder) ≡ None) ⊎ ((if b then None else Some holder) ≡ Some holder)) [
  | true ↦ inl refl
  | false ↦ inr refl
]

-- ---- one caller's state changes

module _ {F D : Type 0} (core after : CoreState F D) (caller : ℕ) (now : CallerState) (stored : after.callers ≡ slice_set core.callers caller now) where
  theirs : (other : ℕ) → other ≢ caller → slice_get after.callers other ≡ slice_get core.callers other
  theirs other apart = ap (λ (callers : List CallerState). slice_get callers other) stored ∙ set_there core.callers caller other now apart

  pub stays_at : after.config ≡ core.config → after.journal.records ≡ core.journal.records → after.stage ≡ core.stage → after.incarnation ≡ core.incarnation → LeavesOthersAlone caller (sight_of core) (sight_of after)
  stays_at config records stage incarnation = record {
    config = ap limits_of config;
    records = records;
    stage = stage;
    incarnation = incarnation;
    seats = λ other apart. ap seat_of (theirs other apart);
    copies = λ other apart. ap pages_kept (theirs other apart);
    stales = λ other apart. ap stales_of (theirs other apart);
  }

  module _ (mine : CallerState) (here : slice_get core.callers caller ≡ Some mine) where
    pub own_now : slice_get after.callers caller ≡ Some now
    own_now = ap (λ (callers : List CallerState). slice_get callers caller) stored ∙ set_here core.callers caller mine now here

    pub seat_now : (sight_of after).seats caller ≡ record { begun = now.begun; flight = now.flight }
    seat_now = ap seat_of own_now

    pub begun_now : begun after.callers + mine.begun ≡ begun core.callers + now.begun
    begun_now = ap (λ (callers : List CallerState). begun callers + mine.begun) stored ∙ total_set (λ (one : CallerState). one.begun) core.callers caller mine now here

    pub open_now : open_calls after.callers + one_if (is_open (open_flight mine.flight)) ≡ open_calls core.callers + one_if (is_open (open_flight now.flight))
    open_now =
        ap (λ (callers : List CallerState). open_calls callers + one_if (is_open (open_flight mine.flight))) stored
        ∙ total_set (λ (one : CallerState). one_if (is_open (open_flight one.flight))) core.callers caller mine now here

-- ---- the operation log stays, and the trace goes on

pub keeps_log : {F D : Type 0} (core new : CoreState F D) → new.journal.sealed_at ≡ core.journal.sealed_at → new.journal.oplog ≡ core.journal.oplog → MarksTrail core.journal.trail new.journal.trail → KeepsLog (sight_of core) (sight_of new)
keeps_log core new sealed_at oplog trail = record { sealed_at = sealed_at; ops = (let same : length new.journal.oplog ≡ length core.journal.oplog = ap length oplog in omega (arith, same)); trail = trail }

-- the trace stays, or has one step more
pub marks_none : (old new : List Step) → new ≡ old → MarksTrail old new
marks_none old new same = record { steps = []; whole = same ∙ sym (append-nil old); others = tt }

pub marks_one : (old new : List Step) (one : Step) → is_other one ≡ true → new ≡ old ++ one ∷ [] → MarksTrail old new
marks_one old new one is more = record { steps = one ∷ []; whole = more; others = (is, tt) }

pub marks_two : (old new : List Step) (one other : Step) → is_other one ≡ true → is_other other ≡ true → new ≡ (old ++ one ∷ []) ++ other ∷ [] → MarksTrail old new
marks_two old new one other first last more = record { steps = one ∷ other ∷ []; whole = more ∙ append_assoc old (one ∷ []) (other ∷ []); others = (first, (last, tt)) }
