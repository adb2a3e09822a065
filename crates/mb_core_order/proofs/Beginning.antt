-- A call that begins keeps the numbers of all callers in order.
use Rattle.std.proofs.Common.{List, [], ◌∷◌, ℕ, zero, suc, ◌+◌, ◌≡◌, ◌≢◌, ◌<◌, ◌≤◌, inl, inr, true, Some, None, length, slice_get, slice_set, refl, ap, sym, ◌∙◌, subst, arith}
use Rattle.std.specs.List.{AllByRecursion}
use Rattle.std.proofs.lemmas.List.{length-set}
use Rattle.mb_kinds.specs.declared.calls.Call.{Call}
use Rattle.mb_kinds.specs.declared.entries.Entry.{Entry}
use Rattle.mb_kinds.specs.declared.entries.Flight.{Flight}
use Rattle.mb_tree.proofs.FiniteMaps.{one_or_not}
use Rattle.mb_tree.specs.SessionLaws.{IsCall}
use Rattle.mb_kinds.specs.Own.{own}
use Rattle.mb_core_spec.specs.declared.config.Config.{Config}
use Rattle.mb_core_spec.specs.declared.stages.Stage.{Stage}
use Rattle.mb_core_order.proofs.Counting.{counted_moves}
use Rattle.mb_core_order.proofs.Overlays.{same_some, total_set}
use Rattle.mb_core_spec.specs.Callers.{EachCaller, one_if, total}
use Rattle.mb_core_spec.specs.Numbers.{CanFollow, OwnsEntries, IsEntry, IsNumbered, IsOpen, is_open, open_calls, open_flight}
use Rattle.mb_core_spec.specs.Events.{begins}
use Rattle.mb_core_spec.specs.State.{CallerState, JournalState}

-- ---- one element of a list set

pub set_here : {X : Type 0} (xs : List X) (at : ℕ) (old new : X) → slice_get xs at ≡ Some old → slice_get (slice_set xs at new) at ≡ Some new
set_here [] at old new has = cc
set_here (x ∷ xs) zero old new has = refl
set_here (x ∷ xs) (suc at) old new has = set_here xs at old new has

pub set_there : {X : Type 0} (xs : List X) (at other : ℕ) (new : X) → other ≢ at → slice_get (slice_set xs at new) other ≡ slice_get xs other
set_there [] at other new apart = refl
set_there (x ∷ xs) zero zero new apart = absurd (apart refl)
set_there (x ∷ xs) zero (suc other) new apart = refl
set_there (x ∷ xs) (suc at) zero new apart = refl
set_there (x ∷ xs) (suc at) (suc other) new apart = set_there xs at other new (λ e. apart (ap suc e))

-- what holds of the changed desk and of all others
pub each_set : (P : ℕ → CallerState → Type 0) (callers : List CallerState) (at : ℕ) (old new : CallerState) → slice_get callers at ≡ Some old → P at new
    → ((caller : ℕ) (desk : CallerState) → caller ≢ at → slice_get callers caller ≡ Some desk → P caller desk) → EachCaller P (slice_set callers at new)
each_set P callers at old new has mine theirs caller desk is = elim (one_or_not caller at) [
  | inl same ↦ subst (λ (c : ℕ). P c desk) (sym same) (subst (P at) (same_some new desk (sym (set_here callers at old new has) ∙ ap (slice_get (slice_set callers at new)) (sym same) ∙ is)) mine)
  | inr apart ↦ theirs caller desk apart (sym (set_there callers at caller new apart) ∙ is)
]

pub total_more : (callers : List CallerState) (at : ℕ) (old new : CallerState) → slice_get callers at ≡ Some old → new.begun ≡ old.begun + 1 → total (λ (d : CallerState). d.begun) (slice_set callers at new) ≡ total (λ (d : CallerState). d.begun) callers + 1
total_more [] at old new has one = cc
total_more (x ∷ xs) zero old new has one = let same : x.begun ≡ old.begun = ap (λ (d : CallerState). d.begun) (same_some x old has) in omega (arith, same, one)
total_more (x ∷ xs) (suc at) old new has one = let rest = total_more xs at old new has one in omega (arith, rest)

one_open : (callers : List CallerState) (at : ℕ) (old new : CallerState) → slice_get callers at ≡ Some old → old.flight ≡ None → is_open (open_flight new.flight) ≡ true → open_calls (slice_set callers at new) ≡ open_calls callers + 1
one_open callers at old new has free flies =
    let sum = total_set (λ (desk : CallerState). one_if (is_open (open_flight desk.flight))) callers at old new has in
    let none : one_if (is_open (open_flight old.flight)) ≡ 0 = ap (λ f. one_if (is_open (open_flight f))) free in
    let one : one_if (is_open (open_flight new.flight)) ≡ 1 = ap one_if flies in
    omega (arith, sum, none, one)

pub all_of : {X : Type 0} (P Q : X → Type 0) → ((x : X) → P x → Q x) → (xs : List X) → AllByRecursion P xs → AllByRecursion Q xs
all_of P Q f [] h = tt
all_of P Q f (x ∷ xs) h = (f x h.0, all_of P Q f xs h.1)

pub all_both : {X : Type 0} (P Q R : X → Type 0) → ((x : X) → P x → Q x → R x) → (xs : List X) → AllByRecursion P xs → AllByRecursion Q xs → AllByRecursion R xs
all_both P Q R f [] h k = tt
all_both P Q R f (x ∷ xs) h k = (f x h.0 k.0, all_both P Q R f xs h.1 k.1)

-- ---- a call begins

module _ (config : Config) (journal : JournalState) (callers : List CallerState) (now : Stage) (h : IsNumbered config journal callers now) (at : ℕ) (desk : CallerState) (has : slice_get callers at ≡ Some desk) (call : Call) (good : IsCall call)
    (free : desk.flight ≡ None) (low : desk.begun < config.most) where
  abbrev new : CallerState
  new = begins config.start callers desk call

  abbrev sum : ℕ
  sum = total (λ (d : CallerState). d.begun) callers

  grown : total (λ (d : CallerState). d.begun) (slice_set callers at new) ≡ sum + 1
  grown = total_more callers at desk new has refl

  later : (flight : Flight) → (caller begun : ℕ) → IsOpen config.start (config.start + sum) journal.history caller begun flight → IsOpen config.start (config.start + (sum + 1)) journal.history caller begun flight
  later flight caller begun o = record { last = o.last; above = o.above; below = omega (arith, o.below); call = o.call; follows = o.follows }

  same_flight : (f g : Flight) → Some f ≡ Some g → f ≡ g
  same_flight f g e = cc

  mine : (flight : Flight) → open_flight new.flight ≡ Some flight → IsOpen config.start (config.start + (sum + 1)) journal.history at new.begun flight
  mine flight is = subst (IsOpen config.start (config.start + (sum + 1)) journal.history at new.begun) (same_flight _ flight is) (record {
    last = refl;
    above = omega arith;
    below = omega arith;
    call = good;
    follows = all_both (IsEntry config.start (config.start + sum) (length config.callers)) (λ (entry : Entry). entry.caller ≡ at → entry.ordinal ≤ desk.begun) (CanFollow at (desk.begun + 1) (config.start + (sum + 1)))
        (λ entry e o. record { apart = λ same. omega (arith, e.below, same); rising = λ own. omega (arith, e.below); later = λ own. omega (arith, o (sym own)) }) journal.history h.entries (h.ordinals at desk has);
  })

  apart_from : (other : ℕ) (next : CallerState) (f g : Flight) → other ≢ at → slice_get callers other ≡ Some next → open_flight next.flight ≡ Some g → f.moment ≡ config.start + (sum + 1) → f.moment ≢ g.moment
  apart_from other next f g apart is waits moment same = omega (arith, moment, same, (h.waiting other next is g waits).below)

  moment_of : (d : CallerState) (f : Flight) → slice_get (slice_set callers at new) at ≡ Some d → open_flight d.flight ≡ Some f → f.moment ≡ config.start + (sum + 1)
  moment_of d f is f_is =
      let same : new ≡ d = same_some new d (sym (set_here callers at desk new has) ∙ is) in
      let mine_is : open_flight new.flight ≡ Some f = ap (λ (x : CallerState). open_flight x.flight) same ∙ f_is in
      sym (ap (λ (x : Flight). x.moment) (same_flight _ f mine_is))

  apart_all : (one other : ℕ) (d n : CallerState) (f g : Flight) → slice_get (slice_set callers at new) one ≡ Some d → slice_get (slice_set callers at new) other ≡ Some n → one ≢ other
      → open_flight d.flight ≡ Some f → open_flight n.flight ≡ Some g → f.moment ≢ g.moment
  apart_all one other d n f g is next differ f_is g_is = elim (one_or_not one at) [
    | inl here ↦
        let there : other ≢ at = λ e. differ (here ∙ sym e) in
        apart_from other n f g there (sym (set_there callers at other new there) ∙ next) g_is (moment_of d f (ap (slice_get (slice_set callers at new)) (sym here) ∙ is) f_is)
    | inr away ↦ elim (one_or_not other at) [
      | inl here ↦ λ same. apart_from one d g f away (sym (set_there callers at one new away) ∙ is) f_is (moment_of n g (ap (slice_get (slice_set callers at new)) (sym here) ∙ next) g_is) (sym same)
      | inr there ↦ h.apart one other d n f g (sym (set_there callers at one new away) ∙ is) (sym (set_there callers at other new there) ∙ next) differ f_is g_is
    ]
  ]

  pub numbered_begins : IsNumbered config journal (slice_set callers at new) now
  numbered_begins = record {
    callers_are = length-set callers at new ∙ h.callers_are;
    begun = each_set (λ caller d. d.begun ≤ config.most) callers at desk new has (omega (arith, low)) (λ caller d apart is. h.begun caller d is);
    entries = rw grown (all_of _ _ (λ entry e. record { caller = e.caller; above = e.above; below = omega (arith, e.below); call = e.call }) journal.history h.entries);
    pairs = h.pairs;
    ordinals = each_set (λ caller d. AllByRecursion (λ (entry : Entry). entry.caller ≡ caller → entry.ordinal ≤ d.begun) journal.history) callers at desk new has
        (all_of (λ (entry : Entry). entry.caller ≡ at → entry.ordinal ≤ desk.begun) (λ (entry : Entry). entry.caller ≡ at → entry.ordinal ≤ desk.begun + 1) (λ entry o own. omega (arith, o own)) journal.history (h.ordinals at desk has))
        (λ caller d apart is. h.ordinals caller d is);
    counted = each_set (λ caller d. OwnsEntries (own journal.history caller) d) callers at desk new has
        (let none : one_if (is_open (open_flight desk.flight)) ≡ 0 = ap (λ f. one_if (is_open (open_flight f))) free in counted_moves (own journal.history at) desk new (omega (arith, none)) (h.counted at desk has))
        (λ caller d apart is. h.counted caller d is);
    waiting = rw grown (each_set (λ caller d. (flight : Flight) → open_flight d.flight ≡ Some flight → IsOpen config.start (config.start + (sum + 1)) journal.history caller d.begun flight) callers at desk new has mine
        (λ caller d apart is flight waits. later flight caller d.begun (h.waiting caller d is flight waits)));
    apart = apart_all;
    says = h.says;
    recorded = h.recorded;
    few = h.few;
    fits = rw grown (let one = one_open callers at desk new has free refl in let was = h.fits in omega (arith, one, was));
  }
