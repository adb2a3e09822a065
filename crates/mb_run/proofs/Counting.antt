-- The crossings of a call that were counted, and its fault records.
use Rattle.std.proofs.Common.{◌≡◌, ◌≢◌, ◌⊎◌, List, [], ◌∷◌, ◌++◌, ℕ, ◌+◌, ◌<◌, ◌≤◌, Bool, true, false, nat_eq, length, inl, inr, refl, ap, sym, subst, ◌∙◌, arith, Option, IfSome, slice_index, get_or-set_other, get_or-set_same}
use Rattle.std.proofs.Math.ListN.{length-set}
use Rattle.std.proofs.lemmas.Bool.{eqb-true, eqb-false}
use Rattle.std.proofs.lemmas.Bool.Decides.{leb_tells}
use Rattle.std.specs.List.{AllByRecursion}
use Rattle.mb_edge.specs.Crossings.{place_of, next_nth}
use Rattle.mb_edge.specs.declared.crossings.Crossing.{Crossing}
use Rattle.mb_edge.specs.declared.crossings.Crossings.{Crossings}
use Rattle.mb_kinds.specs.declared.faults.FaultRecord.{FaultRecord}
use Rattle.mb_kinds.specs.declared.faults.Kind.{Kind}
use Rattle.mb_kinds.specs.declared.faults.Kind.TheVariants.{Enter, Gather, Finish, Leave, Remount, Replay}
use Rattle.mb_run.specs.Recovering.{CrossingsGoOn, FaultIsTaken, crossing_of}
use Rattle.mb_run.specs.Served.{AreSixCounts, AreApart, AreSound, IsApart, IsCounted, counted}
use Rattle.mb_run.proofs.Lists.{all_map, all_both}

pub place_below : (kind : Kind) → place_of kind < 6
place_below Enter = omega arith
place_below Gather = omega arith
place_below Finish = omega arith
place_below Leave = omega arith
place_below Remount = omega arith
place_below Replay = omega arith

-- records that were counted are still counted later
pub counted_on : (before now : Crossings) (records : List FaultRecord) → CrossingsGoOn before now → AllByRecursion (IsCounted before) records → AllByRecursion (IsCounted now) records
counted_on before now records on all = all_map (IsCounted before) (IsCounted now) records
    (λ fault is mine. elim (is (mine ∙ on.caller)) [ inl earlier ↦ inl (subst (λ n. fault.ordinal < n) (sym on.ordinal) earlier) | inr here ↦ inr (here.0 ∙ sym on.ordinal, (omega (arith, here.1, on.counts fault.kind))) ]) all

-- one record more
pub counted_push : (test : Option (Crossing → Bool)) (before now : Crossings) (records : List FaultRecord) (fault : FaultRecord) → CrossingsGoOn before now → FaultIsTaken test before now fault
    → AllByRecursion (IsCounted before) records → AllByRecursion (IsCounted now) (records ++ fault ∷ [])
counted_push test before now records fault on taken all =
    all_both (IsCounted now) records (fault ∷ []) (counted_on before now records on all) (λ mine. inr (taken.ordinal ∙ sym on.ordinal, taken.counted), tt)

-- a new record is at no crossing of the earlier ones
apart_one : (test : Option (Crossing → Bool)) (before now : Crossings) (fault one : FaultRecord) → FaultIsTaken test before now fault → IsCounted before one → IsApart one fault
apart_one test before now fault one taken is = λ same.
    elim taken.later [
      | inr greatest ↦ ap (λ (r : FaultRecord). r.nth) same ∙ greatest
      | inl above ↦ elim (is (ap (λ (r : FaultRecord). r.caller) same ∙ taken.caller)) [
        | inl earlier ↦ absurd (omega (arith, earlier, taken.ordinal, ap (λ (r : FaultRecord). r.ordinal) same))
        | inr here ↦ absurd (omega (arith, above, here.1, ap (λ (r : FaultRecord). r.nth) same, ap (λ (r : FaultRecord). slice_index before.counts (place_of r.kind)) same))
      ]
    ]

apart_push : (records : List FaultRecord) (fault : FaultRecord) → AllByRecursion (λ one. IsApart one fault) records → AreApart records → AreApart (records ++ fault ∷ [])
apart_push [] fault all apart = (tt, tt)
apart_push (one ∷ records) fault all apart = (all_both (IsApart one) records (fault ∷ []) apart.0 (all.0, tt), apart_push records fault all.1 apart.1)

pub sound_push : (test : Option (Crossing → Bool)) (before now : Crossings) (records : List FaultRecord) (fault : FaultRecord) → FaultIsTaken test before now fault
    → AllByRecursion (IsCounted before) records → AreSound test records → AreSound test (records ++ fault ∷ [])
sound_push test before now records fault taken all sound = record {
  holds = all_both (λ (r : FaultRecord). IfSome test (λ fires. fires (crossing_of r) ≡ true)) records (fault ∷ []) sound.holds (taken.holds, tt);
  apart = apart_push records fault (all_map (IsCounted before) (λ one. IsApart one fault) records (λ one is. apart_one test before now fault one taken is) all) sound.apart;
}

-- ---- the next crossing of a kind is counted

two_cases : (n : ℕ) → n ≤ 4294967295 → (n + 1 ≤ 4294967295) ⊎ (n ≡ 4294967295)
two_cases n fits = elim (leb_tells (n + 1) 4294967295) [ inl below ↦ inl below.1 | inr above ↦ inr (omega (arith, above.1)) ]

pub same_or_not : (m n : ℕ) → (m ≡ n) ⊎ (m ≢ n)
same_or_not m n = elim (nat_eq m n) as (λ b. nat_eq m n ≡ b → (m ≡ n) ⊎ (m ≢ n)) [ true ↦ λ same. inl (eqb-true m n same) | false ↦ λ other. inr (eqb-false m n other) ] refl

next_is : (counts : List ℕ) (kind : Kind) → slice_index counts (place_of kind) ≤ 4294967295
    → (slice_index counts (place_of kind) ≤ next_nth counts kind) × (next_nth counts kind ≤ 4294967295) × ((slice_index counts (place_of kind) < next_nth counts kind) ⊎ (next_nth counts kind ≡ 4294967295))
next_is counts kind fits = elim (two_cases (slice_index counts (place_of kind)) fits) [
  | inl below ↦ (omega arith, omega arith, inl (omega arith))
  | inr full ↦ (omega arith, omega arith, inr (omega arith))
]

abbrev after : Crossings → Kind → ℕ → ℕ
after crossings kind place = slice_index (counted crossings kind).counts place

pub here : (crossings : Crossings) (kind : Kind) → AreSixCounts crossings → after crossings kind (place_of kind) ≡ next_nth crossings.counts kind
here crossings kind are = let low : place_of kind < length crossings.counts = omega (arith, place_below kind, are.six) in get_or-set_same crossings.counts (place_of kind) (next_nth crossings.counts kind) 0 low

pub there : (crossings : Crossings) (kind other : Kind) → place_of other ≢ place_of kind → after crossings kind (place_of other) ≡ slice_index crossings.counts (place_of other)
there crossings kind other apart = get_or-set_other crossings.counts (place_of kind) (place_of other) (next_nth crossings.counts kind) 0 apart

each : (crossings : Crossings) (kind other : Kind) → AreSixCounts crossings → (slice_index crossings.counts (place_of other) ≤ after crossings kind (place_of other)) × (after crossings kind (place_of other) ≤ 4294967295)
each crossings kind other are = elim (same_or_not (place_of other) (place_of kind)) [
  | inl same ↦ (let is : after crossings kind (place_of other) ≡ next_nth crossings.counts kind = ap (after crossings kind) same ∙ here crossings kind are in
      let was : slice_index crossings.counts (place_of other) ≡ slice_index crossings.counts (place_of kind) = ap (slice_index crossings.counts) same in
      let next = next_is crossings.counts kind (are.fits kind) in (omega (arith, is, was, next.0), omega (arith, is, next.1)))
  | inr apart ↦ (let is = there crossings kind other apart in (omega (arith, is), omega (arith, is, are.fits other)))
]

pub counted_goes : (crossings : Crossings) (kind : Kind) → AreSixCounts crossings → CrossingsGoOn crossings (counted crossings kind)
counted_goes crossings kind are = record { caller = refl; ordinal = refl; counts = λ other. (each crossings kind other are).0; six = length-set crossings.counts (place_of kind) (next_nth crossings.counts kind); fits = λ other. (each crossings kind other are).1 }

pub counted_are : (crossings : Crossings) (kind : Kind) → AreSixCounts crossings → AreSixCounts (counted crossings kind)
counted_are crossings kind are = record {
  six = length-set crossings.counts (place_of kind) (next_nth crossings.counts kind) ∙ are.six;
  fits = λ other. (each crossings kind other are).1;
}

pub counted_taken : (test : Option (Crossing → Bool)) (crossings : Crossings) (kind : Kind) → AreSixCounts crossings
    → IfSome test (λ fires. fires (record { caller = crossings.caller; ordinal = crossings.ordinal; kind = kind; nth = next_nth crossings.counts kind }) ≡ true)
    → FaultIsTaken test crossings (counted crossings kind) (record { caller = crossings.caller; ordinal = crossings.ordinal; kind = kind; nth = next_nth crossings.counts kind })
counted_taken test crossings kind are holds = record {
  caller = refl;
  ordinal = refl;
  counted = omega (arith, here crossings kind are);
  later = (next_is crossings.counts kind (are.fits kind)).2;
  holds = holds;
}
