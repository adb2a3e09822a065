-- What fault records tell of the fault points of calls, with one record more.
use Rattle.std.proofs.Common.{◌≡◌, ◌≢◌, List, [], ◌∷◌, ◌++◌, ℕ, zero, suc, ◌+◌, ◌-◌, ◌<◌, ◌≤◌, Bool, true, false, ◌&&◌, ◌||◌, cond, nat_eq, append_assoc, inl, inr, refl, ap, sym, subst, ◌∙◌, arith, add-zero, Option, None, Some, IfSome, slice_index}
use Rattle.std.proofs.lemmas.Bool.{eq-eqb, le-leb, leb-true}
use Rattle.std.proofs.lemmas.Bool.Decides.{leb_tells}
use Rattle.std.proofs.lemmas.List.{append-nil}
use Rattle.std.proofs.lemmas.List.Folds.{list_any-append}
use Rattle.std.proofs.lemmas.List.Sums.{sum_by_push}
use Rattle.std.specs.List.{list_any}
use Rattle.mb_edge.specs.Crossings.{next_nth, place_of}
use Rattle.mb_edge.specs.declared.crossings.Crossing.{Crossing}
use Rattle.mb_edge.specs.declared.crossings.Crossings.{Crossings}
use Rattle.mb_kinds.specs.declared.entries.Entry.{Entry}
use Rattle.mb_kinds.specs.declared.faults.FaultRecord.{FaultRecord}
use Rattle.mb_kinds.specs.declared.faults.Kind.{Kind}
use Rattle.mb_kinds.specs.declared.faults.Kind.TheVariants.{Enter, Gather, Finish, Leave, Remount, Replay}
use Rattle.mb_plan.specs.Fires.{same_kind}
use Rattle.mb_core_spec.specs.Faults.{is_device}
use Rattle.mb_run.specs.Runs.{AreNear, TakesFaults, TakesUpTo, has_device, is_near, is_owed, is_of, is_of_running, is_plain, is_struck_at, recoveries_of, strikes_inside, strikes_of}
use Rattle.mb_run.specs.Served.{AreSixCounts, counted}
use Rattle.mb_run.specs.Sights.{one_if}
use Rattle.mb_run.specs.Tallies.{AreTallied, IsPast, count_of}
use Rattle.mb_run.proofs.Counting.{here, same_or_not, there}
use Rattle.mb_run.proofs.Lists.{all_both, neq}

-- ---- tests

or_left : (a b : Bool) → a ≡ true → (a || b) ≡ true
or_left a b is = rw is refl

or_right : (a b : Bool) → b ≡ true → (a || b) ≡ true
or_right true b is = refl
or_right false b is = is

and_false : (a b : Bool) → a ≡ false → (a && b) ≡ false
and_false a b is = rw is refl

-- ---- one record more

abbrev pub fault_at : Crossings → Kind → ℕ → FaultRecord
fault_at crossings kind nth = record { caller = crossings.caller; ordinal = crossings.ordinal; kind = kind; nth = nth }

pub near_push : (ended : Bool) (before records : List FaultRecord) (fault : FaultRecord) → AreNear ended before records → is_near ended (before ++ records) fault.caller fault.ordinal fault.kind fault.nth ≡ true → AreNear ended before (records ++ fault ∷ [])
near_push ended before [] fault near one = (subst (λ bs. is_near ended bs fault.caller fault.ordinal fault.kind fault.nth ≡ true) (append-nil before) one, tt)
near_push ended before (first ∷ records) fault near one =
    (near.0, near_push ended (before ++ first ∷ []) records fault near.1 (subst (λ bs. is_near ended bs fault.caller fault.ordinal fault.kind fault.nth ≡ true) (sym (append_assoc before (first ∷ []) records)) one))

pub tallied_push : (records : List FaultRecord) (history : List Entry) (fault : FaultRecord) → AreTallied records history → is_near (has_device history) records fault.caller fault.ordinal fault.kind fault.nth ≡ true → 1 ≤ fault.nth → AreTallied (records ++ fault ∷ []) history
tallied_push records history fault are near one = record {
  near = near_push (has_device history) [] records fault are.near near;
  positive = all_both (λ (f : FaultRecord). 1 ≤ f.nth) records (fault ∷ []) are.positive (one, tt);
}

-- once the disk ended a call a recovery may be in progress where a later one is made
one_or : (l e f : Bool) → one_if (l || e) ≤ one_if (l || (e || f))
one_or true e f = omega arith
one_or false true f = omega arith
one_or false false f = omega arith

near_one : (e f : Bool) (before : List FaultRecord) (caller ordinal : ℕ) (kind : Kind) (nth : ℕ) → is_near e before caller ordinal kind nth ≡ true → is_near (e || f) before caller ordinal kind nth ≡ true
near_one e f before caller ordinal Enter nth near = near
near_one e f before caller ordinal Gather nth near = near
near_one e f before caller ordinal Finish nth near = near
near_one e f before caller ordinal Leave nth near = near
near_one e f before caller ordinal Remount nth near =
    let left : Bool = list_any (λ (fault : FaultRecord). same_kind fault.kind Leave) before in
    let low = leb-true nth (recoveries_of before caller ordinal + one_if (is_owed before e)) near in
    let more = one_or left e f in
    le-leb nth (recoveries_of before caller ordinal + one_if (is_owed before (e || f))) (omega (arith, low, more))
near_one e f before caller ordinal Replay nth near = near

near_later : (e f : Bool) (before records : List FaultRecord) → AreNear e before records → AreNear (e || f) before records
near_later e f before [] near = tt
near_later e f before (fault ∷ records) near = (near_one e f before fault.caller fault.ordinal fault.kind fault.nth near.0, near_later e f (before ++ fault ∷ []) records near.1)

pub device_push : (history : List Entry) (entry : Entry) → has_device (history ++ entry ∷ []) ≡ has_device history || (is_device entry.reply || false)
device_push history entry = list_any-append (λ (e : Entry). is_device e.reply) history (entry ∷ [])

pub tallied_later : (records : List FaultRecord) (history : List Entry) (entry : Entry) → AreTallied records history → AreTallied records (history ++ entry ∷ [])
tallied_later records history entry are = record {
  near = subst (λ (e : Bool). AreNear e [] records) (sym (device_push history entry)) (near_later (has_device history) (is_device entry.reply || false) [] records are.near);
  positive = are.positive;
}

-- with one record more
more_or : (l x e : Bool) → one_if (l || e) ≤ one_if ((l || x) || e)
more_or true x e = omega arith
more_or false true e = at_most e where
  at_most : (b : Bool) → one_if b ≤ 1
  at_most true = omega arith
  at_most false = omega arith
more_or false false e = omega arith

pub owed_grows : (records : List FaultRecord) (fault : FaultRecord) (ended : Bool) → one_if (is_owed records ended) ≤ one_if (is_owed (records ++ fault ∷ []) ended)
owed_grows records fault ended =
    let leaving : FaultRecord → Bool = λ (f : FaultRecord). same_kind f.kind Leave in
    let both = list_any-append leaving records (fault ∷ []) in
    subst (λ (b : Bool). one_if (is_owed records ended) ≤ one_if (b || ended)) (sym both) (more_or (list_any leaving records) (list_any leaving (fault ∷ [])) ended)

-- a record of where a call leaves
pub owed_left : (records : List FaultRecord) (fault : FaultRecord) (ended : Bool) → place_of fault.kind ≡ 3 → is_owed (records ++ fault ∷ []) ended ≡ true
owed_left records fault ended third =
    let leaving : FaultRecord → Bool = λ (f : FaultRecord). same_kind f.kind Leave in
    let both = list_any-append leaving records (fault ∷ []) in
    or_left (list_any leaving (records ++ fault ∷ [])) ended
    (both ∙ or_right (list_any leaving records) (list_any leaving (fault ∷ [])) (or_left (same_kind fault.kind Leave) false (eq-eqb (place_of fault.kind) 3 third)))

-- an entry of a call that the disk ended
pub owed_device : (records : List FaultRecord) (history : List Entry) (entry : Entry) → is_device entry.reply ≡ true → is_owed records (has_device (history ++ entry ∷ [])) ≡ true
owed_device records history entry is =
    or_right (list_any (λ (f : FaultRecord). same_kind f.kind Leave) records) (has_device (history ++ entry ∷ []))
    (device_push history entry ∙ or_right (has_device history) (is_device entry.reply || false) (or_left (is_device entry.reply) false is))

pub one_if_so : (a b : Bool) → (a ≡ true → b ≡ true) → one_if a ≤ one_if b
one_if_so true b so = (let is = ap one_if (so refl) in omega (arith, is))
one_if_so false b so = omega arith

-- a struck fault point stays struck
struck_on : (records more : List FaultRecord) (caller ordinal : ℕ) (kind : Kind) (nth : ℕ) → is_struck_at records caller ordinal kind nth ≡ true → is_struck_at (records ++ more) caller ordinal kind nth ≡ true
struck_on records more caller ordinal kind nth is =
    let test : FaultRecord → Bool = λ (f : FaultRecord). is_of caller ordinal kind f && nat_eq f.nth nth in
    list_any-append test records more ∙ or_left (list_any test records) (list_any test more) is

pub up_to_on : (test : Option (Crossing → Bool)) (records more : List FaultRecord) (caller ordinal : ℕ) (kind : Kind) (most : ℕ) → TakesUpTo test records caller ordinal kind most → TakesUpTo test (records ++ more) caller ordinal kind most
up_to_on None records more caller ordinal kind most taken = tt
up_to_on (Some fires) records more caller ordinal kind most taken = λ nth low high holds. struck_on records more caller ordinal kind nth (taken nth low high holds)

-- a call that came to no fault point of a kind
pub up_to_none : (test : Option (Crossing → Bool)) (records : List FaultRecord) (caller ordinal : ℕ) (kind : Kind) → TakesUpTo test records caller ordinal kind 0
up_to_none None records caller ordinal kind = tt
up_to_none (Some fires) records caller ordinal kind = λ nth one high holds. absurd (omega (arith, one, high))

pub up_to_stays : (test : Option (Crossing → Bool)) (records : List FaultRecord) (fault : FaultRecord) (caller ordinal : ℕ) (kind : Kind) (most : ℕ) → TakesUpTo test records caller ordinal kind most → TakesUpTo test (records ++ fault ∷ []) caller ordinal kind most
up_to_stays test records fault caller ordinal kind most taken = up_to_on test records (fault ∷ []) caller ordinal kind most taken

pub up_to_less : (test : Option (Crossing → Bool)) (records : List FaultRecord) (caller ordinal : ℕ) (kind : Kind) (most less : ℕ) → less ≤ most → TakesUpTo test records caller ordinal kind most → TakesUpTo test records caller ordinal kind less
up_to_less None records caller ordinal kind most less low taken = tt
up_to_less (Some fires) records caller ordinal kind most less low taken = λ nth one high holds. taken nth one (omega (arith, high, low)) holds

same_kind_is : (kind : Kind) → same_kind kind kind ≡ true
same_kind_is kind = eq-eqb (place_of kind) (place_of kind) refl

-- the record is of that fault point
struck_here : (records : List FaultRecord) (crossings : Crossings) (kind : Kind) (nth at : ℕ) → nth ≡ at → is_struck_at (records ++ fault_at crossings kind nth ∷ []) crossings.caller crossings.ordinal kind at ≡ true
struck_here records crossings kind nth at same =
    let test : FaultRecord → Bool = λ (f : FaultRecord). is_of crossings.caller crossings.ordinal kind f && nat_eq f.nth at in
    let is : test (fault_at crossings kind nth) ≡ true = rw (eq-eqb crossings.caller crossings.caller refl, eq-eqb crossings.ordinal crossings.ordinal refl, same_kind_is kind, eq-eqb nth at same) refl in
    list_any-append test records (fault_at crossings kind nth ∷ []) ∙ or_right (list_any test records) (list_any test (fault_at crossings kind nth ∷ [])) (or_left (test (fault_at crossings kind nth)) false is)

-- ---- how many faults struck a call, with one record more

strikes_push : (records : List FaultRecord) (fault : FaultRecord) (caller ordinal : ℕ) (kind : Kind) → strikes_of (records ++ fault ∷ []) caller ordinal kind ≡ strikes_of records caller ordinal kind + cond (is_of caller ordinal kind fault) 1 0
strikes_push records fault caller ordinal kind = sum_by_push (λ (f : FaultRecord). cond (is_of caller ordinal kind f) 1 0) records fault

strikes_other : (records : List FaultRecord) (fault : FaultRecord) (caller ordinal : ℕ) (kind : Kind) → is_of caller ordinal kind fault ≡ false → strikes_of (records ++ fault ∷ []) caller ordinal kind ≡ strikes_of records caller ordinal kind
strikes_other records fault caller ordinal kind not =
    strikes_push records fault caller ordinal kind ∙ ap (λ b. strikes_of records caller ordinal kind + cond b 1 0) not ∙ add-zero (strikes_of records caller ordinal kind)

-- a record of the call itself
module _ (records : List FaultRecord) (crossings : Crossings) (kind : Kind) (nth : ℕ) where
  pub strikes_more : (of : Kind) → strikes_of (records ++ fault_at crossings kind nth ∷ []) crossings.caller crossings.ordinal of ≡ strikes_of records crossings.caller crossings.ordinal of + cond (same_kind kind of) 1 0
  strikes_more of =
      let is : is_of crossings.caller crossings.ordinal of (fault_at crossings kind nth) ≡ same_kind kind of = rw (eq-eqb crossings.caller crossings.caller refl, eq-eqb crossings.ordinal crossings.ordinal refl) refl in
      strikes_push records (fault_at crossings kind nth) crossings.caller crossings.ordinal of ∙ ap (λ b. strikes_of records crossings.caller crossings.ordinal of + cond b 1 0) is

  -- of another kind
  pub strikes_there : (of : Kind) → place_of kind ≢ place_of of → strikes_of (records ++ fault_at crossings kind nth ∷ []) crossings.caller crossings.ordinal of ≡ strikes_of records crossings.caller crossings.ordinal of
  strikes_there of apart =
      strikes_more of ∙ ap (λ b. strikes_of records crossings.caller crossings.ordinal of + cond b 1 0) (neq (place_of kind) (place_of of) apart) ∙ add-zero (strikes_of records crossings.caller crossings.ordinal of)

  -- of its own kind
  pub strikes_here : strikes_of (records ++ fault_at crossings kind nth ∷ []) crossings.caller crossings.ordinal kind ≡ strikes_of records crossings.caller crossings.ordinal kind + 1
  strikes_here = strikes_more kind ∙ ap (λ b. strikes_of records crossings.caller crossings.ordinal kind + cond b 1 0) (same_kind_is kind)

  -- it counts once at most
  pub recoveries_most : recoveries_of (records ++ fault_at crossings kind nth ∷ []) crossings.caller crossings.ordinal ≤ recoveries_of records crossings.caller crossings.ordinal + 1
  recoveries_most = let one = once kind in let e = strikes_more Enter in let g = strikes_more Gather in let f = strikes_more Finish in let r = strikes_more Remount in let p = strikes_more Replay in omega (arith, one, e, g, f, r, p)
    where
      once : (of : Kind) → cond (same_kind of Enter) 1 0 + (cond (same_kind of Gather) 1 0 + (cond (same_kind of Finish) 1 0 + (cond (same_kind of Remount) 1 0 + cond (same_kind of Replay) 1 0))) ≤ 1
      once Enter = omega arith
      once Gather = omega arith
      once Finish = omega arith
      once Leave = omega arith
      once Remount = omega arith
      once Replay = omega arith

  -- one of a recovery counts
  pub recoveries_late : 4 ≤ place_of kind → recoveries_of (records ++ fault_at crossings kind nth ∷ []) crossings.caller crossings.ordinal ≡ recoveries_of records crossings.caller crossings.ordinal + 1
  recoveries_late late = let one = once kind late in let e = strikes_more Enter in let g = strikes_more Gather in let f = strikes_more Finish in let r = strikes_more Remount in let p = strikes_more Replay in omega (arith, one, e, g, f, r, p)
    where
      once : (of : Kind) → 4 ≤ place_of of → cond (same_kind of Enter) 1 0 + (cond (same_kind of Gather) 1 0 + (cond (same_kind of Finish) 1 0 + (cond (same_kind of Remount) 1 0 + cond (same_kind of Replay) 1 0))) ≡ 1
      once Enter low = absurd (omega (arith, low))
      once Gather low = absurd (omega (arith, low))
      once Finish low = absurd (omega (arith, low))
      once Leave low = absurd (omega (arith, low))
      once Remount low = refl
      once Replay low = refl

  -- a record of where a call leaves counts for none
  pub recoveries_left : place_of kind ≡ 3 → recoveries_of (records ++ fault_at crossings kind nth ∷ []) crossings.caller crossings.ordinal ≡ recoveries_of records crossings.caller crossings.ordinal
  recoveries_left third =
      let e = strikes_there Enter (λ same. omega (arith, third, same)) in
      let g = strikes_there Gather (λ same. omega (arith, third, same)) in
      let f = strikes_there Finish (λ same. omega (arith, third, same)) in
      let r = strikes_there Remount (λ same. omega (arith, third, same)) in
      let p = strikes_there Replay (λ same. omega (arith, third, same)) in
      omega (arith, e, g, f, r, p)

-- a record of another call
not_of : (caller ordinal one other : ℕ) → (one ≡ caller → other < ordinal) → (nat_eq caller one && nat_eq ordinal other) ≡ false
not_of caller ordinal one other earlier = elim (same_or_not caller one) [
  | inl same ↦ (let low = earlier (sym same) in ap (λ b. nat_eq caller one && b) (neq ordinal other (λ is. omega (arith, low, is))) ∙ and_no (nat_eq caller one))
  | inr apart ↦ and_false (nat_eq caller one) (nat_eq ordinal other) (neq caller one apart)
] where
  and_no : (b : Bool) → (b && false) ≡ false
  and_no true = refl
  and_no false = refl

strikes_apart : (records : List FaultRecord) (crossings : Crossings) (kind : Kind) (nth caller ordinal : ℕ) → (caller ≡ crossings.caller → ordinal < crossings.ordinal) → (of : Kind) → strikes_of (records ++ fault_at crossings kind nth ∷ []) caller ordinal of ≡ strikes_of records caller ordinal of
strikes_apart records crossings kind nth caller ordinal earlier of = strikes_other records (fault_at crossings kind nth) caller ordinal of
    (and_false (nat_eq crossings.caller caller && nat_eq crossings.ordinal ordinal) (same_kind kind of) (not_of crossings.caller crossings.ordinal caller ordinal earlier))

-- its faults stay taken
takes_stays : (test : Option (Crossing → Bool)) (records : List FaultRecord) (fault : FaultRecord) (caller ordinal plain runs : ℕ) → ((of : Kind) → strikes_of (records ++ fault ∷ []) caller ordinal of ≡ strikes_of records caller ordinal of) → TakesFaults test records caller ordinal plain runs
    → TakesFaults test (records ++ fault ∷ []) caller ordinal plain runs
takes_stays test records fault caller ordinal plain runs same was =
    let now : List FaultRecord = records ++ fault ∷ [] in
    let e = same Enter in
    let g = same Gather in
    let f = same Finish in
    let r = same Remount in
    let p = same Replay in
    let stays : (kind : Kind) (most less : ℕ) → less ≤ most → TakesUpTo test records caller ordinal kind most → TakesUpTo test now caller ordinal kind less = λ kind most less low taken. up_to_less test now caller ordinal kind most less low (up_to_stays test records fault caller ordinal kind most taken) in
    record {
      twice = (let low = was.twice in omega (arith, low, e, g, f));
      enters = stays Enter (strikes_inside records caller ordinal + plain) (strikes_inside now caller ordinal + plain) (omega (arith, e, g, f)) was.enters;
      gathers = stays Gather (strikes_of records caller ordinal Gather + strikes_of records caller ordinal Finish + plain) (strikes_of now caller ordinal Gather + strikes_of now caller ordinal Finish + plain) (omega (arith, g, f)) was.gathers;
      finishes = stays Finish (strikes_of records caller ordinal Finish + plain) (strikes_of now caller ordinal Finish + plain) (omega (arith, f)) was.finishes;
      leaves = stays Leave plain plain (omega arith) was.leaves;
      remounts = stays Remount (recoveries_of records caller ordinal + runs - 1) (recoveries_of now caller ordinal + runs - 1) (omega (arith, e, g, f, r, p)) was.remounts;
    }

-- an earlier call's faults stay taken
pub past_push : (test : Option (Crossing → Bool)) (records : List FaultRecord) (crossings : Crossings) (kind : Kind) (nth : ℕ) (answered : Bool) (entry : Entry) → IsPast test records crossings answered entry
    → IsPast test (records ++ fault_at crossings kind nth ∷ []) crossings answered entry
past_push test records crossings kind nth answered entry (inl mine) = inl mine
past_push test records crossings kind nth answered entry (inr past) =
    inr (past.0, takes_stays test records (fault_at crossings kind nth) entry.caller entry.ordinal (one_if (is_plain entry.reply)) (one_if (is_of_running entry.reply)) (strikes_apart records crossings kind nth entry.caller entry.ordinal past.0) past.1)

-- ---- the next fault point of a kind is counted

kind_at : ℕ → Kind
kind_at zero = Enter
kind_at (suc zero) = Gather
kind_at (suc (suc zero)) = Finish
kind_at (suc (suc (suc zero))) = Leave
kind_at (suc (suc (suc (suc zero)))) = Remount
kind_at (suc (suc (suc (suc (suc n))))) = Replay

kind_place : (kind : Kind) → kind_at (place_of kind) ≡ kind
unfolding kind_at
kind_place Enter = refl
kind_place Gather = refl
kind_place Finish = refl
kind_place Leave = refl
kind_place Remount = refl
kind_place Replay = refl

same_place : (one other : Kind) → place_of one ≡ place_of other → one ≡ other
same_place one other same = sym (kind_place one) ∙ ap kind_at same ∙ kind_place other

pub next_more : (counts : List ℕ) (kind : Kind) → (next_nth counts kind ≤ slice_index counts (place_of kind) + 1) × (1 ≤ next_nth counts kind)
next_more counts kind = (omega arith, omega arith)

pub next_first : (counts : List ℕ) (kind : Kind) → slice_index counts (place_of kind) ≡ 0 → next_nth counts kind ≡ 1
next_first counts kind none = omega (arith, none)

pub next_least : (counts : List ℕ) (kind : Kind) (least : ℕ) → least ≤ slice_index counts (place_of kind) → least < 4294967295 → least + 1 ≤ next_nth counts kind
next_least counts kind least low small = omega (arith, low, small)

module _ (crossings : Crossings) (kind : Kind) (are : AreSixCounts crossings) where
  pub counted_here : count_of (counted crossings kind) kind ≡ next_nth crossings.counts kind
  counted_here = here crossings kind are

  pub counted_some : count_of (counted crossings kind) kind ≢ 0
  counted_some none = let more = (next_more crossings.counts kind).1 in omega (arith, none, counted_here, more)

  pub counted_most : count_of (counted crossings kind) kind ≤ count_of crossings kind + 1
  counted_most = let more = (next_more crossings.counts kind).0 in omega (arith, counted_here, more)

  pub counted_there : (other : Kind) → place_of other ≢ place_of kind → count_of (counted crossings kind) other ≡ count_of crossings other
  counted_there other apart = there crossings kind other apart

  pub counted_stays : (other : Kind) → count_of crossings other ≢ 0 → count_of (counted crossings kind) other ≢ 0
  counted_stays other some = elim (same_or_not (place_of other) (place_of kind)) [
    | inl same ↦ λ none. counted_some (ap (λ n. slice_index (counted crossings kind).counts n) (sym same) ∙ none)
    | inr apart ↦ λ none. some (sym (counted_there other apart) ∙ none)
  ]

  -- one crossing more, where the count is not the greatest
  pub counted_more : (least : ℕ) → least ≤ count_of crossings kind → least < 4294967295 → least + 1 ≤ count_of (counted crossings kind) kind
  counted_more least low small = let more = next_least crossings.counts kind least low small in omega (arith, counted_here, more)

  module _ (test : Option (Crossing → Bool)) (records : List FaultRecord) where
    abbrev next : ℕ
    next = next_nth crossings.counts kind

    -- a fault point of another kind
    elsewhere : (rs : List FaultRecord) (other : Kind) → place_of other ≢ place_of kind → TakesUpTo test rs crossings.caller crossings.ordinal other (count_of crossings other)
        → TakesUpTo test rs crossings.caller crossings.ordinal other (count_of (counted crossings kind) other)
    elsewhere rs other apart was = let same = counted_there other apart in up_to_less test rs crossings.caller crossings.ordinal other (count_of crossings other) (count_of (counted crossings kind) other) (omega (arith, same)) was

    -- one of this kind that was not counted before is the next one
    is_next : (nth : ℕ) → nth ≤ count_of (counted crossings kind) kind → count_of crossings kind < nth → nth ≡ next
    is_next nth high above = let more = (next_more crossings.counts kind).0 in omega (arith, high, above, more, counted_here)

    -- no fault came there
    pub kind_go : (other : Kind) → TakesUpTo test records crossings.caller crossings.ordinal other (count_of crossings other)
        → IfSome test (λ fires. fires (record { caller = crossings.caller; ordinal = crossings.ordinal; kind = kind; nth = next_nth crossings.counts kind }) ≡ false)
        → TakesUpTo test records crossings.caller crossings.ordinal other (count_of (counted crossings kind) other)
    kind_go other taken unfired = elim (same_or_not (place_of other) (place_of kind)) [
      | inl same ↦ (let is = same_place other kind same in
          subst (λ (k : Kind). TakesUpTo test records crossings.caller crossings.ordinal k (count_of (counted crossings kind) k)) (sym is)
          (never test (subst (λ (k : Kind). TakesUpTo test records crossings.caller crossings.ordinal k (count_of crossings k)) is taken) unfired))
      | inr apart ↦ elsewhere records other apart taken
    ] where
      never : (told : Option (Crossing → Bool)) → TakesUpTo told records crossings.caller crossings.ordinal kind (count_of crossings kind)
          → IfSome told (λ fires. fires (record { caller = crossings.caller; ordinal = crossings.ordinal; kind = kind; nth = next }) ≡ false)
          → TakesUpTo told records crossings.caller crossings.ordinal kind (count_of (counted crossings kind) kind)
      never None was not = tt
      never (Some fires) was not = λ nth one high holds. elim (leb_tells nth (count_of crossings kind)) [
        | inl low ↦ was nth one low.1 holds
        | inr above ↦ absurd (
            let it : fires (record { caller = crossings.caller; ordinal = crossings.ordinal; kind = kind; nth = next }) ≡ true =
            ap (λ n. fires (record { caller = crossings.caller; ordinal = crossings.ordinal; kind = kind; nth = n })) (sym (is_next nth high above.1)) ∙ holds in
            let both : true ≡ false = sym it ∙ not in cc)
      ]

    -- a fault was taken there
    pub kind_struck : (other : Kind) → TakesUpTo test records crossings.caller crossings.ordinal other (count_of crossings other)
        → TakesUpTo test (records ++ fault_at crossings kind (next_nth crossings.counts kind) ∷ []) crossings.caller crossings.ordinal other (count_of (counted crossings kind) other)
    kind_struck other taken = elim (same_or_not (place_of other) (place_of kind)) [
      | inl same ↦ (let is = same_place other kind same in
          subst (λ (k : Kind). TakesUpTo test (records ++ fault_at crossings kind next ∷ []) crossings.caller crossings.ordinal k (count_of (counted crossings kind) k)) (sym is)
          (struck test (subst (λ (k : Kind). TakesUpTo test records crossings.caller crossings.ordinal k (count_of crossings k)) is taken)))
      | inr apart ↦ elsewhere (records ++ fault_at crossings kind next ∷ []) other apart (up_to_stays test records (fault_at crossings kind next) crossings.caller crossings.ordinal other (count_of crossings other) taken)
    ] where
      struck : (told : Option (Crossing → Bool)) → TakesUpTo told records crossings.caller crossings.ordinal kind (count_of crossings kind)
          → TakesUpTo told (records ++ fault_at crossings kind next ∷ []) crossings.caller crossings.ordinal kind (count_of (counted crossings kind) kind)
      struck None was = tt
      struck (Some fires) was = λ nth one high holds. elim (leb_tells nth (count_of crossings kind)) [
        | inl low ↦ struck_on records (fault_at crossings kind next ∷ []) crossings.caller crossings.ordinal kind nth (was nth one low.1 holds)
        | inr above ↦ struck_here records crossings kind next nth (sym (is_next nth high above.1))
      ]

    -- so of each kind
    module _ (taken : (other : Kind) → TakesUpTo test records crossings.caller crossings.ordinal other (count_of crossings other)) where
      pub taken_go : IfSome test (λ fires. fires (record { caller = crossings.caller; ordinal = crossings.ordinal; kind = kind; nth = next_nth crossings.counts kind }) ≡ false) → (other : Kind)
          → TakesUpTo test records crossings.caller crossings.ordinal other (count_of (counted crossings kind) other)
      taken_go unfired other = kind_go other (taken other) unfired

      pub taken_struck : (other : Kind) → TakesUpTo test (records ++ fault_at crossings kind (next_nth crossings.counts kind) ∷ []) crossings.caller crossings.ordinal other (count_of (counted crossings kind) other)
      taken_struck other = kind_struck other (taken other)
