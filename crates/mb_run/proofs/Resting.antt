-- A job in list order, call after call: the faults that are taken.
use Rattle.std.proofs.Common.{◌≡◌, List, [], ◌∷◌, ℕ, ◌<◌, ◌≤◌, Bool, true, false, ◌&&◌, cond, nat_eq, length, inl, inr, refl, ap, sym, subst, ◌∙◌, arith, Option, None, Some, slice_get, slice_set, get_or}
use Rattle.std.proofs.lemmas.List.Sums.{sum_by-cons}
use Rattle.std.specs.List.{AllByRecursion}
use Rattle.mb_core_spec.specs.declared.stages.Stage.{Stage}
use Rattle.mb_core_spec.specs.declared.stages.Stage.TheVariants as stage
use Rattle.mb_edge.specs.declared.crossings.Crossing.{Crossing}
use Rattle.mb_edge.specs.declared.crossings.Crossings.{Crossings}
use Rattle.mb_jobs.specs.declared.jobs.Job.{Job}
use Rattle.mb_jobs.specs.declared.jobs.JobCall.{JobCall}
use Rattle.mb_kinds.specs.declared.entries.Entry.{Entry}
use Rattle.mb_kinds.specs.declared.faults.FaultRecord.{FaultRecord}
use Rattle.mb_kinds.specs.declared.faults.Kind.{Kind}
use Rattle.mb_kinds.specs.declared.faults.Kind.TheVariants.{Enter, Gather, Finish, Leave, Remount, Replay}
use Rattle.mb_plan.specs.Fires.{same_kind}
use Rattle.mb_run.specs.Drives.{AreNew, IsBegun}
use Rattle.mb_run.specs.Recovering.{awaits_remount}
use Rattle.mb_run.specs.Runs.{EntryTakesFaults, HasTakenFaults, TakesUpTo, has_device, is_of, is_owed, strikes_of}
use Rattle.mb_run.specs.Served.{IsAfter, IsCounted, Nears}
use Rattle.mb_run.specs.Sights.{Sight, one_if}
use Rattle.mb_run.specs.Tallies.{AreRested, AreTallied, HasTallied, IsBetween, IsPast, IsRested, IsTallied, count_of}
use Rattle.mb_run.specs.declared.runner.Runner.{Runner}
use Rattle.mb_run.proofs.Counting.{same_or_not}
use Rattle.mb_run.proofs.Everybody.{got, put_get}
use Rattle.mb_run.proofs.Lists.{all_both, all_map, neq}
use Rattle.mb_run.proofs.Tallying.{passed_back}
use Rattle.mb_run.proofs.TallyRecords.{one_if_so}

-- ---- no record is of a call that did not begin

zero_count : (crossings : Crossings) → crossings.counts ≡ 0 ∷ 0 ∷ 0 ∷ 0 ∷ 0 ∷ 0 ∷ [] → (kind : Kind) → count_of crossings kind ≡ 0
zero_count crossings zeros Enter = rw zeros refl
zero_count crossings zeros Gather = rw zeros refl
zero_count crossings zeros Finish = rw zeros refl
zero_count crossings zeros Leave = rw zeros refl
zero_count crossings zeros Remount = rw zeros refl
zero_count crossings zeros Replay = rw zeros refl

and_none : (a b : Bool) → b ≡ false → (a && b) ≡ false
and_none true b is = is
and_none false b is = refl

none_and : (a b : Bool) → a ≡ false → (a && b) ≡ false
none_and a b is = rw is refl

none_of : (crossings : Crossings) → crossings.counts ≡ 0 ∷ 0 ∷ 0 ∷ 0 ∷ 0 ∷ 0 ∷ [] → (kind : Kind) (fault : FaultRecord) → IsCounted crossings fault → 1 ≤ fault.nth → is_of crossings.caller crossings.ordinal kind fault ≡ false
none_of crossings zeros kind fault counted positive = none_and (nat_eq fault.caller crossings.caller && nat_eq fault.ordinal crossings.ordinal) (same_kind fault.kind kind) (elim (same_or_not fault.caller crossings.caller) [
  | inl same ↦ elim (counted same) [
    | inl earlier ↦ and_none (nat_eq fault.caller crossings.caller) (nat_eq fault.ordinal crossings.ordinal) (neq fault.ordinal crossings.ordinal (λ is. omega (arith, earlier, is)))
    | inr here ↦ absurd (let low = here.1 in let none = zero_count crossings zeros fault.kind in omega (arith, low, none, positive))
  ]
  | inr apart ↦ none_and (nat_eq fault.caller crossings.caller) (nat_eq fault.ordinal crossings.ordinal) (neq fault.caller crossings.caller apart)
])

none_struck : (crossings : Crossings) → crossings.counts ≡ 0 ∷ 0 ∷ 0 ∷ 0 ∷ 0 ∷ 0 ∷ [] → (kind : Kind) (records : List FaultRecord) → AllByRecursion (IsCounted crossings) records → AllByRecursion (λ (fault : FaultRecord). 1 ≤ fault.nth) records
    → strikes_of records crossings.caller crossings.ordinal kind ≡ 0
none_struck crossings zeros kind [] counted positive = omega arith
none_struck crossings zeros kind (fault ∷ records) counted positive =
    let test : FaultRecord → Bool = is_of crossings.caller crossings.ordinal kind in
    let one_if_it : Bool → ℕ = λ b. cond b 1 0 in
    let here : one_if_it (test fault) ≡ 0 = ap one_if_it (none_of crossings zeros kind fault counted.0 positive.0) in
    let all = sum_by-cons (λ (f : FaultRecord). cond (test f) 1 0) fault records in
    let rest = none_struck crossings zeros kind records counted.1 positive.1 in
    omega (arith, here, all, rest)

-- ---- a caller before a call

past_all : (test : Option (Crossing → Bool)) (records : List FaultRecord) (crossings : Crossings) (answered : Bool) (history : List Entry) → AllByRecursion (λ (entry : Entry). entry.caller ≡ crossings.caller → entry.ordinal < crossings.ordinal) history
    → AllByRecursion (EntryTakesFaults test records) history → AllByRecursion (IsPast test records crossings answered) history
past_all test records crossings answered [] earlier taken = tt
past_all test records crossings answered (entry ∷ history) earlier taken = (inr (earlier.0, taken.0), past_all test records crossings answered history earlier.1 taken.1)

-- at no fault point no fault was passed over
taken_none : (test : Option (Crossing → Bool)) (records : List FaultRecord) (crossings : Crossings) (kind : Kind) → count_of crossings kind ≡ 0 → TakesUpTo test records crossings.caller crossings.ordinal kind (count_of crossings kind)
taken_none None records crossings kind none = tt
taken_none (Some fires) records crossings kind none = λ nth one high holds. absurd (omega (arith, one, high, none))

rest_tally : (test : Option (Crossing → Bool)) (sight : Sight) (runner : Runner) → HasTallied test sight → IsRested sight.history runner → AllByRecursion (IsCounted runner.crossings) sight.records → IsTallied test sight runner runner.at
rest_tally test sight runner tallied rested counted =
    let zeros = rested.counts in
    let enters = zero_count runner.crossings zeros Enter in
    let finishes = zero_count runner.crossings zeros Finish in
    let remounts = zero_count runner.crossings zeros Remount in
    let fewer = tallied.remounts in
    let none : (kind : Kind) → strikes_of sight.records runner.crossings.caller runner.crossings.ordinal kind ≡ 0 = λ kind. none_struck runner.crossings zeros kind sight.records counted tallied.records.positive in
    let e = none Enter in
    let g = none Gather in
    let f = none Finish in
    let r = none Remount in
    let p = none Replay in
    subst (IsTallied test sight runner) (sym rested.outside) (record {
      asked = rested.asked;
      present = tt;
      records = tallied.records;
      enters = omega (arith, enters);
      finishes = omega (arith, finishes);
      remounts = omega (arith, remounts, fewer);
      own_remounts = λ not. (let owes = one_if_so (awaits_remount sight.stage) (is_owed sight.records (has_device sight.history)) tallied.owed in omega (arith, remounts, owes));
      owed = λ has awaits. absurd (let wrong : true ≡ false = sym has ∙ rested.lacks in cc);
      passed = passed_back sight.records runner.crossings runner.pages runner.answered rested.lacks (record { twice = omega (arith, e, g, f); enters = omega (arith, e, g, f); gathers = omega (arith, g, f); finishes = omega (arith, f) }) (zero_count runner.crossings zeros Leave);
      taken = λ kind. taken_none test sight.records runner.crossings kind (zero_count runner.crossings zeros kind);
      restarted = inl (omega (arith, e, g, f, r, p));
      entries = past_all test sight.records runner.crossings runner.answered sight.history rested.earlier tallied.taken;
    })

-- ---- one call after another

module _ (calls : List JobCall) (test : Option (Crossing → Bool)) (old : Sight) (runners : List Runner) (index : ℕ) (after : IsAfter calls test old runners index) (made : JobCall) (here : slice_get calls index ≡ Some made) (d : Runner) (low : made.caller < length runners) where
  it : slice_get runners made.caller ≡ Some (get_or runners made.caller d)
  it = got runners made.caller d low

  own : (get_or runners made.caller d).crossings.caller ≡ made.caller
  own = (after.underway.served made.caller (get_or runners made.caller d) it).caller_is

  pub rested_after : (new : Sight) (now : Runner) → Nears calls test old new (get_or runners made.caller d) now → AreRested test old runners → (IsTallied test old (get_or runners made.caller d) (get_or runners made.caller d).at → IsBetween test new now)
      → AreRested test new (slice_set runners made.caller now)
  rested_after new now nears rested ends =
      let tally = rest_tally test old (get_or runners made.caller d) rested.tallied (rested.rested made.caller (get_or runners made.caller d) it) (after.underway.served made.caller (get_or runners made.caller d) it).counted in
      let ended = ends tally in
      record {
        tallied = ended.0;
        rested = λ other found is. elim (put_get runners made.caller other now found low is) [
          | inl mine ↦ subst (IsRested new.history) (sym mine.1) ended.1
          | inr theirs ↦ (
              let was = rested.rested other found theirs.1 in
              let other_is = (after.underway.served other found theirs.1).caller_is in
              record {
                asked = was.asked;
                outside = was.outside;
                lacks = was.lacks;
                counts = was.counts;
                earlier = subst (λ (es : List Entry). AllByRecursion (λ (entry : Entry). entry.caller ≡ found.crossings.caller → entry.ordinal < found.crossings.ordinal) es) (sym nears.acts.grown)
                    (all_both (λ (entry : Entry). entry.caller ≡ found.crossings.caller → entry.ordinal < found.crossings.ordinal) old.history nears.acts.entries was.earlier
                    (all_map (λ (entry : Entry). entry.caller ≡ (get_or runners made.caller d).crossings.caller) (λ (entry : Entry). entry.caller ≡ found.crossings.caller → entry.ordinal < found.crossings.ordinal) nears.acts.entries
                    (λ entry mine theirs_is. absurd (theirs.0 (sym other_is ∙ sym theirs_is ∙ mine ∙ own))) nears.acts.theirs));
              })
        ];
      }

pub rested_end : (test : Option (Crossing → Bool)) (sight : Sight) (runners : List Runner) → AreRested test sight runners → HasTakenFaults test sight.history sight.records
rested_end test sight runners rested = record { taken = rested.tallied.taken; near = rested.tallied.records.near }

pub rested_begin : (job : Job) (test : Option (Crossing → Bool)) (sight : Sight) (runners : List Runner) → IsBegun job sight → AreNew runners (length job.callers) → sight.stage ≡ stage.Running → AreRested test sight runners
rested_begin job test sight runners begun new runs =
    let none : one_if (awaits_remount sight.stage) ≡ 0 = ap (λ (s : Stage). one_if (awaits_remount s)) runs in
    record {
      tallied = record {
        records = subst (λ (rs : List FaultRecord). AreTallied rs sight.history) (sym begun.records) (record { near = tt; positive = tt });
        remounts = omega (arith, none);
        owed = λ awaits. absurd (let wrong : false ≡ true = ap awaits_remount (sym runs) ∙ awaits in cc);
        taken = subst (λ (es : List Entry). AllByRecursion (EntryTakesFaults test sight.records) es) (sym begun.history) tt;
      };
      rested = λ caller runner is. subst (IsRested sight.history) (sym (new.each caller runner is)) (record {
        asked = refl;
        outside = refl;
        lacks = refl;
        counts = refl;
        earlier = subst (λ (es : List Entry). AllByRecursion (λ (entry : Entry). entry.caller ≡ caller → entry.ordinal < 1) es) (sym begun.history) tt;
      });
    }
