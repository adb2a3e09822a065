-- A caller that acts alone: what a recovery that it runs leaves of the tally of its call.
use Rattle.std.proofs.Common.{◌≡◌, ◌⊎◌, List, [], ◌∷◌, ◌++◌, ℕ, ◌+◌, ◌≤◌, Bool, true, false, length, inl, inr, refl, ap, sym, subst, ◌∙◌, arith, Option, None, Some, IfSome, length-append}
use Rattle.std.proofs.lemmas.Bool.{le-leb}
use Rattle.std.specs.List.{AllByRecursion}
use Rattle.mb_core_spec.specs.declared.stages.Stage.{Stage}
use Rattle.mb_core_spec.specs.declared.stages.Stage.TheVariants as stage
use Rattle.mb_edge.specs.Crossings.{next_nth, place_of}
use Rattle.mb_edge.specs.declared.crossings.Crossing.{Crossing}
use Rattle.mb_edge.specs.declared.crossings.Crossings.{Crossings}
use Rattle.mb_jobs.specs.declared.jobs.JobCall.{JobCall}
use Rattle.mb_kinds.specs.declared.calls.Call.{Call}
use Rattle.mb_kinds.specs.declared.entries.Entry.{Entry}
use Rattle.mb_kinds.specs.declared.faults.FaultRecord.{FaultRecord}
use Rattle.mb_kinds.specs.declared.faults.Kind.{Kind}
use Rattle.mb_kinds.specs.declared.faults.Kind.TheVariants.{Enter, Gather, Finish, Leave, Remount, Replay}
use Rattle.mb_kinds.specs.declared.replies.Reply.TheVariants as reply
use Rattle.mb_run.specs.Events.{Answers, entry_of}
use Rattle.mb_run.specs.Recovering.{GoOn, Rolls, Steps, StrikesStep, awaits_remount, counted, next_of}
use Rattle.mb_run.specs.Runs.{TakesUpTo, has_device, is_near, is_owed, recoveries_of, strikes_inside, strikes_of}
use Rattle.mb_run.specs.Served.{AreSixCounts, IsAtBy, IsResting, CrossingsAreKept, MayStep, advanced, calls_in, calls_of, with_crossings}
use Rattle.mb_run.specs.Sights.{IsWaiting, Sight, one_if, recovers}
use Rattle.mb_run.specs.Tallies.{HasPassedAtLeast, HasPassedPoints, IsBetween, IsPast, IsUpToDate, IsRestarted, IsTallied, TalliedBy, count_of}
use Rattle.mb_run.specs.declared.answers.StepAnswer.{StepAnswer}
use Rattle.mb_run.specs.declared.answers.StepAnswer.TheVariants as stepped
use Rattle.mb_run.specs.declared.runner.At.{At}
use Rattle.mb_run.specs.declared.runner.At.TheVariants as at
use Rattle.mb_run.specs.declared.runner.Runner.{Runner}
use Rattle.mb_run.proofs.Balance.{marked_here}
use Rattle.mb_run.proofs.Lists.{all_map}
use Rattle.mb_run.proofs.Rolling.{Ends, rolled_went}
use Rattle.mb_run.proofs.Once.{one_most}
use Rattle.mb_run.proofs.Tallying.{ends_unplain, lacks_leave, passed_back, restarted_most, restarted_same, with_counted}
use Rattle.mb_run.proofs.TallyRecords.{counted_more, counted_most, counted_there, fault_at, next_more, owed_grows, past_push, recoveries_late, recoveries_most, strikes_there, taken_go, taken_struck, tallied_push}

rests_outside : (sight : Sight) (caller : ℕ) (a : At) → IsUpToDate sight caller a → IsResting sight.incarnation a → a ≡ at.Outside
rests_outside sight caller at.Outside present rests = refl
rests_outside sight caller (at.Inside ticket) present rests = absurd (rests present.0)
rests_outside sight caller (at.Logged ticket) present rests = absurd (rests present.0)

module _ (test : Option (Crossing → Bool)) (old new : Sight) (runner : Runner) (tally : IsTallied test old runner at.Outside) (lacks : runner.answered ≡ false) (history : new.history ≡ old.history) where
  not_failed : recovers old.stage ≡ true → old.stage ≡ stage.Failed → ⊥
  not_failed recovered fails = let wrong : true ≡ false = sym recovered ∙ ap recovers fails in cc

  left_none : HasPassedAtLeast old.records runner.crossings 0 0 0 × (count_of runner.crossings Leave ≡ 0)
  left_none = lacks_leave old.records runner.crossings runner.pages runner.answered lacks tally.passed

  -- how often it starts the file system anew at most, with what is to come
  abbrev own_most : ℕ
  own_most = recoveries_of old.records runner.crossings.caller runner.crossings.ordinal + one_if (is_owed old.records (has_device old.history))

  has_not : runner.answered ≡ true → awaits_remount new.stage ≡ true → is_owed new.records (has_device new.history) ≡ true
  has_not has awaits = absurd (let wrong : true ≡ false = sym has ∙ lacks in cc)

  -- a call that was struck inside still waits for the file system, or the volume failed
  goes_on_restarted : (crossings : Crossings) → crossings.caller ≡ runner.crossings.caller → crossings.ordinal ≡ runner.crossings.ordinal → count_of crossings Remount ≡ count_of runner.crossings Remount → recovers old.stage ≡ true
      → (awaits_remount old.stage ≡ true → (awaits_remount new.stage ≡ true) ⊎ (new.stage ≡ stage.Failed)) → IsRestarted old.records crossings new.stage runner.answered
  goes_on_restarted crossings caller ordinal same recovered carries =
      restarted_same old.records runner.crossings crossings new.stage runner.answered caller ordinal same (elim tally.restarted [
        | inl all ↦ inl all
        | inr not_yet ↦ elim not_yet.2 [
          | inl awaits ↦ inr (not_yet.0, not_yet.1, carries awaits)
          | inr fails ↦ absurd (not_failed recovered fails)
        ]
      ])

  -- at a fault point of the recovery those of the call are as they were
  passed_late : (kind : Kind) → AreSixCounts runner.crossings → 4 ≤ place_of kind → HasPassedAtLeast old.records (counted runner.crossings kind) 0 0 0
  passed_late kind are late =
      let was = left_none.0 in
      let enters = was.enters in
      let gathers = was.gathers in
      let finishes = was.finishes in
      let e = counted_there runner.crossings kind are Enter (λ is. omega (arith, is, late)) in
      let g = counted_there runner.crossings kind are Gather (λ is. omega (arith, is, late)) in
      let f = counted_there runner.crossings kind are Finish (λ is. omega (arith, is, late)) in
      record { twice = was.twice; enters = omega (arith, enters, e); gathers = omega (arith, gathers, g); finishes = omega (arith, finishes, f) }

  -- ---- no fault came

  module _ (records : new.records ≡ old.records) where
    size : length new.records ≡ length old.records
    size = ap length records

    -- at no fault point
    pub rolls_none : recovers old.stage ≡ true → (awaits_remount old.stage ≡ true → (awaits_remount new.stage ≡ true) ⊎ (new.stage ≡ stage.Failed)) → one_if (awaits_remount new.stage) ≤ one_if (awaits_remount old.stage)
        → IsTallied test new runner at.Outside
    rolls_none recovered carries fewer = record {
      asked = tally.asked;
      present = tt;
      records = rw (records, history) tally.records;
      enters = rw records tally.enters;
      finishes = rw records tally.finishes;
      remounts = (let was = tally.remounts in omega (arith, size, was, fewer));
      own_remounts = λ not. rw (records, history) (let was = tally.own_remounts lacks in omega (arith, was, fewer));
      owed = has_not;
      passed = rw records tally.passed;
      taken = rw records tally.taken;
      restarted = rw records (goes_on_restarted runner.crossings refl refl refl recovered carries);
      entries = rw (records, history) tally.entries;
    }

    -- at a fault point of the recovery
    module _ (kind : Kind) (are : AreSixCounts runner.crossings) (late : 4 ≤ place_of kind) (unfired : IfSome test (λ fires. fires (next_of kind runner.crossings) ≡ false)) where
      pub rolls_past : count_of (counted runner.crossings kind) Remount + one_if (awaits_remount new.stage) ≤ length old.records → count_of (counted runner.crossings kind) Remount + one_if (awaits_remount new.stage) ≤ own_most → IsRestarted old.records (counted runner.crossings kind) new.stage runner.answered → IsTallied test new (with_counted runner kind) at.Outside
      rolls_past remounts own restarted = record {
        asked = tally.asked;
        present = tt;
        records = rw (records, history) tally.records;
        enters = rw records (let was = tally.enters in let same = counted_there runner.crossings kind are Enter (λ is. omega (arith, is, late)) in omega (arith, was, same));
        finishes = rw records (let was = tally.finishes in let same = counted_there runner.crossings kind are Finish (λ is. omega (arith, is, late)) in omega (arith, was, same));
        remounts = omega (arith, size, remounts);
        own_remounts = λ not. rw (records, history) own;
        owed = has_not;
        passed = rw records (passed_back old.records (counted runner.crossings kind) runner.pages runner.answered lacks (passed_late kind are late) (counted_there runner.crossings kind are Leave (λ is. omega (arith, is, late)) ∙ left_none.1));
        taken = rw records (taken_go runner.crossings kind are test old.records tally.taken unfired);
        restarted = rw records restarted;
        entries = rw (records, history) tally.entries;
      }

  -- ---- a fault came

  module _ (kind : Kind) (are : AreSixCounts runner.crossings) (late : 4 ≤ place_of kind) (more : new.records ≡ old.records ++ fault_at runner.crossings kind (next_nth runner.crossings.counts kind) ∷ []) where
    longer : length new.records ≡ length old.records + 1
    longer = ap length more ∙ length-append old.records (fault_at runner.crossings kind (next_nth runner.crossings.counts kind) ∷ [])

    abbrev struck_records : List FaultRecord
    struck_records = old.records ++ fault_at runner.crossings kind (next_nth runner.crossings.counts kind) ∷ []

    -- none of those before the call has its entry
    struck_still : strikes_inside struck_records runner.crossings.caller runner.crossings.ordinal ≡ strikes_inside old.records runner.crossings.caller runner.crossings.ordinal
    struck_still =
        let nth : ℕ = next_nth runner.crossings.counts kind in
        let e = strikes_there old.records runner.crossings kind nth Enter (λ is. omega (arith, is, late)) in
        let g = strikes_there old.records runner.crossings kind nth Gather (λ is. omega (arith, is, late)) in
        let f = strikes_there old.records runner.crossings kind nth Finish (λ is. omega (arith, is, late)) in
        omega (arith, e, g, f)

    finish_still : strikes_of struck_records runner.crossings.caller runner.crossings.ordinal Finish ≡ strikes_of old.records runner.crossings.caller runner.crossings.ordinal Finish
    finish_still = strikes_there old.records runner.crossings kind (next_nth runner.crossings.counts kind) Finish (λ is. omega (arith, is, late))

    struck_late : HasPassedAtLeast struck_records (counted runner.crossings kind) 0 0 0
    struck_late =
        let was = passed_late kind are late in
        let twice = was.twice in
        let enters = was.enters in
        let gathers = was.gathers in
        let finishes = was.finishes in
        let nth : ℕ = next_nth runner.crossings.counts kind in
        let e = strikes_there old.records runner.crossings kind nth Enter (λ is. omega (arith, is, late)) in
        let g = strikes_there old.records runner.crossings kind nth Gather (λ is. omega (arith, is, late)) in
        let f = strikes_there old.records runner.crossings kind nth Finish (λ is. omega (arith, is, late)) in
        record { twice = omega (arith, twice, e, g, f); enters = omega (arith, enters, e, g, f); gathers = omega (arith, gathers, g, f); finishes = omega (arith, finishes, f) }

    pub rolls_struck : is_near (has_device old.history) old.records runner.crossings.caller runner.crossings.ordinal kind (next_nth runner.crossings.counts kind) ≡ true → count_of (counted runner.crossings kind) Remount + one_if (awaits_remount new.stage) ≤ length old.records + 1
        → count_of (counted runner.crossings kind) Remount + one_if (awaits_remount new.stage) ≤ own_most + 1
        → recoveries_of old.records runner.crossings.caller runner.crossings.ordinal ≤ count_of (counted runner.crossings kind) Remount
        → (awaits_remount new.stage ≡ true) ⊎ (new.stage ≡ stage.Failed) → IsTallied test new (with_counted runner kind) at.Outside
    rolls_struck near remounts own all on = record {
      asked = tally.asked;
      present = tt;
      records = rw (more, history) (tallied_push old.records old.history (fault_at runner.crossings kind (next_nth runner.crossings.counts kind)) tally.records near (next_more runner.crossings.counts kind).1);
      enters = rw more (let was = tally.enters in let same = counted_there runner.crossings kind are Enter (λ is. omega (arith, is, late)) in omega (arith, was, same, struck_still));
      finishes = rw more (let was = tally.finishes in let same = counted_there runner.crossings kind are Finish (λ is. omega (arith, is, late)) in omega (arith, was, same, finish_still));
      remounts = omega (arith, longer, remounts);
      own_remounts = λ not. rw (more, history)
          (let one_more = recoveries_late old.records runner.crossings kind (next_nth runner.crossings.counts kind) late in
          let grows = owed_grows old.records (fault_at runner.crossings kind (next_nth runner.crossings.counts kind)) (has_device old.history) in omega (arith, own, one_more, grows));
      owed = has_not;
      passed = subst (λ (rs : List FaultRecord). HasPassedPoints rs (counted runner.crossings kind) runner.pages runner.answered at.Outside) (sym more)
          (passed_back struck_records (counted runner.crossings kind) runner.pages runner.answered lacks struck_late (counted_there runner.crossings kind are Leave (λ is. omega (arith, is, late)) ∙ left_none.1));
      taken = subst (λ (rs : List FaultRecord). (other : Kind) → TakesUpTo test rs runner.crossings.caller runner.crossings.ordinal other (count_of (counted runner.crossings kind) other)) (sym more)
          (taken_struck runner.crossings kind are test old.records tally.taken);
      restarted = subst (λ (rs : List FaultRecord). IsRestarted rs (counted runner.crossings kind) new.stage runner.answered) (sym more)
          (let most = recoveries_most old.records runner.crossings kind (next_nth runner.crossings.counts kind) in inr (lacks, omega (arith, most, all), on));
      entries = subst (λ (es : List Entry). AllByRecursion (IsPast test new.records (counted runner.crossings kind) runner.answered) es) (sym history)
          (subst (λ (rs : List FaultRecord). AllByRecursion (IsPast test rs (counted runner.crossings kind) runner.answered) old.history) (sym more)
          (all_map (IsPast test old.records runner.crossings runner.answered) (IsPast test struck_records runner.crossings runner.answered) old.history
          (λ entry is. past_push test old.records runner.crossings kind (next_nth runner.crossings.counts kind) runner.answered entry is) tally.entries));
    }

-- ---- by the answers of a step

module _ (test : Option (Crossing → Bool)) (old new : Sight) (runner : Runner) (are : AreSixCounts runner.crossings) (small : length old.records ≤ 256) (tally : IsTallied test old runner at.Outside) (lacks : runner.answered ≡ false) where
  -- the file system is started anew: after each fault
  all_restarted : awaits_remount old.stage ≡ true → recoveries_of old.records runner.crossings.caller runner.crossings.ordinal ≤ count_of (counted runner.crossings Remount) Remount
  all_restarted awaits =
      let most = restarted_most old.records runner.crossings old.stage runner.answered tally.restarted in
      let few = tally.remounts in
      let one : one_if (awaits_remount old.stage) ≡ 1 = ap one_if awaits in
      let counts = counted_more runner.crossings Remount are (count_of runner.crossings Remount) (omega arith) (omega (arith, few, small)) in
      omega (arith, most, counts)

  -- or was already
  none_owed : awaits_remount old.stage ≡ false → recovers old.stage ≡ true → recoveries_of old.records runner.crossings.caller runner.crossings.ordinal ≤ count_of runner.crossings Remount
  none_owed not recovered = elim tally.restarted [
    | inl all ↦ all
    | inr lacks_it ↦ elim lacks_it.2 [
      | inl awaits ↦ absurd (let wrong : true ≡ false = sym awaits ∙ not in cc)
      | inr fails ↦ absurd (let wrong : true ≡ false = sym recovered ∙ ap recovers fails in cc)
    ]
  ]

  still_at : (crossings : Crossings) → crossings ≡ runner.crossings → IsTallied test new runner at.Outside → IsTallied test new (with_crossings runner crossings) at.Outside
  still_at crossings is now = subst (λ (c : Crossings). IsTallied test new (with_crossings runner c) at.Outside) (sym is) now

  steps_none : (crossings : Crossings) → crossings ≡ runner.crossings → Rolls old new → awaits_remount new.stage ≡ awaits_remount old.stage → IsTallied test new (with_crossings runner crossings) at.Outside
  steps_none crossings is rolls same =
      let fewer : one_if (awaits_remount new.stage) ≡ one_if (awaits_remount old.stage) = ap one_if same in
      still_at crossings is (rolls_none test old new runner tally lacks rolls.waits.counts.history rolls.records rolls.recovered (λ awaits. inl (same ∙ awaits)) (omega (arith, fewer)))

  fault_is : (fault : FaultRecord) → fault.caller ≡ runner.crossings.caller → fault.ordinal ≡ runner.crossings.ordinal → fault.nth ≡ next_nth runner.crossings.counts fault.kind → fault ≡ fault_at runner.crossings fault.kind (next_nth runner.crossings.counts fault.kind)
  fault_is fault caller ordinal nth =
      let kind : Kind = fault.kind in
      ap (λ n. record { caller = n; ordinal = fault.ordinal; kind = kind; nth = fault.nth }) caller ∙ ap (λ n. record { caller = runner.crossings.caller; ordinal = n; kind = kind; nth = fault.nth }) ordinal ∙ ap (fault_at runner.crossings kind) nth

  steps_struck : (crossings : Crossings) → StrikesStep test runner.crossings crossings old new → (awaits_remount new.stage ≡ true) ⊎ (new.stage ≡ stage.Failed) → IsTallied test new (with_crossings runner crossings) at.Outside
  steps_struck crossings strikes on =
      let kind : Kind = strikes.fault.kind in
      let more : new.records ≡ old.records ++ fault_at runner.crossings kind (next_nth runner.crossings.counts kind) ∷ [] = strikes.records ∙ ap (λ (f : FaultRecord). old.records ++ f ∷ []) (fault_is strikes.fault strikes.taken.caller strikes.taken.ordinal strikes.next.nth) in
      let most = one_most (awaits_remount new.stage) in
      subst (λ (c : Crossings). IsTallied test new (with_crossings runner c) at.Outside) (sym strikes.next.counts) (elim strikes.next.point [
        | inl dropped ↦ (
            let before : one_if (awaits_remount old.stage) ≡ 1 = ap (λ (s : Stage). one_if (awaits_remount s)) dropped.0 in
            let was = tally.remounts in
            let own = tally.own_remounts lacks in
            subst (λ (k : Kind). IsTallied test new (with_counted runner k) at.Outside) (sym dropped.1)
            (rolls_struck test old new runner tally lacks strikes.waits.counts.history Remount are (omega arith) (subst (λ (k : Kind). new.records ≡ old.records ++ fault_at runner.crossings k (next_nth runner.crossings.counts k) ∷ []) dropped.1 more)
            (let next = (next_more runner.crossings.counts Remount).0 in le-leb (next_nth runner.crossings.counts Remount) (own_most test old new runner tally lacks strikes.waits.counts.history) (omega (arith, next, own, before)))
            (let counts = counted_most runner.crossings Remount are in omega (arith, counts, was, before, most))
            (let counts = counted_most runner.crossings Remount are in omega (arith, counts, own, before, most)) (all_restarted (ap awaits_remount dropped.0)) on))
        | inr replays ↦ (
            let was = tally.remounts in
            let own = tally.own_remounts lacks in
            subst (λ (k : Kind). IsTallied test new (with_counted runner k) at.Outside) (sym replays.1)
            (rolls_struck test old new runner tally lacks strikes.waits.counts.history Replay are (omega arith) (subst (λ (k : Kind). new.records ≡ old.records ++ fault_at runner.crossings k (next_nth runner.crossings.counts k) ∷ []) replays.1 more) refl
            (let same = counted_there runner.crossings Replay are Remount (λ is. omega (arith, is)) in omega (arith, same, was, most))
            (let same = counted_there runner.crossings Replay are Remount (λ is. omega (arith, is)) in omega (arith, same, own, most))
            (let same = counted_there runner.crossings Replay are Remount (λ is. omega (arith, is)) in let all = none_owed replays.0 strikes.recovered in omega (arith, same, all)) on))
      ])

  rolled : (crossings : Crossings) (answer : StepAnswer) → Steps test (Some runner.crossings) (Some crossings) old new answer → (Ends answer → ⊥) → IsTallied test new (with_crossings runner crossings) at.Outside
  rolled crossings stepped.Idle steps goes = absurd (goes tt)
  rolled crossings (stepped.Unwound ticket) steps goes = steps_none crossings steps.3 steps.1 steps.2
  rolled crossings (stepped.Failed faults) steps goes = elim steps.1 [
    | inl plain ↦ (
        let none : one_if (awaits_remount new.stage) ≡ 0 = ap (λ (s : Stage). one_if (awaits_remount s)) steps.0 in
        still_at crossings plain.3 (rolls_none test old new runner tally lacks plain.1.counts.history plain.0 plain.2 (λ awaits. inr steps.0) (omega (arith, none))))
    | inr strikes ↦ steps_struck crossings strikes (inr steps.0)
  ]
  rolled crossings stepped.Dropped steps goes = steps_none crossings steps.3 steps.1 steps.2
  rolled crossings stepped.Remounted steps goes =
      let past = steps.3 in
      let before : one_if (awaits_remount old.stage) ≡ 1 = ap (λ (s : Stage). one_if (awaits_remount s)) steps.0 in
      let none : one_if (awaits_remount new.stage) ≡ 0 = ap (λ (s : Stage). one_if (awaits_remount s)) steps.1 in
      let was = tally.remounts in
      let counts = counted_most runner.crossings Remount are in
      subst (λ (c : Crossings). IsTallied test new (with_crossings runner c) at.Outside) (sym past.counts)
      (rolls_past test old new runner tally lacks steps.2.waits.counts.history steps.2.records Remount are (omega arith) past.unfired (omega (arith, was, before, none, counts)) (let own = tally.own_remounts lacks in omega (arith, own, before, none, counts)) (inl (all_restarted (ap awaits_remount steps.0))))
  rolled crossings stepped.Reopened steps goes = steps_none crossings steps.3 steps.1 steps.2
  rolled crossings (stepped.Replayed n) steps goes =
      let past = steps.3 in
      let same = counted_there runner.crossings Replay are Remount (λ is. omega (arith, is)) in
      let awaits : one_if (awaits_remount new.stage) ≡ one_if (awaits_remount old.stage) = ap one_if steps.2 in
      let was = tally.remounts in
      subst (λ (c : Crossings). IsTallied test new (with_crossings runner c) at.Outside) (sym past.counts)
      (rolls_past test old new runner tally lacks steps.1.waits.counts.history steps.1.records Replay are (omega arith) past.unfired (omega (arith, was, same, awaits)) (let own = tally.own_remounts lacks in omega (arith, own, same, awaits))
      (goes_on_restarted test old new runner tally lacks steps.1.waits.counts.history (counted runner.crossings Replay) refl refl same steps.1.recovered (λ a. inl (steps.2 ∙ a))))
  rolled crossings stepped.Resumed steps goes =
      let none : one_if (awaits_remount new.stage) ≡ 0 = ap (λ (s : Stage). one_if (awaits_remount s)) steps.0 in
      still_at crossings steps.4 (rolls_none test old new runner tally lacks steps.2.waits.counts.history steps.2.records steps.2.recovered (λ awaits. absurd (let wrong : true ≡ false = sym awaits ∙ steps.3 in cc)) (omega (arith, none)))
  rolled crossings (stepped.Again faults) steps goes = steps_struck crossings steps.1 (inl (ap awaits_remount steps.0))
  rolled crossings stepped.Device steps goes = absurd (goes tt)
  rolled crossings stepped.NoMemory steps goes = absurd (goes tt)

  rolled_by : (crossings : Crossings) (answer : StepAnswer) → runner.at ≡ at.Outside → Steps test (Some runner.crossings) (Some crossings) old new answer → (Ends answer → ⊥) → (now : Runner) → now ≡ with_crossings runner crossings → IsTallied test new now now.at
  rolled_by crossings answer outside steps goes now is =
      subst (λ (r : Runner). IsTallied test new r r.at) (sym is) (subst (IsTallied test new (with_crossings runner crossings)) (sym outside) (rolled crossings answer steps goes))

module _ (calls : List JobCall) (test : Option (Crossing → Bool)) (old : Sight) (runner : Runner) (call : Call) (may : MayStep calls test old runner call) (rests : IsResting old.incarnation runner.at) (waiting : IsWaiting (old.seats runner.crossings.caller)) where
  lacks_it : runner.answered ≡ false
  lacks_it = marked_here runner.answered (old.seats runner.crossings.caller).flight waiting.0 waiting.1 waiting.2 may.served.marked

  outside_is : IsTallied test old runner runner.at → runner.at ≡ at.Outside
  outside_is tally = rests_outside old runner.crossings.caller runner.at tally.present rests

  few : length old.records ≤ 256
  few = let records = may.right.records in let limit = may.right.limit in omega (arith, records, limit)

  as_outside : IsTallied test old runner runner.at → IsTallied test old runner at.Outside
  as_outside tally = subst (IsTallied test old runner) (outside_is tally) tally

  tallied_on : (new : Sight) (now : Runner) (by : Option Crossings) (answer : StepAnswer) → GoOn (Some runner.crossings) by → Steps test (Some runner.crossings) by old new answer → (Ends answer → ⊥) → CrossingsAreKept runner by now → IsTallied test old runner runner.at
      → IsTallied test new now now.at
  tallied_on new now None answer on steps goes keeps tally = absurd keeps
  tallied_on new now (Some crossings) answer on steps goes keeps tally = rolled_by test old new runner may.counts few (as_outside tally) lacks_it crossings answer (outside_is tally) steps goes now keeps

  pub tallied_roll : (new : Sight) (now : Runner) (by : Option Crossings) (answer : StepAnswer) → GoOn (Some runner.crossings) by → Steps test (Some runner.crossings) by old new answer → (Ends answer → ⊥) → CrossingsAreKept runner by now → IsTallied test old runner runner.at
      → TalliedBy test new now (rolled_went answer)
  tallied_roll new now by stepped.Idle on steps goes keeps tally = absurd (goes tt)
  tallied_roll new now by (stepped.Unwound ticket) on steps goes keeps tally = tallied_on new now by (stepped.Unwound ticket) on steps goes keeps tally
  tallied_roll new now by (stepped.Failed faults) on steps goes keeps tally = tallied_on new now by (stepped.Failed faults) on steps goes keeps tally
  tallied_roll new now by stepped.Dropped on steps goes keeps tally = tallied_on new now by stepped.Dropped on steps goes keeps tally
  tallied_roll new now by stepped.Remounted on steps goes keeps tally = tallied_on new now by stepped.Remounted on steps goes keeps tally
  tallied_roll new now by stepped.Reopened on steps goes keeps tally = tallied_on new now by stepped.Reopened on steps goes keeps tally
  tallied_roll new now by (stepped.Replayed n) on steps goes keeps tally = tallied_on new now by (stepped.Replayed n) on steps goes keeps tally
  tallied_roll new now by stepped.Resumed on steps goes keeps tally = tallied_on new now by stepped.Resumed on steps goes keeps tally
  tallied_roll new now by (stepped.Again faults) on steps goes keeps tally = tallied_on new now by (stepped.Again faults) on steps goes keeps tally
  tallied_roll new now by stepped.Device on steps goes keeps tally = absurd (goes tt)
  tallied_roll new now by stepped.NoMemory on steps goes keeps tally = absurd (goes tt)

  pub tallied_device : (new : Sight) (by : Option Crossings) → GoOn (Some runner.crossings) by → Steps test (Some runner.crossings) by old new stepped.Device → IsTallied test old runner runner.at → IsBetween test new (advanced runner)
  tallied_device new None on steps tally = absurd on
  tallied_device new (Some crossings) on steps tally =
      let made : Answers runner.crossings.caller waiting.0 reply.Device old new = steps.1 waiting.0 waiting.1 in
      let at_it = subst (IsAtBy (calls_of calls runner.crossings.caller) (calls_in old.history runner.crossings.caller) runner.done (old.seats runner.crossings.caller).begun) waiting.1 may.served.calls in
      ends_unplain test old new runner made.stays.records made.stays.stage runner.at tally lacks_it (entry_of runner.crossings.caller waiting.0 None reply.Device) refl (at_it.1 ∙ sym may.served.ordinal) refl (λ wrong. absurd (let no : false ≡ true = wrong in cc)) (λ awaits. refl) made.history
