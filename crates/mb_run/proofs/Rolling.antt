-- A recovery that a call runs itself, and calls of others.
use Rattle.std.proofs.Common.{◌≡◌, ◌≢◌, List, [], ◌∷◌, ◌++◌, ℕ, ◌+◌, ◌<◌, ◌≤◌, Bool, true, false, length, inl, inr, refl, ap, sym, subst, ◌∙◌, arith, Option, None, Some, IfSome, length-append}
use Rattle.std.specs.List.{AllByRecursion}
use Rattle.std.proofs.lemmas.List.{append-nil}
use Rattle.mb_edge.specs.declared.crossings.Crossing.{Crossing}
use Rattle.mb_edge.specs.declared.crossings.Crossings.{Crossings}
use Rattle.mb_kinds.specs.Own.{own}
use Rattle.mb_kinds.specs.declared.calls.Call.{Call}
use Rattle.mb_kinds.specs.declared.entries.Entry.{Entry}
use Rattle.mb_kinds.specs.declared.entries.Flight.{Flight}
use Rattle.mb_kinds.specs.declared.faults.FaultRecord.{FaultRecord}
use Rattle.mb_kinds.specs.declared.faults.Ticket.{Ticket}
use Rattle.mb_kinds.specs.declared.replies.Reply.TheVariants as reply
use Rattle.mb_edge.specs.Crossings.{place_of}
use Rattle.mb_kinds.specs.declared.faults.Kind.{Kind}
use Rattle.mb_kinds.specs.declared.faults.Kind.TheVariants.{Enter, Remount, Replay}
use Rattle.mb_run.specs.Entering.{EntersIn}
use Rattle.mb_run.specs.Recovering.{StepEndsByDevice, GoOn, CrossingsGoOn, IsStruckNext, Rolls, RunsForFlight, Steps, StrikesStep, Waits, counted}
use Rattle.mb_run.specs.Runs.{TakesUpTo, strikes_inside}
use Rattle.mb_run.specs.Served.{ActsAlone, AreSixCounts, AreSound, Did, IsAtBy, IsCounted, IsPastOnce, IsResting, IsServedSoFar, IsStanding, CrossingsAreKept, MayStep, Nears, Rolled, advanced, with_crossings, busy, calls_in, calls_of, rank}
use Rattle.mb_run.specs.Sights.{IsOld, IsOrderlyInSight, IsWaiting, Limits, Sight, one_if, recovers}
use Rattle.mb_core_spec.specs.Copies.{PagesState}
use Rattle.mb_run.specs.declared.runner.At.{At}
use Rattle.mb_run.specs.declared.runner.At.TheVariants as at
use Rattle.mb_jobs.specs.declared.jobs.JobCall.{JobCall}
use Rattle.mb_core_spec.specs.declared.stages.Stage.{Stage}
use Rattle.mb_core_spec.specs.declared.stages.Stage.TheVariants as stage
use Rattle.mb_run.specs.Tallies.{count_of}
use Rattle.mb_run.specs.declared.answers.StepAnswer.{StepAnswer}
use Rattle.mb_run.specs.declared.answers.StepAnswer.TheVariants as stepped
use Rattle.mb_run.specs.declared.progress.Went.{Went}
use Rattle.mb_run.specs.declared.progress.Went.TheVariants as went
use Rattle.mb_run.specs.declared.runner.Runner.{Runner}
use Rattle.mb_run.proofs.Acting.{acts_same}
use Rattle.mb_run.proofs.Counting.{counted_on, counted_push, sound_push}
use Rattle.mb_run.proofs.Entered.{did_answer}
use Rattle.mb_run.proofs.Entering.{enters_on, others_enter}
use Rattle.mb_run.proofs.TallyRecords.{counted_there, up_to_on}
use Rattle.mb_run.proofs.Openings.{line_open}
use Rattle.mb_run.proofs.Balance.{balanced_same, marked_here}
use Rattle.mb_run.proofs.Late.{recovers_not_failed}
use Rattle.mb_run.proofs.Lines.{line_same}
use Rattle.mb_run.proofs.Firsts.{firsts_still}
use Rattle.mb_run.proofs.Lists.{all_map, all_both}
use Rattle.mb_run.proofs.Once.{inside_moves, one_apart, one_most, others_fault, past_moves, recovery_apart, strikes_apart}
use Rattle.mb_run.proofs.Struck.{rank_old}
use Rattle.mb_run.proofs.Trails.{trail_marks}
use Rattle.mb_run.proofs.Timely.{timely_refl, timely_waits}
use Rattle.mb_run.proofs.Twice.{is_inside}

pub not_running : (s : Sight) → recovers s.stage ≡ true → s.stage ≡ stage.Running → ⊥
not_running s recovered runs = let stopped : recovers s.stage ≡ false = ap recovers runs in let both : true ≡ false = sym recovered ∙ stopped in cc

acts_waits : (caller : ℕ) (old new : Sight) (more : List FaultRecord) → Waits old new → recovers old.stage ≡ true → new.records ≡ old.records ++ more → AllByRecursion (λ (fault : FaultRecord). fault.caller ≡ caller) more → ActsAlone caller old new
acts_waits caller old new more waits recovered records mine = record {
  config = waits.config;
  seats = λ other apart. waits.seats other;
  own = λ other apart. ap (λ h. own h other) waits.counts.history;
  entries = [];
  grown = waits.counts.history ∙ sym (append-nil old.history);
  theirs = tt;
  more = more;
  records = records;
  mine = mine;
  later = omega (arith, waits.incarnation);
  runs = λ same running. absurd (not_running old recovered running);
  copies = λ same running other apart. absurd (not_running old recovered running);
  stales = λ same running other apart. absurd (not_running old recovered running);
  calm = λ same. waits.incarnation;
  floor = elim waits.floor [ inl none ↦ inl none | inr same ↦ inr (inr same) ];
  firsts = firsts_still old new waits.counts.history waits.counts.begun waits.seats;
  trail = trail_marks old.trail new.trail waits.log.trail;
}

-- a call that is outside, or has an older ticket, stands as before
stands_waits : (old new : Sight) (caller : ℕ) (pages : PagesState) (a : At) → Waits old new → IsResting old.incarnation a → IsStanding old caller pages a → IsStanding new caller pages a
stands_waits old new caller pages at.Outside waits rests was = rw (waits.incarnation, waits.seats caller) was
stands_waits old new caller pages (at.Inside ticket) waits rests was = (
  rw (waits.seats caller) was.0,
  record {
    mine = was.1.mine;
    past = omega (arith, was.1.past, waits.incarnation);
    runs = λ present. absurd (rests (present ∙ waits.incarnation));
    same = λ present. absurd (rests (present ∙ waits.incarnation));
    tables = rw waits.config was.1.tables;
  },
)
stands_waits old new caller pages (at.Logged ticket) waits rests was = (rw (waits.seats caller) was.0, was.1, omega (arith, was.2, waits.incarnation))

rank_rests : (incarnation one other : ℕ) (pages : PagesState) (a : At) → IsResting incarnation a → rank incarnation one pages a ≡ rank incarnation other pages a
rank_rests incarnation one other pages at.Outside rests = refl
rank_rests incarnation one other pages (at.Inside ticket) rests = rank_old incarnation one pages (at.Inside ticket) ticket refl rests ∙ sym (rank_old incarnation other pages (at.Inside ticket) ticket refl rests)
rank_rests incarnation one other pages (at.Logged ticket) rests = refl

module _ (calls : List JobCall) (test : Option (Crossing → Bool)) (old : Sight) (runner : Runner) (call : Call) (may : MayStep calls test old runner call) (rests : IsResting old.incarnation runner.at) where
  waited : (new : Sight) (crossings : Crossings) → CrossingsGoOn runner.crossings crossings → Waits old new → AllByRecursion (IsCounted crossings) new.records
      → ((caller ordinal : ℕ) → strikes_inside new.records caller ordinal ≡ strikes_inside old.records caller ordinal) → IsServedSoFar (calls_of calls runner.crossings.caller) new runner.crossings.caller (with_crossings runner crossings)
  waited new crossings on waits all kept = record {
    caller_is = on.caller;
    ordinal = on.ordinal ∙ may.served.ordinal;
    calls = rw (waits.counts.history, waits.seats runner.crossings.caller) may.served.calls;
    stands = stands_waits old new runner.crossings.caller runner.pages runner.at waits rests may.served.stands;
    marked = rw (waits.seats runner.crossings.caller) may.served.marked;
    counted = all;
    past = rw waits.counts.history (past_moves old.records new.records runner.crossings crossings on.caller runner.answered runner.answered old.history (omega (arith, on.ordinal)) (λ entry low mine. kept entry.caller entry.ordinal) may.served.past);
    once = inside_moves old.records new.records runner.crossings crossings on.caller runner.at on.ordinal (kept runner.crossings.caller runner.crossings.ordinal) may.served.once;
  }

  -- the crossings are those of its call in flight
  pub runs_for : IsWaiting (old.seats runner.crossings.caller) → RunsForFlight old runner.crossings
  runs_for waiting =
      let at_it = subst (IsAtBy (calls_of calls runner.crossings.caller) (calls_in old.history runner.crossings.caller) runner.done (old.seats runner.crossings.caller).begun) waiting.1 may.served.calls in
      (waiting.0, waiting.1, waiting.2, may.served.ordinal ∙ sym at_it.1)

  counts_on : (crossings : Crossings) → CrossingsGoOn runner.crossings crossings → AreSixCounts crossings
  counts_on crossings on = record { six = on.six ∙ may.counts.six; fits = on.fits }

  -- a recovery has no fault point where a call enters
  abbrev pub EntersNoMore : Crossings → Type 0
  EntersNoMore crossings = count_of crossings Enter ≡ count_of runner.crossings Enter

  waited_entered : (new : Sight) (records : List FaultRecord) (crossings : Crossings) → CrossingsGoOn runner.crossings crossings → EntersNoMore crossings → Waits old new → new.records ≡ records
      → ((caller ordinal most : ℕ) → TakesUpTo test old.records caller ordinal Enter most → TakesUpTo test records caller ordinal Enter most)
      → ((caller ordinal : ℕ) → strikes_inside records caller ordinal ≡ strikes_inside old.records caller ordinal)
      → EntersIn test old runner runner.at → EntersIn test new (with_crossings runner crossings) runner.at
  waited_entered new records crossings on still waits are stays kept was =
      rw (waits.counts.history, are) (enters_on test old.records old.history runner.crossings runner.answered runner.at was records crossings on.caller on.ordinal still stays (λ c o mine. kept c o))

  -- a step forward
  pub rolls_near : (new : Sight) (crossings : Crossings) → CrossingsGoOn runner.crossings crossings → EntersNoMore crossings → Rolls old new → Nears calls test old new runner (with_crossings runner crossings)
  rolls_near new crossings on still rolls = record {
    same = on.caller;
    counts = counts_on crossings on;
    acts = acts_waits runner.crossings.caller old new [] rolls.waits rolls.recovered (rolls.records ∙ sym (append-nil old.records)) tt;
    lined = line_same runner.crossings.caller old new rolls.waits.config rolls.waits.counts (rolls.waits.seats runner.crossings.caller);
    balanced = balanced_same old new rolls.waits.counts;
    served = waited new crossings on rolls.waits (rw rolls.records (counted_on runner.crossings crossings old.records on may.served.counted)) (λ caller ordinal. ap (λ rs. strikes_inside rs caller ordinal) rolls.records);
    sound = rw rolls.records may.sound;
    entered = waited_entered new old.records crossings on still rolls.waits rolls.records (λ c o most taken. taken) (λ c o. refl);
    seals = timely_waits old new rolls.waits rolls.recovered;
  }

  counted_still : (crossings : Crossings) (kind : Kind) → place_of Enter ≢ place_of kind → crossings ≡ counted runner.crossings kind → EntersNoMore crossings
  counted_still crossings kind apart is = ap (λ (c : Crossings). count_of c Enter) is ∙ counted_there runner.crossings kind may.counts Enter apart

  struck_still : (crossings : Crossings) (was : Stage) (fault : FaultRecord) → IsStruckNext runner.crossings crossings was fault → EntersNoMore crossings
  struck_still crossings was fault next = counted_still crossings fault.kind (λ same. elim next.point [
    | inl remount ↦ (let is = ap place_of remount.1 in omega (arith, same, is))
    | inr replay ↦ (let is = ap place_of replay.1 in omega (arith, same, is))
  ]) next.counts

  -- the hook's fault in a recovery
  pub strikes_near : (new : Sight) (crossings : Crossings) → CrossingsGoOn runner.crossings crossings → StrikesStep test runner.crossings crossings old new → Nears calls test old new runner (with_crossings runner crossings)
  strikes_near new crossings on strikes = record {
    same = on.caller;
    counts = counts_on crossings on;
    acts = acts_waits runner.crossings.caller old new (strikes.fault ∷ []) strikes.waits strikes.recovered strikes.records (strikes.taken.caller, tt);
    lined = line_same runner.crossings.caller old new strikes.waits.config strikes.waits.counts (strikes.waits.seats runner.crossings.caller);
    balanced = balanced_same old new strikes.waits.counts;
    served = waited new crossings on strikes.waits (subst (AllByRecursion (IsCounted crossings)) (sym strikes.records)
        (counted_push test runner.crossings crossings old.records strikes.fault on strikes.taken may.served.counted))
        (λ caller ordinal. ap (λ rs. strikes_inside rs caller ordinal) strikes.records
        ∙ strikes_apart old.records (strikes.fault ∷ []) caller ordinal (one_apart caller ordinal strikes.fault (λ same. recovery_apart runner.crossings crossings old.stage strikes.fault strikes.next), tt));
    sound = subst (AreSound test) (sym strikes.records) (sound_push test runner.crossings crossings old.records strikes.fault strikes.taken may.served.counted may.sound);
    entered = waited_entered new (old.records ++ strikes.fault ∷ []) crossings on (struck_still crossings old.stage strikes.fault strikes.next) strikes.waits strikes.records
        (λ c o most taken. up_to_on test old.records (strikes.fault ∷ []) c o Enter most taken)
        (λ c o. strikes_apart old.records (strikes.fault ∷ []) c o (one_apart c o strikes.fault (λ same. recovery_apart runner.crossings crossings old.stage strikes.fault strikes.next), tt));
    seals = timely_waits old new strikes.waits strikes.recovered;
  }

  ranks : (new : Sight) → Waits old new → rank new.incarnation (new.stales runner.crossings.caller) runner.pages runner.at ≡ rank old.incarnation (old.stales runner.crossings.caller) runner.pages runner.at
  ranks new waits = ap (λ n. rank n (new.stales runner.crossings.caller) runner.pages runner.at) waits.incarnation
      ∙ rank_rests old.incarnation (new.stales runner.crossings.caller) (old.stales runner.crossings.caller) runner.pages runner.at rests

  limits : (new : Sight) → Waits old new → new.config.limit ≡ old.config.limit
  limits new waits = ap (λ (l : Limits). l.limit) waits.config

  busy_less : (new : Sight) → Waits old new → busy runner.crossings.caller new.floor ≤ busy runner.crossings.caller old.floor
  busy_less new waits = elim waits.floor [
    | inl none ↦ (let free : busy runner.crossings.caller new.floor ≡ 0 = ap (busy runner.crossings.caller) none in omega (arith, free))
    | inr same ↦ (let is : busy runner.crossings.caller new.floor ≡ busy runner.crossings.caller old.floor = ap (busy runner.crossings.caller) same in omega (arith, is))
  ]

  -- a step forward leaves fewer steps
  left_less : (new : Sight) → Rolls old new → new.left < old.left
  left_less new rolls = let shorter = rolls.waits.log.ops in let fewer = rolls.fewer in omega (arith, shorter, fewer)

  pub rolled_on : (new : Sight) (crossings : Crossings) → CrossingsGoOn runner.crossings crossings → EntersNoMore crossings → IsWaiting (old.seats runner.crossings.caller) → Rolls old new → recovers new.stage ≡ true → Rolled calls test old new runner (with_crossings runner crossings) went.On
  rolled_on new crossings on enters waiting rolls still =
      let same : length new.records ≡ length old.records = ap length rolls.records in
      let now : one_if (recovers new.stage) ≡ 1 = ap one_if still in
      let was : one_if (recovers old.stage) ≡ 1 = ap one_if rolls.recovered in
      record {
        nears = rolls_near new crossings on enters rolls;
        goes = (
          refl,
          refl,
          rw (rolls.waits.seats runner.crossings.caller) waiting,
          still,
          (omega (arith, same, limits new rolls.waits, left_less new rolls)),
          omega (arith, same, limits new rolls.waits, now, was, busy_less new rolls.waits, ranks new rolls.waits),
        );
      }

  records_more : (new : Sight) (crossings : Crossings) (strikes : StrikesStep test runner.crossings crossings old new) → length new.records ≡ length old.records + 1
  records_more new crossings strikes = ap length strikes.records ∙ length-append old.records (strikes.fault ∷ [])

  pub rolled_again : (new : Sight) (crossings : Crossings) → CrossingsGoOn runner.crossings crossings → IsWaiting (old.seats runner.crossings.caller) → StrikesStep test runner.crossings crossings old new → IsOrderlyInSight new → recovers new.stage ≡ true
      → Rolled calls test old new runner (with_crossings runner crossings) went.On
  rolled_again new crossings on waiting strikes right still =
      let more = records_more new crossings strikes in
      record {
        nears = strikes_near new crossings on strikes;
        goes = (
          refl,
          refl,
          rw (strikes.waits.seats runner.crossings.caller) waiting,
          still,
          (omega (arith, more, limits new strikes.waits, right.records, right.left)),
          omega (arith, more, limits new strikes.waits, right.records, one_most (recovers new.stage), busy_less new strikes.waits, ranks new strikes.waits),
        );
      }

  pub rolled_back : (new : Sight) (crossings : Crossings) → CrossingsGoOn runner.crossings crossings → EntersNoMore crossings → (waits : Waits old new) → new.records ≡ old.records → recovers old.stage ≡ true → recovers new.stage ≡ false
      → Rolled calls test old new runner (with_crossings runner crossings) went.Back
  rolled_back new crossings on enters waits records recovered over =
      let same : length new.records ≡ length old.records = ap length records in
      let now : one_if (recovers new.stage) ≡ 0 = ap one_if over in
      let was : one_if (recovers old.stage) ≡ 1 = ap one_if recovered in
      record {
        nears = record {
          same = on.caller;
          counts = counts_on crossings on;
          acts = acts_waits runner.crossings.caller old new [] waits recovered (records ∙ sym (append-nil old.records)) tt;
          lined = line_same runner.crossings.caller old new waits.config waits.counts (waits.seats runner.crossings.caller);
          balanced = balanced_same old new waits.counts;
          served = waited new crossings on waits (rw records (counted_on runner.crossings crossings old.records on may.served.counted)) (λ caller ordinal. ap (λ rs. strikes_inside rs caller ordinal) records);
          sound = rw records may.sound;
          entered = waited_entered new old.records crossings on enters waits records (λ c o most taken. taken) (λ c o. refl);
          seals = timely_waits old new waits recovered;
        };
        goes = (refl, refl, (omega (arith, same, limits new waits, now, was, busy_less new waits, ranks new waits)));
      }

  pub rolled_struck : (new : Sight) (crossings : Crossings) → CrossingsGoOn runner.crossings crossings → StrikesStep test runner.crossings crossings old new → IsOrderlyInSight new → Rolled calls test old new runner (with_crossings runner crossings) went.Back
  rolled_struck new crossings on strikes right =
      let more = records_more new crossings strikes in
      record {
        nears = strikes_near new crossings on strikes;
        goes = (refl, refl, (omega (arith, more, limits new strikes.waits, right.records, one_most (recovers new.stage), busy_less new strikes.waits, ranks new strikes.waits)));
      }

  -- the disk failed: the call is answered
  pub device_ends : (new : Sight) (crossings : Crossings) → CrossingsGoOn runner.crossings crossings → StepEndsByDevice (Some runner.crossings) old new → recovers old.stage ≡ true → (flight : Flight) → (old.seats runner.crossings.caller).flight ≡ Some flight → flight.answered ≡ false
      → Did calls test old new runner (advanced runner) went.Ended
  device_ends new crossings on ends recovered flight here lacks =
      let at_it = subst (IsAtBy (calls_of calls runner.crossings.caller) (calls_in old.history runner.crossings.caller) runner.done (old.seats runner.crossings.caller).begun) here may.served.calls in
      did_answer calls test old runner call may new flight reply.Device (ends flight here) refl (inr (recovers_not_failed old.stage recovered)) lacks (at_it.1, at_it.1, at_it.2, at_it.3)
      (λ made line. line_open runner.crossings.caller flight reply.Device old new made here line)
      (λ made. inl (record { was = flight; here = here; ordinal = refl; moment = refl }))

-- ---- what a caller's steps leave of another caller

older : (was now : ℕ) (flight : Option Flight) → was ≤ now → IsOld was flight → IsOld now flight
older was now None later old = tt
older was now (Some flight) later old = elim flight.ticket as (λ (t : Option Ticket). IfSome t (λ (k : Ticket). k.incarnation < was) → IfSome t (λ (k : Ticket). k.incarnation < now)) [
  | None ↦ λ h. h
  | Some ticket ↦ λ h. omega (arith, h, later)
] old

pub other_served : (list : List Call) (caller other : ℕ) (old new : Sight) (runner : Runner) → other ≢ caller → ActsAlone caller old new → IsServedSoFar list old other runner → IsServedSoFar list new other runner
other_served list caller other old new runner apart acts served = record {
  caller_is = served.caller_is;
  ordinal = served.ordinal;
  calls = rw (acts.own other apart, acts.seats other apart) served.calls;
  marked = rw (acts.seats other apart) served.marked;
  stands = elim runner.at as (λ a. IsStanding old other runner.pages a → IsStanding new other runner.pages a) [
    | at.Outside ↦ λ was. rw (acts.seats other apart) (older old.incarnation new.incarnation (old.seats other).flight acts.later was)
    | at.Inside ticket ↦ λ was. (
      rw (acts.seats other apart) was.0,
      record {
        mine = was.1.mine;
        past = omega (arith, was.1.past, acts.later);
        tables = rw acts.config was.1.tables;
        runs = λ present. (let same : new.incarnation ≡ old.incarnation = omega (arith, was.1.past, acts.later, present) in let then : ticket.incarnation ≡ old.incarnation = present ∙ same in acts.runs same (was.1.runs then));
        same = λ present. (let same : new.incarnation ≡ old.incarnation = omega (arith, was.1.past, acts.later, present) in let then : ticket.incarnation ≡ old.incarnation = present ∙ same in
            acts.copies same (was.1.runs then) other apart ∙ was.1.same then);
      },
    )
    | at.Logged ticket ↦ λ was. (rw (acts.seats other apart) was.0, was.1, omega (arith, was.2, acts.later))
  ] served.stands;
  counted = subst (AllByRecursion (IsCounted runner.crossings)) (sym acts.records) (all_both (IsCounted runner.crossings) old.records acts.more served.counted
      (all_map (λ (fault : FaultRecord). fault.caller ≡ caller) (IsCounted runner.crossings) acts.more (λ fault theirs mine. absurd (apart (sym served.caller_is ∙ sym mine ∙ theirs))) acts.mine));
  past = rw (acts.grown, acts.records) (all_both (IsPastOnce (old.records ++ acts.more) runner.crossings runner.answered) old.history acts.entries
      (past_moves old.records (old.records ++ acts.more) runner.crossings runner.crossings refl runner.answered runner.answered old.history (omega arith) (λ entry low mine. apart_from entry.caller entry.ordinal (λ theirs. apart (sym served.caller_is ∙ sym mine ∙ theirs))) served.past)
      (all_map (λ (entry : Entry). entry.caller ≡ caller) (IsPastOnce (old.records ++ acts.more) runner.crossings runner.answered) acts.entries (λ entry theirs mine. absurd (apart (sym served.caller_is ∙ sym mine ∙ theirs))) acts.theirs));
  once = rw acts.records (inside_moves old.records (old.records ++ acts.more) runner.crossings runner.crossings refl runner.at refl (apart_from runner.crossings.caller runner.crossings.ordinal (λ theirs. apart (sym served.caller_is ∙ theirs))) served.once);
} where
  apart_from : (mine ordinal : ℕ) → mine ≢ caller → strikes_inside (old.records ++ acts.more) mine ordinal ≡ strikes_inside old.records mine ordinal
  apart_from mine ordinal distinct = strikes_apart old.records acts.more mine ordinal (all_map (λ (fault : FaultRecord). fault.caller ≡ caller) (λ (fault : FaultRecord). is_inside mine ordinal fault ≡ false) acts.more
      (λ fault theirs. others_fault mine ordinal fault (λ same. distinct (sym same ∙ theirs))) acts.mine)

pub other_entered : (test : Option (Crossing → Bool)) (caller other : ℕ) (old new : Sight) (runner : Runner) → runner.crossings.caller ≡ other → other ≢ caller → ActsAlone caller old new → EntersIn test old runner runner.at → EntersIn test new runner runner.at
other_entered test caller other old new runner own apart acts was =
    let distinct : (one : ℕ) → one ≡ caller → one ≢ runner.crossings.caller = λ one theirs mine. apart (sym own ∙ sym mine ∙ theirs) in
    rw (acts.grown, acts.records) (others_enter test old.records acts.more old.history acts.entries runner.crossings runner.answered runner.at
    (all_map (λ (fault : FaultRecord). fault.caller ≡ caller) (λ (fault : FaultRecord). fault.caller ≢ runner.crossings.caller) acts.more (λ fault theirs. distinct fault.caller theirs) acts.mine)
    (all_map (λ (entry : Entry). entry.caller ≡ caller) (λ (entry : Entry). entry.caller ≢ runner.crossings.caller) acts.entries (λ entry theirs. distinct entry.caller theirs) acts.theirs) was)

-- ---- by the answers of a step

rolled_ended : (calls : List JobCall) (test : Option (Crossing → Bool)) (old new : Sight) (before now : Runner) → Did calls test old new before now went.Ended → Rolled calls test old new before now went.Ended
rolled_ended calls test old new before now did = record { nears = did.nears; goes = did.goes }

abbrev pub rolled_went : StepAnswer → Went
rolled_went (stepped.Failed faults) = went.Back
rolled_went stepped.Resumed = went.Back
rolled_went _ = went.On

abbrev pub Ends : StepAnswer → Type 0
Ends stepped.Idle = Unit {0}
Ends stepped.Device = Unit {0}
Ends stepped.NoMemory = Unit {0}
Ends _ = ⊥

module _ (calls : List JobCall) (test : Option (Crossing → Bool)) (old : Sight) (runner : Runner) (call : Call) (may : MayStep calls test old runner call) (rests : IsResting old.incarnation runner.at) (waiting : IsWaiting (old.seats runner.crossings.caller)) where
  none_still : (now : Crossings) → now ≡ runner.crossings → count_of now Enter ≡ count_of runner.crossings Enter
  none_still now same = ap (λ (c : Crossings). count_of c Enter) same

  pub did_roll : (new : Sight) (now : Crossings) (answer : StepAnswer) → CrossingsGoOn runner.crossings now → IsOrderlyInSight new → Steps test (Some runner.crossings) (Some now) old new answer → (Ends answer → ⊥)
      → Rolled calls test old new runner (with_crossings runner now) (rolled_went answer)
  did_roll new now stepped.Idle on right steps goes = absurd (goes tt)
  did_roll new now (stepped.Unwound ticket) on right steps goes = rolled_on calls test old runner call may rests new now on (none_still now steps.3) waiting steps.1 steps.0
  did_roll new now (stepped.Failed faults) on right steps goes = elim steps.1 [
    | inl plain ↦ rolled_back calls test old runner call may rests new now on (none_still now plain.3) plain.1 plain.0 plain.2 (ap recovers steps.0)
    | inr strikes ↦ rolled_struck calls test old runner call may rests new now on strikes right
  ]
  did_roll new now stepped.Dropped on right steps goes = rolled_on calls test old runner call may rests new now on (none_still now steps.3) waiting steps.1 steps.0
  did_roll new now stepped.Remounted on right steps goes = rolled_on calls test old runner call may rests new now on (counted_still calls test old runner call may rests now Remount (λ same. omega (arith, same)) steps.3.counts) waiting steps.2 (ap recovers steps.1)
  did_roll new now stepped.Reopened on right steps goes = rolled_on calls test old runner call may rests new now on (none_still now steps.3) waiting steps.1 steps.0
  did_roll new now (stepped.Replayed n) on right steps goes = rolled_on calls test old runner call may rests new now on (counted_still calls test old runner call may rests now Replay (λ same. omega (arith, same)) steps.3.counts) waiting steps.1 steps.0
  did_roll new now stepped.Resumed on right steps goes = rolled_back calls test old runner call may rests new now on (none_still now steps.4) steps.2.waits steps.2.records steps.2.recovered (ap recovers steps.0)
  did_roll new now (stepped.Again faults) on right steps goes = rolled_again calls test old runner call may rests new now on waiting steps.1 right (ap recovers steps.0)
  did_roll new now stepped.Device on right steps goes = absurd (goes tt)
  did_roll new now stepped.NoMemory on right steps goes = absurd (goes tt)

module _ (calls : List JobCall) (test : Option (Crossing → Bool)) (old : Sight) (runner : Runner) (call : Call) (may : MayStep calls test old runner call) (rests : IsResting old.incarnation runner.at) (waiting : IsWaiting (old.seats runner.crossings.caller)) where
  pub kept_roll : (new : Sight) (by : Option Crossings) (now : Runner) (answer : StepAnswer) → GoOn (Some runner.crossings) by → IsOrderlyInSight new → Steps test (Some runner.crossings) by old new answer → (Ends answer → ⊥) → CrossingsAreKept runner by now
      → Rolled calls test old new runner now (rolled_went answer)
  kept_roll new None now answer on right steps goes keeps = absurd keeps
  kept_roll new (Some crossings) now answer on right steps goes keeps =
      subst (λ (r : Runner). Rolled calls test old new runner r (rolled_went answer)) (sym keeps) (did_roll calls test old runner call may rests waiting new crossings answer on right steps goes)

  pub device_rolls : (new : Sight) (by : Option Crossings) → GoOn (Some runner.crossings) by → Steps test (Some runner.crossings) by old new stepped.Device → Rolled calls test old new runner (advanced runner) went.Ended
  device_rolls new None on steps = absurd on
  device_rolls new (Some crossings) on steps = rolled_ended calls test old new runner (advanced runner) (device_ends calls test old runner call may rests new crossings on steps.1 steps.0 waiting.0 waiting.1 waiting.2)

  pub rolled_nothing : (new : Sight) → new ≡ old → Rolled calls test old new runner runner went.NoMemory
  rolled_nothing new same = subst (λ (s : Sight). Rolled calls test old s runner runner went.NoMemory) (sym same) (record {
    nears = record { same = refl; counts = may.counts; acts = acts_same runner.crossings.caller old; lined = λ line. line; balanced = λ even. even; served = may.served; sound = may.sound; entered = λ was. was; seals = timely_refl old };
    goes = (refl, marked_here runner.answered (old.seats runner.crossings.caller).flight waiting.0 waiting.1 waiting.2 may.served.marked);
  })
