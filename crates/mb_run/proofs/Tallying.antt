-- A caller that acts alone: what its fault points and the core's events leave of the tally of its call.
use Rattle.std.proofs.Common.{◌≡◌, ◌≢◌, ◌⊎◌, List, [], ◌∷◌, ◌++◌, ℕ, zero, suc, ◌+◌, ◌-◌, ◌<◌, ◌≤◌, Bool, true, false, length, inl, inr, refl, ap, sym, subst, ◌∙◌, arith, Option, IfSome, length-append}
use Rattle.std.proofs.lemmas.Bool.{le-leb}
use Rattle.std.specs.List.{AllByRecursion}
use Rattle.mb_core_spec.specs.Copies.{PagesState, no_pages}
use Rattle.mb_core_spec.specs.declared.stages.Stage.{Stage}
use Rattle.mb_core_spec.specs.declared.stages.Stage.TheVariants as stage
use Rattle.mb_edge.specs.Crossings.{next_nth, place_of}
use Rattle.mb_edge.specs.declared.crossings.Crossing.{Crossing}
use Rattle.mb_edge.specs.declared.crossings.Crossings.{Crossings}
use Rattle.mb_kinds.specs.declared.entries.Entry.{Entry}
use Rattle.mb_kinds.specs.declared.faults.FaultRecord.{FaultRecord}
use Rattle.mb_kinds.specs.declared.faults.Kind.{Kind}
use Rattle.mb_kinds.specs.declared.faults.Kind.TheVariants.{Enter, Gather, Finish, Leave, Remount, Replay}
use Rattle.mb_kinds.specs.declared.faults.Ticket.{Ticket}
use Rattle.mb_run.specs.Events.{StrikesCall}
use Rattle.mb_run.specs.Pages.{has}
use Rattle.mb_run.specs.Recovering.{awaits_remount, counted, next_of}
use Rattle.mb_core_spec.specs.Faults.{is_device}
use Rattle.mb_run.specs.Runs.{EntryTakesFaults, TakesFaults, TakesUpTo, has_device, is_near, is_of_running, is_owed, is_plain, recoveries_of, strikes_inside, strikes_of}
use Rattle.mb_run.specs.Served.{AreSixCounts, advanced, backed}
use Rattle.mb_run.specs.Sights.{Sight, one_if}
use Rattle.mb_run.specs.Tallies.{AreTallied, HasPassedAtLeast, HasPassedPoints, HasTallied, IsBetween, IsPast, IsUpToDate, IsRestarted, IsTallied, count_of, has_entered, has_finished, is_in, is_logged}
use Rattle.mb_run.specs.declared.runner.At.{At}
use Rattle.mb_run.specs.declared.runner.At.TheVariants as at
use Rattle.mb_run.specs.declared.runner.Runner.{Runner}
use Rattle.mb_run.proofs.Lists.{all_both, all_map}
use Rattle.mb_run.proofs.Once.{one_most}
use Rattle.mb_run.proofs.TallyRecords.{counted_here, counted_more, counted_most, counted_some, counted_there, fault_at, next_more, owed_device, owed_grows, owed_left, past_push, recoveries_left, recoveries_most, strikes_here, strikes_more, strikes_there, taken_go, taken_struck, tallied_later, tallied_push, up_to_less}

abbrev pub with_counted : Runner → Kind → Runner
with_counted runner kind = record runner { crossings = counted runner.crossings kind }

-- ---- which fault points a call passed

pub lacks_leave : (records : List FaultRecord) (crossings : Crossings) (pages : PagesState) (answered : Bool) → answered ≡ false → HasPassedPoints records crossings pages answered at.Outside → HasPassedAtLeast records crossings 0 0 0 × (count_of crossings Leave ≡ 0)
lacks_leave records crossings pages true is passed = cc
lacks_leave records crossings pages false is passed = passed

pub passed_back : (records : List FaultRecord) (crossings : Crossings) (pages : PagesState) (answered : Bool) → answered ≡ false → HasPassedAtLeast records crossings 0 0 0 → count_of crossings Leave ≡ 0 → HasPassedPoints records crossings pages answered at.Outside
passed_back records crossings pages true is least none = cc
passed_back records crossings pages false is least none = (least, none)

passed_left : (records : List FaultRecord) (crossings : Crossings) (pages : PagesState) (answered : Bool) → answered ≡ true → HasPassedAtLeast records crossings 1 1 1 → count_of crossings Leave ≢ 0 → HasPassedPoints records crossings pages answered at.Outside
passed_left records crossings pages true is finished some = (finished, some)
passed_left records crossings pages false is finished some = cc

pub passed_pages : (records : List FaultRecord) (crossings : Crossings) (one other : PagesState) (answered : Bool) → HasPassedPoints records crossings one answered at.Outside → HasPassedPoints records crossings other answered at.Outside
passed_pages records crossings one other true passed = passed
passed_pages records crossings one other false passed = passed

pub left_passed : (records : List FaultRecord) (crossings : Crossings) (pages : PagesState) (answered : Bool) → answered ≡ true → HasPassedPoints records crossings pages answered at.Outside → HasPassedAtLeast records crossings 1 1 1 × (count_of crossings Leave ≢ 0)
left_passed records crossings pages true is passed = passed
left_passed records crossings pages false is passed = cc

-- as many, or fewer
pub passed_less : (records : List FaultRecord) (crossings : Crossings) (entered gathered finished : ℕ) → HasPassedAtLeast records crossings entered gathered finished → HasPassedAtLeast records crossings 0 0 0
passed_less records crossings entered gathered finished least =
    let twice = least.twice in
    let enters = least.enters in
    let gathers = least.gathers in
    let finishes = least.finishes in
    record { twice = omega (arith, twice); enters = omega (arith, enters); gathers = omega (arith, gathers); finishes = omega (arith, finishes) }

-- wherever it stands
pub passed_any : (records : List FaultRecord) (crossings : Crossings) (pages : PagesState) (answered : Bool) (stand : At) → HasPassedPoints records crossings pages answered stand → HasPassedAtLeast records crossings 0 0 0
passed_any records crossings pages true at.Outside passed = passed_less records crossings 1 1 1 passed.0
passed_any records crossings pages false at.Outside passed = passed.0
passed_any records crossings pages answered (at.Inside ticket) passed = passed_less records crossings 1 (one_if (has pages 0)) 0 passed.0
passed_any records crossings pages answered (at.Logged ticket) passed = passed_less records crossings 1 1 1 passed.0

-- ---- how often the file system was started anew

pub restarted_same : (records : List FaultRecord) (before now : Crossings) (on : Stage) (answered : Bool) → now.caller ≡ before.caller → now.ordinal ≡ before.ordinal → count_of now Remount ≡ count_of before Remount → IsRestarted records before on answered
    → IsRestarted records now on answered
restarted_same records before now on answered caller ordinal same is =
    let owed : recoveries_of records now.caller now.ordinal ≡ recoveries_of records before.caller before.ordinal = ap (λ n. recoveries_of records n now.ordinal) caller ∙ ap (recoveries_of records before.caller) ordinal in
    elim is [ inl all ↦ inl (omega (arith, all, owed, same)) | inr lacks ↦ (let low = lacks.1 in inr (lacks.0, omega (arith, low, owed, same), lacks.2)) ]

-- after each fault, where the call has its entry
pub restarted_all : (records : List FaultRecord) (crossings : Crossings) (on : Stage) (answered : Bool) → answered ≡ true → IsRestarted records crossings on answered → recoveries_of records crossings.caller crossings.ordinal ≤ count_of crossings Remount
restarted_all records crossings on answered is restarted = elim restarted [ inl all ↦ all | inr lacks ↦ absurd (let wrong : true ≡ false = sym is ∙ lacks.0 in cc) ]

-- or where the volume runs
pub restarted_runs : (records : List FaultRecord) (crossings : Crossings) (on : Stage) (answered : Bool) → on ≡ stage.Running → IsRestarted records crossings on answered → recoveries_of records crossings.caller crossings.ordinal ≤ count_of crossings Remount
restarted_runs records crossings on answered runs restarted = elim restarted [
  | inl all ↦ all
  | inr lacks ↦ elim lacks.2 [
    | inl awaits ↦ absurd (let wrong : false ≡ true = ap awaits_remount (sym runs) ∙ awaits in cc)
    | inr fails ↦ absurd (let wrong : stage.Running ≡ stage.Failed = sym runs ∙ fails in cc)
  ]
]

-- after each but one
pub restarted_most : (records : List FaultRecord) (crossings : Crossings) (on : Stage) (answered : Bool) → IsRestarted records crossings on answered → recoveries_of records crossings.caller crossings.ordinal ≤ count_of crossings Remount + 1
restarted_most records crossings on answered restarted = elim restarted [ inl all ↦ omega (arith, all) | inr lacks ↦ lacks.1 ]

-- after each where it was a running volume that answered, and else after each but one
pub restarted_by : (records : List FaultRecord) (crossings : Crossings) (on : Stage) (answered runs : Bool) → (runs ≡ true → on ≡ stage.Running) → IsRestarted records crossings on answered
    → recoveries_of records crossings.caller crossings.ordinal + one_if runs ≤ count_of crossings Remount + 1
restarted_by records crossings on answered true is restarted = (let all = restarted_runs records crossings on answered (is refl) restarted in omega (arith, all))
restarted_by records crossings on answered false is restarted = (let most = restarted_most records crossings on answered restarted in omega (arith, most))

-- ---- a call ends

at_least_one : (n : ℕ) → n ≢ 0 → 1 ≤ n
at_least_one zero some = absurd (some refl)
at_least_one (suc n) some = omega arith

-- a call that passed so many fault points took their faults
module _ (test : Option (Crossing → Bool)) (crossings : Crossings) (records : List FaultRecord) (taken : (kind : Kind) → TakesUpTo test records crossings.caller crossings.ordinal kind (count_of crossings kind)) where
  of_own : (plain runs : ℕ) → HasPassedAtLeast records crossings plain plain plain → plain ≤ count_of crossings Leave → recoveries_of records crossings.caller crossings.ordinal + runs ≤ count_of crossings Remount + 1
      → TakesFaults test records crossings.caller crossings.ordinal plain runs
  of_own plain runs passed leaves restarted =
      let caller : ℕ = crossings.caller in
      let ordinal : ℕ = crossings.ordinal in
      let less : (kind : Kind) (n : ℕ) → n ≤ count_of crossings kind → TakesUpTo test records caller ordinal kind n = λ kind n low. up_to_less test records caller ordinal kind (count_of crossings kind) n low (taken kind) in
      record {
        twice = passed.twice;
        enters = less Enter (strikes_inside records caller ordinal + plain) passed.enters;
        gathers = less Gather (strikes_of records caller ordinal Gather + strikes_of records caller ordinal Finish + plain) passed.gathers;
        finishes = less Finish (strikes_of records caller ordinal Finish + plain) passed.finishes;
        leaves = less Leave plain leaves;
        remounts = less Remount (recoveries_of records caller ordinal + runs - 1) (omega (arith, restarted));
      }

  -- its entry, which is plain or not
  pub of_entry : (entry : Entry) → entry.caller ≡ crossings.caller → entry.ordinal ≡ crossings.ordinal → ((is_plain entry.reply ≡ false) ⊎ (HasPassedAtLeast records crossings 1 1 1 × (count_of crossings Leave ≢ 0)))
      → HasPassedAtLeast records crossings 0 0 0 → recoveries_of records crossings.caller crossings.ordinal + one_if (is_of_running entry.reply) ≤ count_of crossings Remount + 1 → EntryTakesFaults test records entry
  of_entry entry caller ordinal finished least restarted =
      let runs : ℕ = one_if (is_of_running entry.reply) in
      let own : TakesFaults test records crossings.caller crossings.ordinal (one_if (is_plain entry.reply)) runs = by_plain (is_plain entry.reply) finished in
      subst (λ n. TakesFaults test records n entry.ordinal (one_if (is_plain entry.reply)) runs) (sym caller) (subst (λ n. TakesFaults test records crossings.caller n (one_if (is_plain entry.reply)) runs) (sym ordinal) own)
    where
      by_plain : (plain : Bool) → ((plain ≡ false) ⊎ (HasPassedAtLeast records crossings 1 1 1 × (count_of crossings Leave ≢ 0)))
          → TakesFaults test records crossings.caller crossings.ordinal (one_if plain) (one_if (is_of_running entry.reply))
      by_plain false told = of_own 0 (one_if (is_of_running entry.reply)) least (omega arith) restarted
      by_plain true (inl wrong) = absurd (let no : true ≡ false = wrong in cc)
      by_plain true (inr all) = of_own 1 (one_if (is_of_running entry.reply)) all.0 (at_least_one (count_of crossings Leave) all.1) restarted

-- its entry, and those before it, have taken their faults
own_or_past : (test : Option (Crossing → Bool)) (records : List FaultRecord) (crossings : Crossings) → ((entry : Entry) → entry.caller ≡ crossings.caller → entry.ordinal ≡ crossings.ordinal → EntryTakesFaults test records entry)
    → (entry : Entry) → IsPast test records crossings true entry → EntryTakesFaults test records entry
own_or_past test records crossings own entry (inl mine) = own entry mine.0 mine.1
own_or_past test records crossings own entry (inr past) = past.1

pub all_taken : (test : Option (Crossing → Bool)) (crossings : Crossings) (records : List FaultRecord) → ((kind : Kind) → TakesUpTo test records crossings.caller crossings.ordinal kind (count_of crossings kind)) → HasPassedAtLeast records crossings 1 1 1
    → count_of crossings Leave ≢ 0 → recoveries_of records crossings.caller crossings.ordinal ≤ count_of crossings Remount → (history : List Entry) → AllByRecursion (IsPast test records crossings true) history → AllByRecursion (EntryTakesFaults test records) history
all_taken test crossings records taken finished left restarted history all =
    all_map (IsPast test records crossings true) (EntryTakesFaults test records) history
    (own_or_past test records crossings (λ entry caller ordinal. of_entry test crossings records taken entry caller ordinal (inr (finished, left)) (passed_less records crossings 1 1 1 finished)
    (let one = one_most (is_of_running entry.reply) in omega (arith, restarted, one)))) all

one_earlier : (test : Option (Crossing → Bool)) (records : List FaultRecord) (crossings : Crossings) (answered : Bool) (entry : Entry) → IsPast test records crossings answered entry → entry.caller ≡ crossings.caller → entry.ordinal < crossings.ordinal + 1
one_earlier test records crossings answered entry (inl mine) own = (let here = mine.1 in omega (arith, here))
one_earlier test records crossings answered entry (inr past) own = (let low = past.0 own in omega (arith, low))

pub all_earlier : (test : Option (Crossing → Bool)) (records : List FaultRecord) (crossings : Crossings) (answered : Bool) (history : List Entry) → AllByRecursion (IsPast test records crossings answered) history
    → AllByRecursion (λ (entry : Entry). entry.caller ≡ crossings.caller → entry.ordinal < crossings.ordinal + 1) history
all_earlier test records crossings answered history all = all_map (IsPast test records crossings answered) (λ (entry : Entry). entry.caller ≡ crossings.caller → entry.ordinal < crossings.ordinal + 1) history (one_earlier test records crossings answered) all

pub between : (test : Option (Crossing → Bool)) (sight : Sight) (runner : Runner) → HasTallied test sight → AllByRecursion (λ (entry : Entry). entry.caller ≡ runner.crossings.caller → entry.ordinal < runner.crossings.ordinal + 1) sight.history
    → IsBetween test sight (advanced runner)
between test sight runner tallied earlier = (tallied, record { asked = refl; outside = refl; lacks = refl; counts = refl; earlier = earlier })

-- where it leaves, the other fault points are as they were
passed_leave : (records : List FaultRecord) (crossings : Crossings) → AreSixCounts crossings → HasPassedAtLeast records crossings 1 1 1 → HasPassedAtLeast records (counted crossings Leave) 1 1 1
passed_leave records crossings are was =
    let twice = was.twice in
    let enters = was.enters in
    let gathers = was.gathers in
    let finishes = was.finishes in
    let e = counted_there crossings Leave are Enter (λ same. omega (arith, same)) in
    let g = counted_there crossings Leave are Gather (λ same. omega (arith, same)) in
    let f = counted_there crossings Leave are Finish (λ same. omega (arith, same)) in
    record { twice = twice; enters = omega (arith, enters, e); gathers = omega (arith, gathers, g); finishes = omega (arith, finishes, f) }

-- its reply is handed out, and nothing else changes
module _ (test : Option (Crossing → Bool)) (old new : Sight) (runner : Runner) (records : new.records ≡ old.records) (on : new.stage ≡ old.stage) where
  tallied_still : AreTallied old.records new.history → (awaits_remount old.stage ≡ true → is_owed old.records (has_device new.history) ≡ true) → (m : ℕ) → m + one_if (awaits_remount old.stage) ≤ length old.records → AllByRecursion (EntryTakesFaults test old.records) new.history → HasTallied test new
  tallied_still are owes m fewer taken =
      let same : one_if (awaits_remount new.stage) ≡ one_if (awaits_remount old.stage) = ap (λ (s : Stage). one_if (awaits_remount s)) on in
      let size : length new.records ≡ length old.records = ap length records in
      record {
        records = rw records are;
        remounts = omega (arith, fewer, same, size);
        owed = rw (records, on) owes;
        taken = subst (λ (rs : List FaultRecord). AllByRecursion (EntryTakesFaults test rs) new.history) (sym records) taken;
      }

  -- a call that was struck where it left
  -- the entries stay
  are_still : new.history ≡ old.history → AreTallied old.records old.history → AreTallied old.records new.history
  are_still history are = subst (AreTallied old.records) (sym history) are

  owes_still : new.history ≡ old.history → (stand : At) → IsTallied test old runner stand → runner.answered ≡ true → awaits_remount old.stage ≡ true → is_owed old.records (has_device new.history) ≡ true
  owes_still history stand tally answered awaits = subst (λ (es : List Entry). is_owed old.records (has_device es) ≡ true) (sym history) (tally.owed answered awaits)

  pub ends_outside : IsTallied test old runner at.Outside → runner.answered ≡ true → new.history ≡ old.history → IsBetween test new (advanced runner)
  ends_outside tally answered history =
      let passed = left_passed old.records runner.crossings runner.pages runner.answered answered tally.passed in
      let past = subst (λ (b : Bool). AllByRecursion (IsPast test old.records runner.crossings b) old.history) answered tally.entries in
      let taken = all_taken test runner.crossings old.records tally.taken passed.0 passed.1 (restarted_all old.records runner.crossings old.stage runner.answered answered tally.restarted) old.history past in
      between test new runner (tallied_still (are_still history tally.records) (owes_still history at.Outside tally answered) (count_of runner.crossings Remount) tally.remounts (subst (λ (es : List Entry). AllByRecursion (EntryTakesFaults test old.records) es) (sym history) taken))
      (subst (λ (es : List Entry). AllByRecursion (λ (entry : Entry). entry.caller ≡ runner.crossings.caller → entry.ordinal < runner.crossings.ordinal + 1) es) (sym history) (all_earlier test old.records runner.crossings true old.history past))

  -- a call that left
  pub ends_left : AreSixCounts runner.crossings → (ticket : Ticket) → IsTallied test old runner (at.Logged ticket) → runner.answered ≡ true → IfSome test (λ fires. fires (next_of Leave runner.crossings) ≡ false) → new.history ≡ old.history
      → IsBetween test new (advanced (with_counted runner Leave))
  ends_left are ticket tally answered unfired history =
      let crossings : Crossings = counted runner.crossings Leave in
      let finished : HasPassedAtLeast old.records crossings 1 1 1 = passed_leave old.records runner.crossings are tally.passed.0 in
      let past = subst (λ (b : Bool). AllByRecursion (IsPast test old.records crossings b) old.history) answered tally.entries in
      let same : count_of crossings Remount ≡ count_of runner.crossings Remount = counted_there runner.crossings Leave are Remount (λ same. omega (arith, same)) in
      let all = restarted_all old.records runner.crossings old.stage runner.answered answered tally.restarted in
      let taken = all_taken test crossings old.records (taken_go runner.crossings Leave are test old.records tally.taken unfired) finished (counted_some runner.crossings Leave are) (omega (arith, all, same)) old.history past in
      between test new (with_counted runner Leave) (tallied_still (are_still history tally.records) (owes_still history (at.Logged ticket) tally answered) (count_of runner.crossings Remount) tally.remounts (subst (λ (es : List Entry). AllByRecursion (EntryTakesFaults test old.records) es) (sym history) taken))
      (subst (λ (es : List Entry). AllByRecursion (λ (entry : Entry). entry.caller ≡ runner.crossings.caller → entry.ordinal < runner.crossings.ordinal + 1) es) (sym history) (all_earlier test old.records crossings true old.history past))

  -- a call that ends with an entry which is no step of the model
  pub ends_unplain : (stand : At) → IsTallied test old runner stand → runner.answered ≡ false → (entry : Entry) → entry.caller ≡ runner.crossings.caller → entry.ordinal ≡ runner.crossings.ordinal → is_plain entry.reply ≡ false
      → (is_of_running entry.reply ≡ true → old.stage ≡ stage.Running) → (awaits_remount old.stage ≡ true → is_device entry.reply ≡ true) → new.history ≡ old.history ++ entry ∷ []
      → IsBetween test new (advanced runner)
  ends_unplain stand tally lacks entry caller ordinal unplain runs ended history =
      let past = subst (λ (b : Bool). AllByRecursion (IsPast test old.records runner.crossings b) old.history) lacks tally.entries in
      let taken : AllByRecursion (EntryTakesFaults test old.records) old.history = all_map (IsPast test old.records runner.crossings false) (EntryTakesFaults test old.records) old.history unanswered past in
      let its = of_entry test runner.crossings old.records tally.taken entry caller ordinal (inl unplain) (passed_any old.records runner.crossings runner.pages runner.answered stand tally.passed) (restarted_by old.records runner.crossings old.stage runner.answered (is_of_running entry.reply) runs tally.restarted) in
      let all = all_both (EntryTakesFaults test old.records) old.history (entry ∷ []) taken (its, tt) in
      between test new runner (tallied_still (subst (AreTallied old.records) (sym history) (tallied_later old.records old.history entry tally.records))
      (λ starts. subst (λ (es : List Entry). is_owed old.records (has_device es) ≡ true) (sym history) (owed_device old.records old.history entry (ended starts)))
      (count_of runner.crossings Remount) tally.remounts (subst (λ (es : List Entry). AllByRecursion (EntryTakesFaults test old.records) es) (sym history) all))
      (subst (λ (es : List Entry). AllByRecursion (λ (e : Entry). e.caller ≡ runner.crossings.caller → e.ordinal < runner.crossings.ordinal + 1) es) (sym history)
      (all_both (λ (e : Entry). e.caller ≡ runner.crossings.caller → e.ordinal < runner.crossings.ordinal + 1) old.history (entry ∷ []) (all_earlier test old.records runner.crossings false old.history past) ((λ own. omega (arith, ordinal)), tt)))
    where
      unanswered : (e : Entry) → IsPast test old.records runner.crossings false e → EntryTakesFaults test old.records e
      unanswered e (inl mine) = absurd (let wrong : false ≡ true = mine.2 in cc)
      unanswered e (inr past) = past.1

-- ---- a call goes on

-- farther on it entered and finished as often, or once more
entered_more : (answered : Bool) (from to : At) → is_in from ≤ is_in to → has_entered answered from ≤ has_entered answered to
entered_more true from to more = omega arith
entered_more false from to more = more

finished_more : (answered : Bool) (from to : At) → is_logged from ≤ is_logged to → has_finished answered from ≤ has_finished answered to
finished_more true from to more = omega arith
finished_more false from to more = more

-- a call that lacks its entry, outside
pub none_entered : (answered : Bool) → answered ≡ false → has_entered answered at.Outside ≡ 0
none_entered answered lacks = ap (λ b. has_entered b at.Outside) lacks

pub none_finished : (answered : Bool) (stand : At) → answered ≡ false → is_logged stand ≡ 0 → has_finished answered stand ≡ 0
none_finished answered stand lacks out = ap (λ b. has_finished b stand) lacks ∙ out

entered_outside : (answered : Bool) → has_entered answered at.Outside ≡ one_if answered
entered_outside true = refl
entered_outside false = refl

finished_outside : (answered : Bool) → has_finished answered at.Outside ≡ one_if answered
finished_outside true = refl
finished_outside false = refl

-- one that is inside, or has its entry
pub entered_in : (answered : Bool) (ticket : Ticket) → has_entered answered (at.Inside ticket) ≡ 1
entered_in true ticket = refl
entered_in false ticket = refl

pub entered_logged : (answered : Bool) (ticket : Ticket) → has_entered answered (at.Logged ticket) ≡ 1
entered_logged true ticket = refl
entered_logged false ticket = refl

pub finished_logged : (answered : Bool) (ticket : Ticket) → has_finished answered (at.Logged ticket) ≡ 1
finished_logged true ticket = refl
finished_logged false ticket = refl

-- the entries and records stay, and the call stands as before or farther
pub tally_on : (test : Option (Crossing → Bool)) (old new : Sight) (before now : Runner) (from to : At) → IsTallied test old before from → new.records ≡ old.records → new.stage ≡ old.stage → new.history ≡ old.history → now.crossings ≡ before.crossings
    → now.answered ≡ before.answered → now.asked ≡ false → IsUpToDate new now.crossings.caller to → HasPassedPoints old.records now.crossings now.pages now.answered to → is_in from ≤ is_in to → is_logged from ≤ is_logged to → IsTallied test new now to
tally_on test old new before now from to tally records on history crossings answered asked present passed inner later =
    let size : length new.records ≡ length old.records = ap length records in
    let struck : strikes_inside new.records now.crossings.caller now.crossings.ordinal ≡ strikes_inside old.records before.crossings.caller before.crossings.ordinal = rw (records, crossings) refl in
    let there : strikes_of new.records now.crossings.caller now.crossings.ordinal Finish ≡ strikes_of old.records before.crossings.caller before.crossings.ordinal Finish = rw (records, crossings) refl in
    let gone = entered_more before.answered from to inner in
    let done = finished_more before.answered from to later in
    let same : (kind : Kind) → count_of now.crossings kind ≡ count_of before.crossings kind = λ kind. ap (λ (c : Crossings). count_of c kind) crossings in
    let awaits : one_if (awaits_remount new.stage) ≡ one_if (awaits_remount old.stage) = ap (λ (s : Stage). one_if (awaits_remount s)) on in
    record {
      asked = asked;
      present = present;
      records = rw (records, history) tally.records;
      enters = rw answered (let was = tally.enters in omega (arith, struck, same Enter, was, gone));
      finishes = rw answered (let was = tally.finishes in omega (arith, there, same Finish, was, done));
      remounts = (let was = tally.remounts in omega (arith, size, same Remount, was, awaits));
      own_remounts = rw (crossings, answered, records, history, on) tally.own_remounts;
      owed = rw (answered, records, history, on) tally.owed;
      passed = rw records passed;
      taken = rw (crossings, records) tally.taken;
      restarted = rw (crossings, answered, records, on) tally.restarted;
      entries = rw (crossings, answered, records, history) tally.entries;
    }

-- ---- the fault injector is asked

module _ (test : Option (Crossing → Bool)) (old : Sight) (runner : Runner) (kind : Kind) (are : AreSixCounts runner.crossings) (stand : At) (tally : IsTallied test old runner stand) (apart : place_of Remount ≢ place_of kind) where
  same_remounts : count_of (counted runner.crossings kind) Remount ≡ count_of runner.crossings Remount
  same_remounts = counted_there runner.crossings kind are Remount apart

  -- the call goes on
  pub tally_go : IfSome test (λ fires. fires (next_of kind runner.crossings) ≡ false) → (to : At) → IsUpToDate old runner.crossings.caller to
      → count_of (counted runner.crossings kind) Enter ≤ strikes_inside old.records runner.crossings.caller runner.crossings.ordinal + has_entered runner.answered to
      → count_of (counted runner.crossings kind) Finish ≤ strikes_of old.records runner.crossings.caller runner.crossings.ordinal Finish + has_finished runner.answered to → HasPassedPoints old.records (counted runner.crossings kind) runner.pages runner.answered to → IsTallied test old (with_counted runner kind) to
  tally_go unfired to present enters finishes passed = record {
    asked = tally.asked;
    present = present;
    records = tally.records;
    enters = enters;
    finishes = finishes;
    remounts = (let was = tally.remounts in omega (arith, same_remounts, was));
    own_remounts = λ lacks. (let was = tally.own_remounts lacks in omega (arith, same_remounts, was));
    owed = tally.owed;
    passed = passed;
    taken = taken_go runner.crossings kind are test old.records tally.taken unfired;
    restarted = restarted_same old.records runner.crossings (counted runner.crossings kind) old.stage runner.answered refl refl same_remounts tally.restarted;
    entries = tally.entries;
  }

  -- the records with that of the call
  abbrev struck_records : List FaultRecord
  struck_records = old.records ++ fault_at runner.crossings kind (next_nth runner.crossings.counts kind) ∷ []

  -- after the fault the file system is to be started anew, if not by the call
  owes : old.stage ≡ stage.Running → (on : Stage) → awaits_remount on ≡ true → (runner.answered ≡ false) ⊎ (place_of kind ≡ 3) → IsRestarted struck_records (counted runner.crossings kind) on runner.answered
  owes runs on awaits late =
      let nth : ℕ = next_nth runner.crossings.counts kind in
      let was = restarted_runs old.records runner.crossings old.stage runner.answered runs tally.restarted in
      elim late [
        | inl lacks ↦ (let most = recoveries_most old.records runner.crossings kind nth in inr (lacks, omega (arith, was, most, same_remounts), inl awaits))
        | inr third ↦ (let same = recoveries_left old.records runner.crossings kind nth third in inl (omega (arith, was, same, same_remounts)))
      ]

  -- the call is struck
  pub tally_struck : (new : Sight) (ticket : Ticket) → ticket.caller ≡ runner.crossings.caller → ticket.ordinal ≡ runner.crossings.ordinal → old.stage ≡ stage.Running → StrikesCall old new ticket kind (next_nth runner.crossings.counts kind)
      → is_near (has_device old.history) old.records runner.crossings.caller runner.crossings.ordinal kind (next_nth runner.crossings.counts kind) ≡ true
      → count_of (counted runner.crossings kind) Enter ≤ strikes_inside old.records runner.crossings.caller runner.crossings.ordinal + 1
      → count_of (counted runner.crossings kind) Finish ≤ strikes_of struck_records runner.crossings.caller runner.crossings.ordinal Finish + one_if runner.answered
      → strikes_inside old.records runner.crossings.caller runner.crossings.ordinal + 1 ≤ strikes_inside struck_records runner.crossings.caller runner.crossings.ordinal + one_if runner.answered
      → HasPassedPoints struck_records (counted runner.crossings kind) no_pages runner.answered at.Outside → (runner.answered ≡ false) ⊎ (place_of kind ≡ 3) → IsTallied test new (backed (with_counted runner kind)) at.Outside
  tally_struck new ticket own ordinal runs strikes near enters finishes counts passed late =
      let nth : ℕ = next_nth runner.crossings.counts kind in
      let fault : FaultRecord = fault_at runner.crossings kind nth in
      let more : new.records ≡ struck_records = strikes.records
      ∙ ap (λ n. old.records ++ record { caller = n; ordinal = ticket.ordinal; kind = kind; nth = nth } ∷ []) own ∙ ap (λ n. old.records ++ record { caller = runner.crossings.caller; ordinal = n; kind = kind; nth = nth } ∷ []) ordinal in
      let size : length new.records ≡ length old.records + 1 = ap length more ∙ length-append old.records (fault ∷ []) in
      let awaits : awaits_remount new.stage ≡ true = ap awaits_remount strikes.stage in
      let one : one_if (awaits_remount new.stage) ≡ 1 = ap one_if awaits in
      record {
        asked = refl;
        present = tt;
        records = rw (more, strikes.counts.history) (tallied_push old.records old.history fault tally.records near (next_more runner.crossings.counts kind).1);
        enters = subst (λ (rs : List FaultRecord). count_of (counted runner.crossings kind) Enter ≤ strikes_inside rs runner.crossings.caller runner.crossings.ordinal + has_entered runner.answered at.Outside) (sym more)
            (let out = entered_outside runner.answered in omega (arith, enters, counts, out));
        finishes = subst (λ (rs : List FaultRecord). count_of (counted runner.crossings kind) Finish ≤ strikes_of rs runner.crossings.caller runner.crossings.ordinal Finish + has_finished runner.answered at.Outside) (sym more)
            (let out = finished_outside runner.answered in omega (arith, finishes, out));
        remounts = (let was = tally.remounts in omega (arith, same_remounts, was, size, one));
        own_remounts = λ lacks. rw (more, strikes.counts.history)
            (let was = tally.own_remounts lacks in let out = ap one_if lacks in let r = strikes_more old.records runner.crossings kind nth Remount in let p = strikes_more old.records runner.crossings kind nth Replay in
            let grows = owed_grows old.records fault (has_device old.history) in omega (arith, same_remounts, was, one, counts, out, r, p, grows));
        owed = λ has starts. rw (more, strikes.counts.history) (elim late [
          | inl lacks ↦ absurd (let wrong : true ≡ false = sym has ∙ lacks in cc)
          | inr third ↦ owed_left old.records fault (has_device old.history) third
        ]);
        passed = subst (λ (rs : List FaultRecord). HasPassedPoints rs (counted runner.crossings kind) no_pages runner.answered at.Outside) (sym more) passed;
        taken = subst (λ (rs : List FaultRecord). (other : Kind) → TakesUpTo test rs runner.crossings.caller runner.crossings.ordinal other (count_of (counted runner.crossings kind) other)) (sym more)
            (taken_struck runner.crossings kind are test old.records tally.taken);
        restarted = subst (λ (rs : List FaultRecord). IsRestarted rs (counted runner.crossings kind) new.stage runner.answered) (sym more) (owes runs new.stage awaits late);
        entries = subst (λ (es : List Entry). AllByRecursion (IsPast test new.records (counted runner.crossings kind) runner.answered) es) (sym strikes.counts.history)
            (subst (λ (rs : List FaultRecord). AllByRecursion (IsPast test rs (counted runner.crossings kind) runner.answered) old.history) (sym more)
            (all_map (IsPast test old.records runner.crossings runner.answered) (IsPast test struck_records runner.crossings runner.answered) old.history (λ entry is. past_push test old.records runner.crossings kind nth runner.answered entry is) tally.entries));
      }

-- ---- by its kinds

near_next : (ended : Bool) (records : List FaultRecord) (caller ordinal nth : ℕ) → nth ≤ strikes_inside records caller ordinal + 1 → is_near ended records caller ordinal Enter nth ≡ true
near_next ended records caller ordinal nth low = le-leb nth (strikes_inside records caller ordinal + 1) low

near_finish : (ended : Bool) (records : List FaultRecord) (caller ordinal nth : ℕ) → nth ≤ strikes_of records caller ordinal Finish + 1 → is_near ended records caller ordinal Finish nth ≡ true
near_finish ended records caller ordinal nth low = le-leb nth (strikes_of records caller ordinal Finish + 1) low

never_remount : (n : ℕ) → n < 4 → 4 ≢ n
never_remount n low same = omega (arith, low, same)

module _ (test : Option (Crossing → Bool)) (old : Sight) (runner : Runner) (are : AreSixCounts runner.crossings) (ticket : Ticket) (runs : old.stage ≡ stage.Running) where
  -- how many faults struck the call before it had its entry
  abbrev n : ℕ
  n = strikes_inside old.records runner.crossings.caller runner.crossings.ordinal

  abbrev Unfired : Kind → Type 0
  Unfired kind = IfSome test (λ fires. fires (next_of kind runner.crossings) ≡ false)

  abbrev after : Kind → Crossings
  after kind = counted runner.crossings kind

  abbrev next : Kind → ℕ
  next kind = next_nth runner.crossings.counts kind

  abbrev with_fault : Kind → List FaultRecord
  with_fault kind = old.records ++ fault_at runner.crossings kind (next kind) ∷ []

  -- how many faults of a kind struck the call
  abbrev struck : Kind → ℕ
  struck kind = strikes_of old.records runner.crossings.caller runner.crossings.ordinal kind

  more_of : (kind : Kind) → strikes_of (with_fault kind) runner.crossings.caller runner.crossings.ordinal kind ≡ struck kind + 1
  more_of kind = strikes_here old.records runner.crossings kind (next kind)

  same_of : (kind other : Kind) → place_of kind ≢ place_of other → strikes_of (with_fault kind) runner.crossings.caller runner.crossings.ordinal other ≡ struck other
  same_of kind other apart = strikes_there old.records runner.crossings kind (next kind) other apart

  -- a call that entered just now
  module _ (tally : IsTallied test old runner at.Outside) (lacks : runner.answered ≡ false) where
    was_outside : HasPassedAtLeast old.records runner.crossings 0 0 0 × (count_of runner.crossings Leave ≡ 0)
    was_outside = lacks_leave old.records runner.crossings runner.pages runner.answered lacks tally.passed

    no_leave : count_of (after Enter) Leave ≡ 0
    no_leave = counted_there runner.crossings Enter are Leave (λ same. omega (arith, same)) ∙ was_outside.1

    one_more : count_of (after Enter) Enter ≤ n + 1
    one_more = let most = counted_most runner.crossings Enter are in let was = tally.enters in let out = none_entered runner.answered lacks in omega (arith, most, was, out)

    same_finishes : count_of (after Enter) Finish ≤ struck Finish
    same_finishes = let is = counted_there runner.crossings Enter are Finish (λ same. omega (arith, same)) in let was = tally.finishes in let out = none_finished runner.answered at.Outside lacks refl in omega (arith, is, was, out)

    gathers_still : count_of (after Enter) Gather ≡ count_of runner.crossings Gather
    gathers_still = counted_there runner.crossings Enter are Gather (λ same. omega (arith, same))

    finishes_still : count_of (after Enter) Finish ≡ count_of runner.crossings Finish
    finishes_still = counted_there runner.crossings Enter are Finish (λ same. omega (arith, same))

    -- it entered once more than it was struck
    enters_more : strikes_inside old.records runner.crossings.caller runner.crossings.ordinal ≤ 1 → strikes_inside old.records runner.crossings.caller runner.crossings.ordinal + 1 ≤ count_of (after Enter) Enter
    enters_more once = let was = was_outside.0.enters in counted_more runner.crossings Enter are (strikes_inside old.records runner.crossings.caller runner.crossings.ordinal) (omega (arith, was)) (omega (arith, once))

    went_in : strikes_inside old.records runner.crossings.caller runner.crossings.ordinal ≤ 1 → HasPassedAtLeast old.records (after Enter) 1 0 0
    went_in once =
        let enters = enters_more once in
        let gathers = was_outside.0.gathers in
        let finishes = was_outside.0.finishes in
        record { twice = omega (arith, once); enters = enters; gathers = omega (arith, gathers, gathers_still); finishes = omega (arith, finishes, finishes_still) }

    struck_in : strikes_inside old.records runner.crossings.caller runner.crossings.ordinal ≤ 1 → HasPassedAtLeast (with_fault Enter) (after Enter) 0 0 0
    struck_in once =
        let enters = enters_more once in
        let gathers = was_outside.0.gathers in
        let finishes = was_outside.0.finishes in
        let e = more_of Enter in
        let g = same_of Enter Gather (λ same. omega (arith, same)) in
        let f = same_of Enter Finish (λ same. omega (arith, same)) in
        record { twice = omega (arith, once, e, g, f); enters = omega (arith, enters, e, g, f); gathers = omega (arith, gathers, gathers_still, g, f); finishes = omega (arith, finishes, finishes_still, f) }

    pub enter_go : Unfired Enter → ticket.incarnation ≡ old.incarnation → old.fresh runner.crossings.caller ≡ true → runner.pages ≡ no_pages → strikes_inside old.records runner.crossings.caller runner.crossings.ordinal ≤ 1
        → IsTallied test old (with_counted runner Enter) (at.Inside ticket)
    enter_go unfired present fresh empty once =
        tally_go test old runner Enter are at.Outside tally (never_remount 0 (omega arith)) unfired (at.Inside ticket) (present, fresh) (let is = entered_in runner.answered ticket in omega (arith, one_more, is)) (omega (arith, same_finishes))
        (subst (λ (p : PagesState). HasPassedAtLeast old.records (after Enter) 1 (one_if (has p 0)) 0) (sym empty) (went_in once), no_leave)

    pub enter_struck : (new : Sight) → ticket.caller ≡ runner.crossings.caller → ticket.ordinal ≡ runner.crossings.ordinal → strikes_inside old.records runner.crossings.caller runner.crossings.ordinal ≤ 1
        → StrikesCall old new ticket Enter (next_nth runner.crossings.counts Enter) → IsTallied test new (backed (with_counted runner Enter)) at.Outside
    enter_struck new own ordinal once strikes =
        let here = counted_here runner.crossings Enter are in
        tally_struck test old runner Enter are at.Outside tally (never_remount 0 (omega arith)) new ticket own ordinal runs strikes (near_next (has_device old.history) old.records runner.crossings.caller runner.crossings.ordinal (next_nth runner.crossings.counts Enter) (omega (arith, one_more, here))) one_more (let f = same_of Enter Finish (λ same. omega (arith, same)) in omega (arith, same_finishes, f))
        (let e = more_of Enter in let g = same_of Enter Gather (λ same. omega (arith, same)) in let f = same_of Enter Finish (λ same. omega (arith, same)) in omega (arith, e, g, f))
        (passed_back (with_fault Enter) (after Enter) no_pages runner.answered lacks (struck_in once) no_leave) (inl lacks)

  -- a call inside
  module _ (tally : IsTallied test old runner (at.Inside ticket)) (lacks : runner.answered ≡ false) where
    inside_leave : (kind : Kind) → 3 ≢ place_of kind → count_of (after kind) Leave ≡ 0
    inside_leave kind apart = counted_there runner.crossings kind are Leave apart ∙ tally.passed.1

    inside_enters : (kind : Kind) → 0 ≢ place_of kind → count_of (after kind) Enter ≤ n + 1
    inside_enters kind apart = let is = counted_there runner.crossings kind are Enter apart in let was = tally.enters in let in_it = entered_in runner.answered ticket in omega (arith, is, was, in_it)

    was_inside : HasPassedAtLeast old.records runner.crossings 1 (one_if (has runner.pages 0)) 0
    was_inside = tally.passed.0

    -- it gathers once more
    gathers_more : struck Gather + struck Finish + 1 ≤ count_of (after Gather) Gather
    gathers_more =
        let twice = was_inside.twice in
        let gathers = was_inside.gathers in
        counted_more runner.crossings Gather are (struck Gather + struck Finish) (omega (arith, gathers)) (omega (arith, twice))

    gathered : HasPassedAtLeast old.records (after Gather) 1 1 0
    gathered =
        let twice = was_inside.twice in
        let enters = was_inside.enters in
        let finishes = was_inside.finishes in
        let enters_still = counted_there runner.crossings Gather are Enter (λ same. omega (arith, same)) in
        let finishes_still = counted_there runner.crossings Gather are Finish (λ same. omega (arith, same)) in
        record { twice = twice; enters = omega (arith, enters, enters_still); gathers = gathers_more; finishes = omega (arith, finishes, finishes_still) }

    pub gathered_if : (some : Bool) → HasPassedAtLeast old.records (after Gather) 1 (one_if some) 0
    gathered_if true = gathered
    gathered_if false = (let gathers = gathered.gathers in record { twice = gathered.twice; enters = gathered.enters; gathers = omega (arith, gathers); finishes = gathered.finishes })

    struck_gathering : HasPassedAtLeast (with_fault Gather) (after Gather) 0 0 0
    struck_gathering =
        let twice = was_inside.twice in
        let enters = gathered.enters in
        let finishes = gathered.finishes in
        let gathers = gathers_more in
        let e = same_of Gather Enter (λ same. omega (arith, same)) in
        let g = more_of Gather in
        let f = same_of Gather Finish (λ same. omega (arith, same)) in
        record { twice = omega (arith, twice, e, g, f); enters = omega (arith, enters, e, g, f); gathers = omega (arith, gathers, g, f); finishes = omega (arith, finishes, f) }

    pub gather_go : Unfired Gather → IsTallied test old (with_counted runner Gather) (at.Inside ticket)
    gather_go unfired =
        let same = counted_there runner.crossings Gather are Finish (λ same. omega (arith, same)) in
        let was = tally.finishes in
        let in_it = entered_in runner.answered ticket in
        let enters = inside_enters Gather (λ same. omega (arith, same)) in
        tally_go test old runner Gather are (at.Inside ticket) tally (never_remount 1 (omega arith)) unfired (at.Inside ticket) tally.present (omega (arith, enters, in_it)) (omega (arith, same, was))
        (gathered_if (has runner.pages 0), inside_leave Gather (λ same. omega (arith, same)))

    pub gather_struck : (new : Sight) → ticket.caller ≡ runner.crossings.caller → ticket.ordinal ≡ runner.crossings.ordinal → StrikesCall old new ticket Gather (next_nth runner.crossings.counts Gather) → IsTallied test new (backed (with_counted runner Gather)) at.Outside
    gather_struck new own ordinal strikes =
        let same = counted_there runner.crossings Gather are Finish (λ same. omega (arith, same)) in
        let was = tally.finishes in
        let none = none_finished runner.answered (at.Inside ticket) lacks refl in
        let e = same_of Gather Enter (λ same. omega (arith, same)) in
        let g = more_of Gather in
        let f = same_of Gather Finish (λ same. omega (arith, same)) in
        tally_struck test old runner Gather are (at.Inside ticket) tally (never_remount 1 (omega arith)) new ticket own ordinal runs strikes refl (inside_enters Gather (λ same. omega (arith, same))) (omega (arith, same, was, none, f)) (omega (arith, e, g, f))
        (passed_back (with_fault Gather) (after Gather) no_pages runner.answered lacks struck_gathering (inside_leave Gather (λ same. omega (arith, same)))) (inl lacks)

    finish_most : count_of (after Finish) Finish ≤ struck Finish + 1
    finish_most = let most = counted_most runner.crossings Finish are in let was = tally.finishes in let none = none_finished runner.answered (at.Inside ticket) lacks refl in omega (arith, most, was, none)

    -- it has the tables, and comes to finish
    module _ (there : has runner.pages 0 ≡ true) where
      finished : HasPassedAtLeast old.records (after Finish) 1 1 1
      finished =
          let twice = was_inside.twice in
          let enters = was_inside.enters in
          let gathers = was_inside.gathers in
          let finishes = was_inside.finishes in
          let enters_still = counted_there runner.crossings Finish are Enter (λ same. omega (arith, same)) in
          let gathers_still = counted_there runner.crossings Finish are Gather (λ same. omega (arith, same)) in
          let one : one_if (has runner.pages 0) ≡ 1 = ap one_if there in
          record {
            twice = twice;
            enters = omega (arith, enters, enters_still);
            gathers = omega (arith, gathers, gathers_still, one);
            finishes = counted_more runner.crossings Finish are (struck Finish) (omega (arith, finishes)) (omega (arith, twice));
          }

      struck_finishing : HasPassedAtLeast (with_fault Finish) (after Finish) 0 0 0
      struck_finishing =
          let twice = was_inside.twice in
          let enters = finished.enters in
          let gathers = finished.gathers in
          let finishes = finished.finishes in
          let e = same_of Finish Enter (λ same. omega (arith, same)) in
          let g = same_of Finish Gather (λ same. omega (arith, same)) in
          let f = more_of Finish in
          record { twice = omega (arith, twice, e, g, f); enters = omega (arith, enters, e, g, f); gathers = omega (arith, gathers, g, f); finishes = omega (arith, finishes, f) }

      pub finish_go : Unfired Finish → IsTallied test old (with_counted runner Finish) (at.Logged ticket)
      finish_go unfired =
          let enters = inside_enters Finish (λ same. omega (arith, same)) in
          let in_it = entered_logged runner.answered ticket in
          let done = finished_logged runner.answered ticket in
          tally_go test old runner Finish are (at.Inside ticket) tally (never_remount 2 (omega arith)) unfired (at.Logged ticket) (tally.present.0, runs) (omega (arith, enters, in_it)) (omega (arith, finish_most, done))
          (finished, inside_leave Finish (λ same. omega (arith, same)))

      pub finish_struck : (new : Sight) → ticket.caller ≡ runner.crossings.caller → ticket.ordinal ≡ runner.crossings.ordinal → StrikesCall old new ticket Finish (next_nth runner.crossings.counts Finish) → IsTallied test new (backed (with_counted runner Finish)) at.Outside
      finish_struck new own ordinal strikes =
          let here = counted_here runner.crossings Finish are in
          tally_struck test old runner Finish are (at.Inside ticket) tally (never_remount 2 (omega arith)) new ticket own ordinal runs strikes (near_finish (has_device old.history) old.records runner.crossings.caller runner.crossings.ordinal (next_nth runner.crossings.counts Finish) (omega (arith, finish_most, here)))
          (inside_enters Finish (λ same. omega (arith, same))) (let f = more_of Finish in omega (arith, finish_most, f))
          (let e = same_of Finish Enter (λ same. omega (arith, same)) in let g = same_of Finish Gather (λ same. omega (arith, same)) in let f = more_of Finish in omega (arith, e, g, f)) (passed_back (with_fault Finish) (after Finish) no_pages runner.answered lacks struck_finishing (inside_leave Finish (λ same. omega (arith, same)))) (inl lacks)

  -- a call that has its entry
  module _ (tally : IsTallied test old runner (at.Logged ticket)) (has_it : runner.answered ≡ true) where
    leave_enters : count_of (after Leave) Enter ≤ n + 1
    leave_enters = let is = counted_there runner.crossings Leave are Enter (λ same. omega (arith, same)) in let was = tally.enters in let in_it = entered_logged runner.answered ticket in omega (arith, is, was, in_it)

    leave_finishes : count_of (after Leave) Finish ≤ struck Finish + 1
    leave_finishes = let is = counted_there runner.crossings Leave are Finish (λ same. omega (arith, same)) in let was = tally.finishes in let done = finished_logged runner.answered ticket in omega (arith, is, was, done)

    struck_leaving : HasPassedAtLeast (with_fault Leave) (after Leave) 1 1 1
    struck_leaving =
        let was = passed_leave old.records runner.crossings are tally.passed.0 in
        let twice = was.twice in
        let enters = was.enters in
        let gathers = was.gathers in
        let finishes = was.finishes in
        let e = same_of Leave Enter (λ same. omega (arith, same)) in
        let g = same_of Leave Gather (λ same. omega (arith, same)) in
        let f = same_of Leave Finish (λ same. omega (arith, same)) in
        record { twice = omega (arith, twice, e, g, f); enters = omega (arith, enters, e, g, f); gathers = omega (arith, gathers, g, f); finishes = omega (arith, finishes, f) }

    pub leave_struck : (new : Sight) → ticket.caller ≡ runner.crossings.caller → ticket.ordinal ≡ runner.crossings.ordinal → StrikesCall old new ticket Leave (next_nth runner.crossings.counts Leave) → IsTallied test new (backed (with_counted runner Leave)) at.Outside
    leave_struck new own ordinal strikes =
        let first : next_nth runner.crossings.counts Leave ≡ 1 = (let none = tally.passed.1 in omega (arith, none)) in
        tally_struck test old runner Leave are (at.Logged ticket) tally (never_remount 3 (omega arith)) new ticket own ordinal runs strikes (ap (λ nth. is_near (has_device old.history) old.records runner.crossings.caller runner.crossings.ordinal Leave nth) first) leave_enters (let f = same_of Leave Finish (λ same. omega (arith, same)) in let has = ap one_if has_it in omega (arith, leave_finishes, f, has))
        (let e = same_of Leave Enter (λ same. omega (arith, same)) in let g = same_of Leave Gather (λ same. omega (arith, same)) in let f = same_of Leave Finish (λ same. omega (arith, same)) in let has = ap one_if has_it in omega (arith, e, g, f, has))
        (passed_left (with_fault Leave) (after Leave) no_pages runner.answered has_it struck_leaving (counted_some runner.crossings Leave are)) (inr (omega arith))
