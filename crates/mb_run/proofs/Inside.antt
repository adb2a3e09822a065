-- A call inside gathers, finishes and leaves.
use Rattle.std.proofs.Common.{◌≡◌, ◌≢◌, List, [], ◌∷◌, ◌++◌, ℕ, ◌+◌, ◌-◌, ◌*◌, ◌<◌, ◌≤◌, min, Bool, true, false, cond, length, inl, inr, refl, ap, sym, subst, ◌∙◌, arith, Option, Some, IfSome}
use Rattle.std.proofs.lemmas.Bool.{eq-eqb}
use Rattle.std.proofs.lemmas.Option.{same_Some, slice_get_within}
use Rattle.mb_core_spec.specs.declared.steps.Step.TheVariants as step
use Rattle.mb_edge.specs.Crossings.{next_nth, place_of}
use Rattle.mb_edge.specs.declared.crossings.Crossing.{Crossing}
use Rattle.mb_kinds.specs.declared.calls.Call.{Call}
use Rattle.mb_kinds.specs.declared.entries.Flight.{Flight}
use Rattle.mb_kinds.specs.declared.faults.FaultRecord.{FaultRecord}
use Rattle.mb_kinds.specs.declared.faults.Kind.{Kind}
use Rattle.mb_kinds.specs.declared.faults.Kind.TheVariants.{Enter}
use Rattle.mb_kinds.specs.declared.faults.Ticket.{Ticket}
use Rattle.mb_kinds.specs.declared.replies.Reply.{Reply}
use Rattle.mb_kinds.specs.declared.replies.Reply.TheVariants as reply
use Rattle.mb_core_spec.specs.Copies.{PagesState, no_pages}
use Rattle.mb_run.specs.Pages.{has}
use Rattle.mb_run.specs.Events.{Answers, FinishesInSight, Gains, GathersInSight, IsStale, LeavesWith, EndsFlight, entry_of}
use Rattle.mb_run.specs.Runs.{strikes_inside}
use Rattle.mb_run.specs.Entering.{EntersIn, EntersSoFar}
use Rattle.mb_run.specs.Recovering.{next_of}
use Rattle.mb_run.specs.Tallies.{is_in}
use Rattle.mb_run.specs.Served.{AreSixCounts, IsInsideOnce, IsPastOnce, Asks, Did, StepComesTo, AsksAtEntry, IsAtBy, IsHeld, IsStanding, MayStep, advanced, backed, busy, calls_in, calls_of, counted, missing, rank}
use Rattle.mb_run.specs.Sights.{SeatHasTicket, IsOrderlyInSight, Limits, Sight, late_in, one_if, recovers}
use Rattle.mb_run.specs.declared.runner.At.{At}
use Rattle.mb_run.specs.declared.runner.At.TheVariants as at
use Rattle.mb_core_state.specs.declared.answers.Finished.TheVariants as finished
use Rattle.mb_core_state.specs.declared.answers.Gathered.{Gathered}
use Rattle.mb_core_state.specs.declared.answers.Gathered.TheVariants as gathered
use Rattle.mb_core_state.specs.declared.answers.Left.TheVariants as left
use Rattle.mb_jobs.specs.declared.jobs.JobCall.{JobCall}
use Rattle.mb_iface.specs.declared.replies.Need.{Need}
use Rattle.mb_run.specs.declared.progress.Went.{Went}
use Rattle.mb_run.specs.declared.progress.Went.TheVariants as went
use Rattle.mb_run.specs.declared.runner.Runner.{Runner}
use Rattle.mb_run.proofs.Acting.{acts_same, acts_stays, acts_entry}
use Rattle.mb_run.proofs.Balance.{LogsCall, balanced_logs, balanced_same, marked_here}
use Rattle.mb_run.proofs.Firsts.{counted_from, firsts_logs, firsts_stays}
use Rattle.mb_run.proofs.Late.{entry_late, runs_not_failed}
use Rattle.mb_run.proofs.Lines.{line_logs, line_same}
use Rattle.mb_run.proofs.Entering.{enters_back, enters_in, enters_logged, enters_past, enters_struck_there}
use Rattle.mb_run.proofs.Lists.{all_both, calls_push}
use Rattle.mb_run.proofs.Missing.{missing_less, missing_most}
use Rattle.mb_run.proofs.Once.{one_most, past_moves}
use Rattle.mb_run.proofs.Places.{at_logs}
use Rattle.mb_run.proofs.Entered.{did_answer, did_leave}
use Rattle.mb_run.proofs.Openings.{line_open}
use Rattle.mb_run.proofs.Struck.{IsIn, Stands, did_asked, did_asked_by, did_back, may_counted}
use Rattle.mb_run.proofs.TallyRecords.{fault_at}
use Rattle.mb_run.proofs.Trails.{trail_marks, trail_put}
use Rattle.mb_run.proofs.Timely.{timely_gains, timely_refl, timely_stale}
use Rattle.mb_run.proofs.Twice.{is_own_kind}
use Rattle.mb_run.specs.Timely.{IsTimely}

-- ---- the hook let the call go on

pub asked_may : (calls : List JobCall) (test : Option (Crossing → Bool)) (old mid : Sight) (before m : Runner) (call : Call) (ticket : Ticket) (kind : Kind) → MayStep calls test old before call → Asks test old mid before m ticket kind false
    → MayStep calls test mid m call
asked_may calls test old mid before m call ticket kind may asks =
    subst (λ (s : Sight). MayStep calls test s m call) (sym asks.0) (subst (λ (r : Runner). MayStep calls test old r call) (sym asks.1) (may_counted calls test old before call may kind))

goes_on : (old new : Sight) (before now : Runner) (kind : Kind) (came : Went) → StepComesTo before.crossings.caller old new (record before { crossings = counted before.crossings kind }) now came → StepComesTo before.crossings.caller old new before now came
goes_on old new before now kind went.Ended goes = goes
goes_on old new before now kind went.On goes = goes
goes_on old new before now kind went.Back goes = goes
goes_on old new before now kind went.Shut goes = goes
goes_on old new before now kind (went.Busy holder) goes = goes
goes_on old new before now kind went.NoMemory goes = goes

pub asked_did : (calls : List JobCall) (test : Option (Crossing → Bool)) (old mid new : Sight) (before m now : Runner) (ticket : Ticket) (kind : Kind) (came : Went) → Asks test old mid before m ticket kind false → AreSixCounts before.crossings
    → Did calls test mid new m now came → Did calls test old new before now came
asked_did calls test old mid new before m now ticket kind came asks are did =
    let moved = subst (λ (r : Runner). Did calls test old new r now came) asks.1 (subst (λ (s : Sight). Did calls test s new m now came) asks.0 did) in
    record {
      nears = record { same = moved.nears.same; counts = moved.nears.counts; acts = moved.nears.acts; lined = moved.nears.lined; balanced = moved.nears.balanced; served = moved.nears.served; sound = moved.nears.sound; entered = λ was. moved.nears.entered (enters_past test old.records old.history before.crossings before.answered before.at was kind are asks.2); seals = moved.nears.seals };
      goes = goes_on old new before now kind came moved.goes;
    }

module _ (calls : List JobCall) (test : Option (Crossing → Bool)) (old : Sight) (runner : Runner) (call : Call) (may : MayStep calls test old runner call) where
  same_work : (new : Sight) → new.config ≡ old.config → new.records ≡ old.records → new.stage ≡ old.stage
      → ((new.config.limit ≡ old.config.limit) × (length new.records ≡ length old.records) × (one_if (recovers new.stage) ≡ one_if (recovers old.stage)))
  same_work new config records stage_is = (ap (λ (l : Limits). l.limit) config, ap length records, ap (λ s. one_if (recovers s)) stage_is)

  -- ---- inside

  module _ (ticket : Ticket) (inside : runner.at ≡ at.Inside ticket) where
    stood : SeatHasTicket false (old.seats runner.crossings.caller) ticket × IsHeld old runner.crossings.caller runner.pages ticket
    stood = subst (IsStanding old runner.crossings.caller runner.pages) inside may.served.stands

    pub own_ticket : ticket.caller ≡ runner.crossings.caller
    own_ticket = stood.1.mine

    pub has_ticket : SeatHasTicket false (old.seats ticket.caller) ticket
    has_ticket = subst (λ n. SeatHasTicket false (old.seats n) ticket) (sym own_ticket) stood.0

    pub own_ordinal : ticket.ordinal ≡ runner.crossings.ordinal
    own_ordinal =
        let here = subst (IsAtBy (calls_of calls runner.crossings.caller) (calls_in old.history runner.crossings.caller) runner.done (old.seats runner.crossings.caller).begun) stood.0.here may.served.calls in
        stood.0.ordinal ∙ here.1 ∙ sym may.served.ordinal

    pub stands_inside : Stands old runner.crossings.caller runner ticket
    stands_inside = record { is = subst (λ (a : At). IsIn a ticket) (sym inside) refl; done = false; has = stood.0; past = stood.1.past }

    pub inside_back : ticket.incarnation ≢ old.incarnation → Did calls test old old runner (backed runner) went.Back
    inside_back older = did_back calls test old runner call may ticket stands_inside older

    lacks_entry : runner.answered ≡ false
    lacks_entry = marked_here runner.answered (old.seats runner.crossings.caller).flight stood.0.flight stood.0.here stood.0.answered may.served.marked

    met_once : strikes_inside old.records runner.crossings.caller runner.crossings.ordinal ≤ 1
    met_once = subst (IsInsideOnce old.records runner.crossings) inside may.served.once

    pub inside_asked : (new : Sight) (now : Runner) (kind : Kind) → place_of Enter ≢ place_of kind → IsOrderlyInSight new → Asks test old new runner now ticket kind true → Did calls test old new runner now went.Back
    inside_asked new now kind apart right asks = did_asked_by calls test old runner call may new now ticket kind apart (λ has. (let lacks = lacks_entry in cc)) stands_inside own_ticket own_ordinal right asks

    -- until it is asked it counts as one that is on its way in
    entering : EntersIn test old runner at.Outside → EntersSoFar test old.records old.history runner.crossings false at.Outside
    entering was = subst (λ (b : Bool). EntersSoFar test old.records old.history runner.crossings b at.Outside) lacks_entry was

    pub entered_in_on : IfSome test (λ fires. fires (next_of Enter runner.crossings) ≡ false) → EntersIn test old runner at.Outside → EntersSoFar test old.records old.history (counted runner.crossings Enter) runner.answered runner.at
    entered_in_on unfired was = subst (λ (b : Bool). EntersSoFar test old.records old.history (counted runner.crossings Enter) b runner.at) (sym lacks_entry)
        (enters_in test old.records old.history runner.crossings may.counts met_once (entering was) runner.at (ap is_in inside) unfired)

    entered_struck : EntersIn test old runner at.Outside → EntersSoFar test (old.records ++ fault_at runner.crossings Enter (next_nth runner.crossings.counts Enter) ∷ []) old.history (counted runner.crossings Enter) runner.answered at.Outside
    entered_struck was = subst (λ (b : Bool). EntersSoFar test (old.records ++ fault_at runner.crossings Enter (next_nth runner.crossings.counts Enter) ∷ []) old.history (counted runner.crossings Enter) b at.Outside) (sym lacks_entry)
        (enters_struck_there test old.records old.history runner.crossings may.counts met_once (entering was))

    pub entering_asked : (new : Sight) (now : Runner) → ticket.incarnation ≡ old.incarnation → IsOrderlyInSight new → Asks test old new runner now ticket Enter true → Did calls test old new runner now went.Back
    entering_asked new now present right asks = did_asked calls test old runner call may new now ticket Enter (λ has. (let lacks = lacks_entry in cc)) stands_inside own_ticket own_ordinal
        (λ older. absurd (older present)) (λ was. entered_struck (enters_back test old.records old.history runner.crossings runner.answered runner.at was)) right asks

    pub entering_struck : (new : Sight) (now : Runner) → ticket.incarnation ≡ old.incarnation → Asks test old new runner now ticket Enter true → EntersIn test old runner at.Outside → EntersIn test new now now.at
    entering_struck new now present asks was = subst (λ (r : Runner). EntersIn test new r r.at) (sym asks.0) (elim asks.2 [
      | inl skipped ↦ absurd (skipped.0 present)
      | inr struck ↦ (
          let nth : ℕ = next_nth runner.crossings.counts Enter in
          let same : record { caller = ticket.caller; ordinal = ticket.ordinal; kind = Enter; nth = nth } ≡ fault_at runner.crossings Enter nth =
          ap (λ (n : ℕ). fault_at (record runner.crossings { caller = n; ordinal = ticket.ordinal }) Enter nth) own_ticket ∙ ap (λ (n : ℕ). fault_at (record runner.crossings { ordinal = n }) Enter nth) own_ordinal in
          let more : new.records ≡ old.records ++ fault_at runner.crossings Enter nth ∷ [] = struck.1.records ∙ ap (λ (r : FaultRecord). old.records ++ r ∷ []) same in
          rw (struck.1.counts.history, more) (entered_struck was))
    ])

    rank_now : (incarnation stales : ℕ) (pages : PagesState) → ticket.incarnation ≡ incarnation → rank incarnation stales pages (at.Inside ticket) ≡ 2 * ((4 - stales) * 262146 + missing (has pages) 262144 + 1)
    rank_now incarnation stales pages present = ap (λ b. cond b (2 * ((4 - stales) * 262146 + missing (has pages) 262144 + 1)) 8388608) (eq-eqb ticket.incarnation incarnation present)

    rank_was : ticket.incarnation ≡ old.incarnation → rank old.incarnation (old.stales runner.crossings.caller) runner.pages runner.at ≡ 2 * ((4 - old.stales runner.crossings.caller) * 262146 + missing (has runner.pages) 262144 + 1)
    rank_was present = ap (rank old.incarnation (old.stales runner.crossings.caller) runner.pages) inside ∙ rank_now old.incarnation (old.stales runner.crossings.caller) runner.pages present

    -- nothing changed, for want of memory
    pub did_nothing : Did calls test old old runner runner went.NoMemory
    did_nothing = record {
      nears = record { same = refl; counts = may.counts; acts = acts_same runner.crossings.caller old; lined = λ line. line; balanced = λ even. even; served = may.served; sound = may.sound; entered = λ was. was; seals = timely_refl old };
      goes = (refl, marked_here runner.answered (old.seats runner.crossings.caller).flight stood.0.flight stood.0.here stood.0.answered may.served.marked);
    }

    pub did_gain : (new : Sight) (need : Need) (now : PagesState) → ticket.incarnation ≡ old.incarnation → Gains ticket.caller old new need runner.pages now → has runner.pages need.first ≡ false → need.first < 262144
        → Did calls test old new runner (record runner { pages = now }) went.On
    did_gain new need now present given lacks low =
        let gains = subst (λ n. Gains n old new need runner.pages now) own_ticket given in
        let same = same_work new gains.stays.config gains.stays.records gains.stays.stage in
        let floor : busy runner.crossings.caller new.floor ≡ busy runner.crossings.caller old.floor = ap (busy runner.crossings.caller) gains.floor in
        let after : ticket.incarnation ≡ new.incarnation = present ∙ sym gains.stays.incarnation in
        let is : rank new.incarnation (new.stales runner.crossings.caller) now runner.at ≡ 2 * ((4 - old.stales runner.crossings.caller) * 262146 + missing (has now) 262144 + 1) =
        ap (rank new.incarnation (new.stales runner.crossings.caller) now) inside ∙ rank_now new.incarnation (new.stales runner.crossings.caller) now after
        ∙ ap (λ n. 2 * ((4 - n) * 262146 + missing (has now) 262144 + 1)) gains.stales in
        let fewer = missing_less (has runner.pages) (has now) 262144 need.first gains.keeps lacks gains.got low in
        record {
          nears = record {
            same = refl;
            counts = may.counts;
            acts = acts_stays runner.crossings.caller old new gains.stays gains.counts.history (inr (inr gains.floor)) (firsts_stays old new runner.crossings.caller gains.stays.seats gains.mine gains.counts.history gains.counts.begun) (trail_marks old.trail new.trail gains.log.trail);
            lined = line_same runner.crossings.caller old new gains.stays.config gains.counts gains.mine;
            balanced = balanced_same old new gains.counts;
            served = record {
              caller_is = refl;
              ordinal = may.served.ordinal;
              calls = rw (gains.mine, gains.counts.history) may.served.calls;
              marked = rw gains.mine may.served.marked;
              stands = subst (IsStanding new runner.crossings.caller now) (sym inside) (
                rw gains.mine stood.0,
                record {
                  mine = own_ticket;
                  past = omega (arith, stood.1.past, gains.stays.incarnation);
                  runs = λ present. gains.stays.stage ∙ stood.1.runs (present ∙ gains.stays.incarnation);
                  same = λ present. gains.same (stood.1.same (present ∙ gains.stays.incarnation));
                  tables = rw gains.stays.config (gains.tables stood.1.tables);
                },
              );
              counted = rw gains.stays.records may.served.counted;
              past = rw (gains.counts.history, gains.stays.records) may.served.past;
              once = rw gains.stays.records may.served.once;
            };
            sound = rw gains.stays.records may.sound;
            entered = λ was. rw (gains.counts.history, gains.stays.records) was;
            seals = timely_gains runner.crossings.caller old new need runner.pages now gains;
          };
          goes = (refl, omega (arith, same.0, same.1, same.2, floor, is, rank_was present, fewer));
        }

    pub did_device : (new : Sight) → ticket.incarnation ≡ old.incarnation → ((flight : Flight) → (old.seats ticket.caller).flight ≡ Some flight → Answers ticket.caller flight reply.Device old new) → Did calls test old new runner (advanced runner) went.Ended
    did_device new present given =
        let here = subst (IsAtBy (calls_of calls runner.crossings.caller) (calls_in old.history runner.crossings.caller) runner.done (old.seats runner.crossings.caller).begun) stood.0.here may.served.calls in
        let made : Answers runner.crossings.caller stood.0.flight reply.Device old new = subst (λ n. Answers n stood.0.flight reply.Device old new) own_ticket (given stood.0.flight (ap (λ n. (old.seats n).flight) own_ticket ∙ stood.0.here)) in
        did_answer calls test old runner call may new stood.0.flight reply.Device made refl (inr (runs_not_failed old.stage (stood.1.runs present))) stood.0.answered (here.1, here.1, here.2, here.3)
        (λ made line. line_open runner.crossings.caller stood.0.flight reply.Device old new made stood.0.here line)
        (λ made. inl (record { was = stood.0.flight; here = stood.0.here; ordinal = refl; moment = refl }))

    pub did_busy : (new : Sight) (holder : Ticket) → FinishesInSight old new ticket runner.pages call (finished.Busy holder) → Did calls test old new runner (record runner { asked = true }) (went.Busy holder)
    did_busy new holder finishes = subst (λ (s : Sight). Did calls test old s runner (record runner { asked = true }) (went.Busy holder)) (sym finishes.3) (record {
      nears = record {
        same = refl;
        counts = may.counts;
        acts = acts_same runner.crossings.caller old;
        lined = λ line. line;
        balanced = λ even. even;
        served = record { caller_is = refl; ordinal = may.served.ordinal; calls = may.served.calls; marked = may.served.marked; stands = may.served.stands; counted = may.served.counted; past = may.served.past; once = may.served.once };
        sound = may.sound;
        entered = λ was. was;
        seals = timely_refl old;
      };
      goes = (refl, omega arith, refl, finishes.1, (λ same. finishes.2 (same ∙ sym own_ticket)), stood.1.runs finishes.0);
    })

    pub did_stale : (new : Sight) (block : ℕ) → FinishesInSight old new ticket runner.pages call (finished.Stale block) → Did calls test old new runner (record runner { asked = false; pages = no_pages }) went.On
    did_stale new block finishes =
        let present = finishes.0 in
        let stale = subst (λ n. IsStale n old new runner.pages) own_ticket finishes.1 in
        let same = same_work new stale.stays.config stale.stays.records stale.stays.stage in
        let free : busy runner.crossings.caller new.floor ≡ 0 = elim stale.floor [ inl none ↦ ap (busy runner.crossings.caller) none | inr mine ↦ ap (busy runner.crossings.caller) mine ∙ ap (λ b. cond b 0 1) (eq-eqb runner.crossings.caller runner.crossings.caller refl) ] in
        let after : ticket.incarnation ≡ new.incarnation = present ∙ sym stale.stays.incarnation in
        let is : rank new.incarnation (new.stales runner.crossings.caller) no_pages runner.at ≡ 2 * ((4 - min (old.stales runner.crossings.caller + 1) 4) * 262146 + missing (has no_pages) 262144 + 1) =
        ap (rank new.incarnation (new.stales runner.crossings.caller) no_pages) inside ∙ rank_now new.incarnation (new.stales runner.crossings.caller) no_pages after
        ∙ ap (λ n. 2 * ((4 - n) * 262146 + missing (has no_pages) 262144 + 1)) stale.stales in
        let few = stale.few (stood.1.same present) in
        record {
          nears = record {
            same = refl;
            counts = may.counts;
            acts = acts_stays runner.crossings.caller old new stale.stays stale.counts.history (elim stale.floor [ inl none ↦ inl none | inr mine ↦ inr (inl mine) ]) (firsts_stays old new runner.crossings.caller stale.stays.seats stale.mine stale.counts.history stale.counts.begun) (trail_put old.trail (step.Stale stale.ticket stale.block ∷ []) new.trail stale.trail);
            lined = line_same runner.crossings.caller old new stale.stays.config stale.counts stale.mine;
            balanced = balanced_same old new stale.counts;
            served = record {
              caller_is = refl;
              ordinal = may.served.ordinal;
              calls = rw (stale.mine, stale.counts.history) may.served.calls;
              marked = rw stale.mine may.served.marked;
              stands = subst (IsStanding new runner.crossings.caller no_pages) (sym inside) (
                rw stale.mine stood.0,
                record {
                  mine = own_ticket;
                  past = omega (arith, stood.1.past, stale.stays.incarnation);
                  runs = λ present. stale.stays.stage ∙ stood.1.runs (present ∙ stale.stays.incarnation);
                  same = λ present. stale.empty;
                  tables = tt;
                },
              );
              counted = rw stale.stays.records may.served.counted;
              past = rw (stale.counts.history, stale.stays.records) may.served.past;
              once = rw stale.stays.records may.served.once;
            };
            sound = rw stale.stays.records may.sound;
            entered = λ was. rw (stale.counts.history, stale.stays.records) was;
            seals = timely_stale runner.crossings.caller old new runner.pages ticket stale stood.0 present few;
          };
          goes = (refl, omega (arith, same.0, same.1, same.2, free, is, rank_was present, few, missing_most (has no_pages) 262144));
        }

    pub did_log : (new : Sight) → ticket.incarnation ≡ old.incarnation → LogsCall ticket.caller old new → (late_in new ≤ late_in old → IsTimely 0 old new) → Did calls test old new runner (record runner { at = at.Logged ticket; answered = true }) went.On
    did_log new present of timely =
        let logs = subst (λ n. LogsCall n old new) own_ticket of in
        let same = same_work new logs.stays.config logs.stays.records logs.stays.stage in
        let free : busy runner.crossings.caller new.floor ≡ 0 = ap (busy runner.crossings.caller) logs.floor in
        let after : ticket.incarnation ≡ new.incarnation = present ∙ sym logs.stays.incarnation in
        let is : rank new.incarnation (new.stales runner.crossings.caller) runner.pages (at.Logged ticket) ≡ 0 = ap (λ b. cond b 0 8388608) (eq-eqb ticket.incarnation new.incarnation after) in
        let entry = entry_of runner.crossings.caller logs.flight logs.pick logs.answer in
        let one : logs.flight ≡ stood.0.flight = same_Some logs.flight stood.0.flight (sym logs.was ∙ stood.0.here) in
        let lacks : logs.flight.answered ≡ false = ap (λ (f : Flight). f.answered) one ∙ stood.0.answered in
        let here = subst (IsAtBy (calls_of calls runner.crossings.caller) (calls_in old.history runner.crossings.caller) runner.done (old.seats runner.crossings.caller).begun) logs.was may.served.calls in
        record {
          nears = record {
            same = refl;
            counts = may.counts;
            acts = acts_entry runner.crossings.caller old new entry logs.stays refl logs.history (inl logs.floor) (firsts_logs old new runner.crossings.caller may.within logs (counted_from logs.flight.ordinal runner.done here.1)) logs.trail;
            balanced = balanced_logs runner.crossings.caller old new logs;
            lined = λ line. rw logs.mine (line_logs runner.crossings.caller logs.flight old new entry logs.was lacks logs.stays.config logs.begun refl logs.history line);
            served = record {
              caller_is = refl;
              ordinal = may.served.ordinal;
              marked = rw logs.mine refl;
              calls = rw (logs.mine, logs.history, calls_push old.history entry runner.crossings.caller refl)
                  (at_logs (calls_of calls runner.crossings.caller) (calls_in old.history runner.crossings.caller) runner.done (old.seats runner.crossings.caller).begun logs.flight lacks here);
              stands = (
                rw logs.mine (record {
                  flight = record logs.flight { answered = true };
                  here = refl;
                  mine = ap (λ (f : Flight). f.ticket) one ∙ stood.0.mine;
                  ordinal = stood.0.ordinal ∙ ap (λ (f : Flight). f.ordinal) (sym one);
                  moment = stood.0.moment ∙ ap (λ (f : Flight). f.moment) (sym one);
                  answered = refl;
                }),
                own_ticket,
                omega (arith, stood.1.past, logs.stays.incarnation),
              );
              counted = rw logs.stays.records may.served.counted;
              past = (
                  let most = one_most runner.answered in
                  let own : logs.flight.ordinal ≡ runner.crossings.ordinal = here.1 ∙ sym may.served.ordinal in
                  let few : strikes_inside old.records runner.crossings.caller runner.crossings.ordinal ≤ 1 = subst (IsInsideOnce old.records runner.crossings) inside may.served.once in
                  rw (logs.history, logs.stays.records) (all_both (IsPastOnce old.records runner.crossings true) old.history (entry ∷ [])
                  (past_moves old.records old.records runner.crossings runner.crossings refl runner.answered true old.history (omega (arith, most)) (λ other low mine. refl) may.served.past)
                  (λ mine. (omega (arith, own), λ plain. rw own few), tt)));
              once = tt;
            };
            sound = rw logs.stays.records may.sound;
            entered = λ was. (
                let own : logs.flight.ordinal ≡ runner.crossings.ordinal = here.1 ∙ sym may.served.ordinal in
                rw (logs.history, logs.stays.records) (enters_logged test old.records old.history runner.crossings runner.answered runner.at was ticket entry (ap is_in inside) refl own));
            seals = timely (entry_late old new entry may.right (inr (runs_not_failed old.stage (stood.1.runs present))) logs.history);
          };
          goes = (refl, omega (arith, same.0, same.1, same.2, free, is, rank_was present));
        }

  -- ---- with its entry

  module _ (ticket : Ticket) (logged : runner.at ≡ at.Logged ticket) where
    stood_on : SeatHasTicket true (old.seats runner.crossings.caller) ticket × (ticket.caller ≡ runner.crossings.caller) × (ticket.incarnation ≤ old.incarnation)
    stood_on = subst (IsStanding old runner.crossings.caller runner.pages) logged may.served.stands

    pub own_logged : ticket.caller ≡ runner.crossings.caller
    own_logged = stood_on.1

    pub has_logged : SeatHasTicket true (old.seats ticket.caller) ticket
    has_logged = subst (λ n. SeatHasTicket true (old.seats n) ticket) (sym own_logged) stood_on.0

    pub ordinal_logged : ticket.ordinal ≡ runner.crossings.ordinal
    ordinal_logged =
        let here = subst (IsAtBy (calls_of calls runner.crossings.caller) (calls_in old.history runner.crossings.caller) runner.done (old.seats runner.crossings.caller).begun) stood_on.0.here may.served.calls in
        stood_on.0.ordinal ∙ here.1 ∙ sym may.served.ordinal

    pub stands_logged : Stands old runner.crossings.caller runner ticket
    stands_logged = record { is = subst (λ (a : At). IsIn a ticket) (sym logged) refl; done = true; has = stood_on.0; past = stood_on.2 }

    pub logged_back : ticket.incarnation ≢ old.incarnation → Did calls test old old runner (backed runner) went.Back
    logged_back older = did_back calls test old runner call may ticket stands_logged older

    pub logged_asked : (new : Sight) (now : Runner) (kind : Kind) → place_of Enter ≢ place_of kind → is_own_kind kind ≡ false → IsOrderlyInSight new → Asks test old new runner now ticket kind true → Did calls test old new runner now went.Back
    logged_asked new now kind apart fits right asks = did_asked_by calls test old runner call may new now ticket kind apart (λ has. fits) stands_logged own_logged ordinal_logged right asks

    pub did_left : (new : Sight) (answer : Reply) → LeavesWith old new ticket (left.Left answer) → Did calls test old new runner (advanced runner) went.Ended
    did_left new answer leaves = let made = subst (λ n. EndsFlight n leaves.1.0 old new) own_logged leaves.1.1 in did_leave calls test old runner call may new leaves.1.0 made

pub in_back : (calls : List JobCall) (test : Option (Crossing → Bool)) (old new : Sight) (before now : Runner) (call : Call) (ticket : Ticket) → MayStep calls test old before call → before.at ≡ at.Inside ticket → ticket.incarnation ≡ old.incarnation
    → IsOrderlyInSight new → Asks test old new before now ticket Enter true → AsksAtEntry calls test old new before now went.Back
in_back calls test old new before now call ticket may inside present right asks =
    let did = entering_asked calls test old before call may ticket inside new now present right asks in
    record { nears = did.nears; done = did.goes.0; goes = inr refl; less = omega (arith, did.goes.1); entered = entering_struck calls test old before call may ticket inside new now present asks }

pub in_on : (calls : List JobCall) (test : Option (Crossing → Bool)) (old mid : Sight) (before m : Runner) (call : Call) (ticket : Ticket) → MayStep calls test old before call → before.at ≡ at.Inside ticket → Asks test old mid before m ticket Enter false
    → AsksAtEntry calls test old mid before m went.On
in_on calls test old mid before m call ticket may inside asks =
    let counted_may = may_counted calls test old before call may Enter in
    subst (λ (s : Sight). AsksAtEntry calls test old s before m went.On) (sym asks.0) (subst (λ (r : Runner). AsksAtEntry calls test old old before r went.On) (sym asks.1) (record {
      nears = record { same = refl; counts = counted_may.counts; acts = acts_same before.crossings.caller old; lined = λ line. line; balanced = λ even. even; served = counted_may.served; sound = may.sound; entered = λ was. enters_past test old.records old.history before.crossings before.answered before.at was Enter may.counts asks.2; seals = timely_refl old };
      entered = λ was. entered_in_on calls test old before call may ticket inside asks.2 was;
      done = refl;
      goes = inl refl;
      less = omega arith;
    }))

pub room : (calls : List JobCall) (test : Option (Crossing → Bool)) (old : Sight) (before : Runner) (call : Call) → MayStep calls test old before call → before.done + 2 < 4294967296
room calls test old before call may = let low = slice_get_within (calls_of calls before.crossings.caller) before.done call may.next in omega (arith, low, may.small)

pub asked_room : (calls : List JobCall) (test : Option (Crossing → Bool)) (old mid : Sight) (before m : Runner) (call : Call) (ticket : Ticket) (kind : Kind) → MayStep calls test old before call → Asks test old mid before m ticket kind false
    → m.done + 2 < 4294967296
asked_room calls test old mid before m call ticket kind may asks = room calls test mid m call (asked_may calls test old mid before m call ticket kind may asks)

-- ---- what came of it, after the hook let the call go on

asked_at : (test : Option (Crossing → Bool)) (old mid : Sight) (before m : Runner) (ticket : Ticket) (kind : Kind) → Asks test old mid before m ticket kind false → before.at ≡ at.Inside ticket → m.at ≡ at.Inside ticket
asked_at test old mid before m ticket kind asks inside = ap (λ (r : Runner). r.at) asks.1 ∙ inside

-- what gathering comes to
abbrev pub gathered_runner : Runner → PagesState → Gathered → Runner
gathered_runner m now (gathered.Skip mine was) = backed (record m { pages = now })
gathered_runner m now gathered.Device = advanced (record m { pages = now })
gathered_runner m now gathered.NoMemory = record m { pages = now }
gathered_runner m now gathered.Done = record m { pages = now }

abbrev pub gathered_went : Gathered → Went
gathered_went (gathered.Skip mine was) = went.Back
gathered_went gathered.Device = went.Ended
gathered_went gathered.NoMemory = went.NoMemory
gathered_went gathered.Done = went.On

module _ (calls : List JobCall) (test : Option (Crossing → Bool)) (old : Sight) (runner : Runner) (call : Call) (may : MayStep calls test old runner call) (ticket : Ticket) (inside : runner.at ≡ at.Inside ticket) where
  did_gather : (new : Sight) (need : Need) (now : PagesState) (answer : Gathered) → has runner.pages need.first ≡ false → need.first < 262144 → GathersInSight old new ticket need runner.pages now answer
      → Did calls test old new runner (gathered_runner runner now answer) (gathered_went answer)
  did_gather new need now (gathered.Skip mine was) lacks low gathers =
      subst (λ (s : Sight). Did calls test old s runner (backed runner) went.Back) (sym gathers.1) (inside_back calls test old runner call may ticket inside gathers.0)
  did_gather new need now gathered.Device lacks low gathers = did_device calls test old runner call may ticket inside new gathers.0 gathers.1
  did_gather new need now gathered.NoMemory lacks low gathers =
      subst (λ (s : Sight). Did calls test old s runner (record runner { pages = now }) went.NoMemory) (sym gathers.0)
      (subst (λ ps. Did calls test old old runner (record runner { pages = ps }) went.NoMemory) (sym gathers.1) (did_nothing calls test old runner call may ticket inside))
  did_gather new need now gathered.Done lacks low gathers = did_gain calls test old runner call may ticket inside new need now gathers.0 gathers.1 lacks low

pub asked_gather : (calls : List JobCall) (test : Option (Crossing → Bool)) (old mid new : Sight) (before m : Runner) (call : Call) (ticket : Ticket) (kind : Kind) (need : Need) (now : PagesState) (answer : Gathered)
    → MayStep calls test old before call → before.at ≡ at.Inside ticket → Asks test old mid before m ticket kind false → has before.pages need.first ≡ false → need.first < 262144
    → GathersInSight mid new ticket need m.pages now answer → Did calls test old new before (gathered_runner m now answer) (gathered_went answer)
asked_gather calls test old mid new before m call ticket kind need now answer may inside asks lacks low gathers =
    asked_did calls test old mid new before m (gathered_runner m now answer) ticket kind (gathered_went answer) asks may.counts
    (did_gather calls test mid m call (asked_may calls test old mid before m call ticket kind may asks) ticket (asked_at test old mid before m ticket kind asks inside) new need now answer
    (ap (λ (r : Runner). has r.pages need.first) asks.1 ∙ lacks) low gathers)

-- ---- finishing and leaving

module _ (calls : List JobCall) (test : Option (Crossing → Bool)) (old mid new : Sight) (before m : Runner) (call : Call) (may : MayStep calls test old before call) (ticket : Ticket) (kind : Kind)
    (asks : Asks test old mid before m ticket kind false) where
  pub asked_inside : before.at ≡ at.Inside ticket → m.at ≡ at.Inside ticket
  asked_inside inside = asked_at test old mid before m ticket kind asks inside

  asked_logged : before.at ≡ at.Logged ticket → m.at ≡ at.Logged ticket
  asked_logged logged = ap (λ (r : Runner). r.at) asks.1 ∙ logged

  pub asked_skip : (mine was : ℕ) → before.at ≡ at.Logged ticket → LeavesWith mid new ticket (left.Skip mine was) → Did calls test old new before (backed m) went.Back
  asked_skip mine was logged leaves = asked_did calls test old mid new before m (backed m) ticket kind went.Back asks may.counts
      (subst (λ (s : Sight). Did calls test mid s m (backed m) went.Back) (sym leaves.1)
      (logged_back calls test mid m call (asked_may calls test old mid before m call ticket kind may asks) ticket (asked_logged logged) leaves.0))

  pub asked_left : (answer : Reply) → before.at ≡ at.Logged ticket → LeavesWith mid new ticket (left.Left answer) → Did calls test old new before (advanced m) went.Ended
  asked_left answer logged leaves = asked_did calls test old mid new before m (advanced m) ticket kind went.Ended asks may.counts
      (did_left calls test mid m call (asked_may calls test old mid before m call ticket kind may asks) ticket (asked_logged logged) new answer leaves)

  pub asked_ticket : before.at ≡ at.Inside ticket → SeatHasTicket false (mid.seats ticket.caller) ticket
  asked_ticket inside = has_ticket calls test mid m call (asked_may calls test old mid before m call ticket kind may asks) ticket (asked_inside inside)

  pub asked_entry : before.at ≡ at.Logged ticket → SeatHasTicket true (mid.seats ticket.caller) ticket
  asked_entry logged = has_logged calls test mid m call (asked_may calls test old mid before m call ticket kind may asks) ticket (asked_logged logged)
