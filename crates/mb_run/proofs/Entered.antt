-- A call enters, is answered, or leaves.
use Rattle.std.proofs.Common.{◌≡◌, List, [], ◌∷◌, ℕ, ◌+◌, ◌-◌, ◌*◌, ◌<◌, ◌≤◌, Bool, false, cond, length, inl, inr, refl, ap, sym, subst, ◌∙◌, arith, Option, None, Some, slice_index}
use Rattle.std.specs.List.{AllByRecursion}
use Rattle.mb_edge.specs.Crossings.{place_of}
use Rattle.mb_edge.specs.declared.crossings.Crossing.{Crossing}
use Rattle.mb_edge.specs.declared.crossings.Crossings.{Crossings}
use Rattle.mb_kinds.specs.declared.calls.Call.{Call}
use Rattle.mb_kinds.specs.declared.entries.Flight.{Flight}
use Rattle.mb_kinds.specs.declared.faults.FaultRecord.{FaultRecord}
use Rattle.mb_kinds.specs.declared.faults.Kind.{Kind}
use Rattle.mb_kinds.specs.declared.faults.Kind.TheVariants.{Enter, Gather, Finish, Leave, Remount, Replay}
use Rattle.mb_kinds.specs.declared.faults.Ticket.{Ticket}
use Rattle.mb_kinds.specs.declared.replies.Reply.{Reply}
use Rattle.std.proofs.lemmas.Bool.{eq-eqb}
use Rattle.mb_core_spec.specs.Copies.{PagesState, no_pages}
use Rattle.mb_run.specs.Pages.{has}
use Rattle.mb_run.specs.Events.{Answers, BeginsFlight, EntersInSight, EntersInside, EndsFlight, entry_of}
use Rattle.mb_run.specs.Entering.{EntersIn, HasEnteredPast}
use Rattle.mb_run.specs.Firsts.{KeepsFirsts}
use Rattle.mb_run.specs.Runs.{is_plain}
use Rattle.mb_run.specs.Served.{ActsAlone, AreSixCounts, Did, AsksAtEntry, IsAtBy, IsCounted, InLine, IsBalanced, IsPastOnce, IsStanding, LineBy, MayStep, Nears, advanced, busy, calls_in, calls_of, missing, rank, work}
use Rattle.mb_run.specs.Sights.{IsOld, IsOrderlyInSight, Limits, SightSeat, Sight, flight_of, one_if, recovers}
use Rattle.mb_run.specs.declared.runner.At.{At}
use Rattle.mb_run.specs.declared.runner.At.TheVariants as at
use Rattle.mb_run.specs.declared.answers.EnterAnswer.TheVariants as enter
use Rattle.mb_jobs.specs.declared.jobs.JobCall.{JobCall}
use Rattle.mb_run.specs.declared.progress.Went.{Went}
use Rattle.mb_run.specs.declared.progress.Went.TheVariants as went
use Rattle.mb_run.specs.declared.runner.Runner.{Runner}
use Rattle.mb_run.proofs.Acting.{acts_same, acts_then, acts_stays, acts_entry}
use Rattle.mb_run.proofs.Balance.{balanced_answers, balanced_begins, balanced_same, marked_begins, marked_lacks}
use Rattle.mb_run.proofs.Firsts.{CameFrom, came_from, counted_from, firsts_answers, firsts_begins, firsts_leaves}
use Rattle.mb_run.proofs.Late.{MayTell, told_entering}
use Rattle.mb_run.proofs.Lines.{line_enters, line_leaves}
use Rattle.mb_run.proofs.Openings.{line_answers, line_made}
use Rattle.mb_run.proofs.Entering.{enters_back, enters_next, entries_next, own_taken}
use Rattle.mb_run.proofs.Lists.{all_both, all_map, calls_push}
use Rattle.mb_run.proofs.Missing.{missing_most}
use Rattle.mb_run.proofs.Once.{one_most, past_moves, unplain_is}
use Rattle.mb_run.proofs.Places.{at_begins, at_ends, at_leaves}
use Rattle.mb_run.proofs.Trails.{trail_marks}
use Rattle.mb_run.proofs.Twice.{once_at_most}
use Rattle.mb_run.specs.Timely.{IsTimely}
use Rattle.mb_run.proofs.Timely.{timely_answers, timely_inside, timely_leaves, timely_refl, timely_then, timely_waits_outside}

old_begins : (sight : Sight) (caller : ℕ) (call : Call) (incarnation : ℕ) (before : Option Flight) → IsOld incarnation before → IsOld incarnation (Some (flight_of sight caller call before))
old_begins sight caller call incarnation None old = tt
old_begins sight caller call incarnation (Some flight) old = old

counted_next : (crossings next : Crossings) (records : List FaultRecord) → next.caller ≡ crossings.caller → next.ordinal ≡ crossings.ordinal + 1 → AllByRecursion (IsCounted crossings) records → AllByRecursion (IsCounted next) records
counted_next crossings next records same more all = all_map (IsCounted crossings) (IsCounted next) records
    (λ fault is mine. elim (is (mine ∙ same)) [ inl earlier ↦ inl (omega (arith, earlier)) | inr here ↦ inl (omega (arith, here.0)) ]) all

pub no_counts : (crossings : Crossings) → AreSixCounts (record crossings { counts = 0 ∷ 0 ∷ 0 ∷ 0 ∷ 0 ∷ 0 ∷ [] })
no_counts crossings = record {
  six = refl;
  fits = λ kind. elim kind as (λ (k : Kind). slice_index (0 ∷ 0 ∷ 0 ∷ 0 ∷ 0 ∷ 0 ∷ []) (place_of k) ≤ 4294967295) [
    | Enter ↦ omega arith
    | Gather ↦ omega arith
    | Finish ↦ omega arith
    | Leave ↦ omega arith
    | Remount ↦ omega arith
    | Replay ↦ omega arith
  ];
}

rank_outside : (incarnation stales : ℕ) (pages : PagesState) (a : At) → a ≡ at.Outside → rank incarnation stales pages a ≡ 4194304
rank_outside incarnation stales pages a outside = ap (rank incarnation stales pages) outside

module _ (calls : List JobCall) (test : Option (Crossing → Bool)) (old : Sight) (runner : Runner) (call : Call) (may : MayStep calls test old runner call) where
  -- the entries so far are of calls before the next one
  ended : AllByRecursion (IsPastOnce old.records (advanced runner).crossings false) old.history
  ended = let most = one_most runner.answered in past_moves old.records old.records runner.crossings (advanced runner).crossings refl runner.answered false old.history (omega (arith, most)) (λ entry low mine. refl) may.served.past

  -- the call has its entry and its flight ends
  pub did_end : (new : Sight) → ActsAlone runner.crossings.caller old new → (InLine runner.crossings.caller old → InLine runner.crossings.caller new) → (IsBalanced old → IsBalanced new) → IsTimely 0 old new → new.records ≡ old.records → AllByRecursion (IsPastOnce old.records (advanced runner).crossings false) new.history
      → (EntersIn test old runner runner.at → AllByRecursion (HasEnteredPast test old.records (advanced runner).crossings false) new.history)
      → IsAtBy (calls_of calls runner.crossings.caller) (calls_in new.history runner.crossings.caller) (runner.done + 1) (new.seats runner.crossings.caller).begun (new.seats runner.crossings.caller).flight
      → (new.seats runner.crossings.caller).flight ≡ None → Did calls test old new runner (advanced runner) went.Ended
  did_end new acts lined balanced seals records past entered here gone = record {
    nears = record {
      same = refl;
      counts = no_counts (advanced runner).crossings;
      acts = acts;
      lined = lined;
      balanced = balanced;
      served = record {
        caller_is = refl;
        ordinal = ap (λ n. n + 1) may.served.ordinal;
        calls = here;
        stands = rw gone tt;
        marked = rw gone refl;
        counted = rw records (counted_next runner.crossings (advanced runner).crossings old.records refl refl may.served.counted);
        past = rw records past;
        once = tt;
      };
      sound = rw records may.sound;
      entered = λ was. rw records (enters_next test old.records old.history runner.crossings runner.answered runner.at was may.served.counted (advanced runner).crossings refl refl refl new.history (entered was));
      seals = seals;
    };
    goes = (refl, gone);
  }

  pub did_leave : (new : Sight) (flight : Flight) → EndsFlight runner.crossings.caller flight old new → Did calls test old new runner (advanced runner) went.Ended
  did_leave new flight leaves =
      let was = subst (IsAtBy (calls_of calls runner.crossings.caller) (calls_in old.history runner.crossings.caller) runner.done (old.seats runner.crossings.caller).begun) leaves.was may.served.calls in
      did_end new (acts_stays runner.crossings.caller old new leaves.stays leaves.counts.history (elim leaves.floor [ inl none ↦ inl none | inr same ↦ inr (inr same) ]) (firsts_leaves old new runner.crossings.caller flight may.within (counted_from flight.ordinal runner.done was.1) (was.0 ∙ sym was.1) leaves) (trail_marks old.trail new.trail leaves.log.trail)) (line_leaves runner.crossings.caller flight old new leaves) (balanced_same old new leaves.counts) (timely_leaves runner.crossings.caller flight old new leaves) leaves.stays.records (rw leaves.counts.history ended)
      (λ was. rw leaves.counts.history (entries_next test old.records old.history runner.crossings runner.answered runner.at was (advanced runner).crossings refl refl))
      (rw (leaves.mine, leaves.counts.history) (at_leaves (calls_of calls runner.crossings.caller) (calls_in old.history runner.crossings.caller) runner.done (old.seats runner.crossings.caller).begun flight leaves.answered was))
      (ap (λ (s : SightSeat). s.flight) leaves.mine)

  -- an entry that changes nothing: the call begins, if it had not, and ends
  pub did_answer : (new : Sight) (flight : Flight) (answer : Reply) → Answers runner.crossings.caller flight answer old new → is_plain answer ≡ false → MayTell old.stage answer → flight.answered ≡ false
      → IsAtBy (calls_of calls runner.crossings.caller) (calls_in old.history runner.crossings.caller) runner.done flight.ordinal (Some flight)
      → (Answers runner.crossings.caller flight answer old new → InLine runner.crossings.caller old → LineBy old.config.start old.history new.begun (Some flight))
      → (Answers runner.crossings.caller flight answer old new → CameFrom old new runner.crossings.caller flight) → Did calls test old new runner (advanced runner) went.Ended
  did_answer new flight answer answers unplain tells lacks here line came =
      let entry = entry_of runner.crossings.caller flight None answer in
      did_end new (acts_entry runner.crossings.caller old new entry answers.stays refl answers.history (elim answers.floor [ inl none ↦ inl none | inr same ↦ inr (inr same) ]) (firsts_answers old new runner.crossings.caller flight answer may.within (counted_from flight.ordinal runner.done here.1) (came answers) answers) (trail_marks old.trail new.trail answers.log.trail)) (λ lined. line_answers runner.crossings.caller flight answer old new answers lacks (line answers lined)) (balanced_answers runner.crossings.caller flight answer old new answers) (timely_answers runner.crossings.caller flight answer old new answers may.right tells) answers.stays.records
      (rw answers.history (all_both (IsPastOnce old.records (advanced runner).crossings false) old.history (entry ∷ []) ended (λ mine. (omega (arith, here.1, may.served.ordinal), λ plain. cc), tt)))
      (λ was. rw answers.history (all_both (HasEnteredPast test old.records (advanced runner).crossings false) old.history (entry ∷ [])
      (entries_next test old.records old.history runner.crossings runner.answered runner.at was (advanced runner).crossings refl refl)
      (λ mine. (omega (arith, here.1, may.served.ordinal), own_taken test old.records old.history runner.crossings runner.answered runner.at was entry refl (here.1 ∙ sym may.served.ordinal) (let none = ap one_if unplain in omega (arith, none))), tt)))
      (rw (answers.mine, answers.history, calls_push old.history entry runner.crossings.caller refl)
      (at_ends (calls_of calls runner.crossings.caller) (calls_in old.history runner.crossings.caller) runner.done flight.ordinal flight lacks here))
      (ap (λ (s : SightSeat). s.flight) answers.mine)

  flight : Flight
  flight = flight_of old runner.crossings.caller call (old.seats runner.crossings.caller).flight

  begun : (flight : Flight) → flight.ordinal ≡ (flight_of old runner.crossings.caller call (old.seats runner.crossings.caller).flight).ordinal → flight.call ≡ (flight_of old runner.crossings.caller call (old.seats runner.crossings.caller).flight).call
      → flight.answered ≡ (flight_of old runner.crossings.caller call (old.seats runner.crossings.caller).flight).answered
      → IsAtBy (calls_of calls runner.crossings.caller) (calls_in old.history runner.crossings.caller) runner.done flight.ordinal (Some flight)
  begun flight ordinal called answered =
      at_begins (calls_of calls runner.crossings.caller) (calls_in old.history runner.crossings.caller) runner.done old runner.crossings.caller call (old.seats runner.crossings.caller).flight flight may.served.calls may.next ordinal called answered

  firsts_in : (new : Sight) (flight : Flight) → flight.ordinal ≡ (flight_of old runner.crossings.caller call (old.seats runner.crossings.caller).flight).ordinal → flight.moment ≡ (flight_of old runner.crossings.caller call (old.seats runner.crossings.caller).flight).moment → flight.call ≡ (flight_of old runner.crossings.caller call (old.seats runner.crossings.caller).flight).call → flight.answered ≡ (flight_of old runner.crossings.caller call (old.seats runner.crossings.caller).flight).answered
      → BeginsFlight runner.crossings.caller flight old new → KeepsFirsts old new
  firsts_in new flight ordinal moment called answered begins =
      let here = begun flight ordinal called answered in
      firsts_begins old new runner.crossings.caller flight may.within (counted_from flight.ordinal runner.done here.1)
      (came_from old new runner.crossings.caller call (old.seats runner.crossings.caller).flight flight refl ordinal moment begins.begun) begins

  pub did_done : (new : Sight) (answer : Reply) → EntersInSight old new runner.crossings.caller call (enter.Done answer) → Did calls test old new runner (advanced runner) went.Ended
  did_done new answer enters = elim enters [
    | inl left ↦ did_leave new left.0 left.1
    | inr made ↦ did_answer new (flight_of old runner.crossings.caller call (old.seats runner.crossings.caller).flight) answer made.2 (unplain_is answer made.1) (told_entering old.stage answer made.1 made.3) made.0 (begun (flight_of old runner.crossings.caller call (old.seats runner.crossings.caller).flight) refl refl refl)
        (λ answers line. line_made runner.crossings.caller call answer old new answers line)
        (λ answers. came_from old new runner.crossings.caller call (old.seats runner.crossings.caller).flight (flight_of old runner.crossings.caller call (old.seats runner.crossings.caller).flight) refl refl refl answers.begun)
  ]

  -- before it the call was outside
  module _ (outside : runner.at ≡ at.Outside) where
    was_old : IsOld old.incarnation (old.seats runner.crossings.caller).flight
    was_old = subst (IsStanding old runner.crossings.caller runner.pages) outside may.served.stands

    pub did_shut : (new : Sight) → EntersInSight old new runner.crossings.caller call enter.Shut → Did calls test old new runner runner went.Shut
    did_shut new enters =
        let begins = enters.2 in
        let limit : new.config.limit ≡ old.config.limit = ap (λ (l : Limits). l.limit) begins.stays.config in
        let same : length new.records ≡ length old.records = ap length begins.stays.records in
        let calm : one_if (recovers new.stage) ≡ one_if (recovers old.stage) = ap (λ s. one_if (recovers s)) begins.stays.stage in
        let floor : busy runner.crossings.caller new.floor ≡ busy runner.crossings.caller old.floor = ap (busy runner.crossings.caller) begins.floor in
        record {
          nears = record {
            same = refl;
            counts = may.counts;
            acts = acts_stays runner.crossings.caller old new begins.stays begins.history (inr (inr begins.floor)) (firsts_in new (flight_of old runner.crossings.caller call (old.seats runner.crossings.caller).flight) refl refl refl refl begins) (trail_marks old.trail new.trail begins.log.trail);
            lined = line_enters runner.crossings.caller call (flight_of old runner.crossings.caller call (old.seats runner.crossings.caller).flight) old new begins refl refl;
            balanced = balanced_begins runner.crossings.caller (flight_of old runner.crossings.caller call (old.seats runner.crossings.caller).flight) old new begins;
            served = record {
              caller_is = refl;
              ordinal = may.served.ordinal;
              calls = rw (begins.mine, begins.history) (begun (flight_of old runner.crossings.caller call (old.seats runner.crossings.caller).flight) refl refl refl);
              marked = rw begins.mine (marked_begins runner.answered old runner.crossings.caller call (old.seats runner.crossings.caller).flight may.served.marked);
              stands = subst (IsStanding new runner.crossings.caller runner.pages) (sym outside)
                  (rw (begins.mine, begins.stays.incarnation) (old_begins old runner.crossings.caller call old.incarnation (old.seats runner.crossings.caller).flight was_old));
              counted = rw begins.stays.records may.served.counted;
              past = rw (begins.history, begins.stays.records) may.served.past;
              once = rw begins.stays.records may.served.once;
            };
            sound = rw begins.stays.records may.sound;
            entered = λ was. rw (begins.history, begins.stays.records) was;
            seals = timely_waits_outside runner.crossings.caller (flight_of old runner.crossings.caller call (old.seats runner.crossings.caller).flight) old new begins
                (old_begins old runner.crossings.caller call old.incarnation (old.seats runner.crossings.caller).flight was_old);
          };
          goes = (
            refl,
            (omega (arith, limit, same, calm, floor, rank_outside new.incarnation (new.stales runner.crossings.caller) runner.pages runner.at outside, rank_outside old.incarnation (old.stales runner.crossings.caller) runner.pages runner.at outside)),
            ap recovers begins.stays.stage ∙ enters.0,
            outside,
            (flight_of old runner.crossings.caller call (old.seats runner.crossings.caller).flight, ap (λ (s : SightSeat). s.flight) begins.mine, enters.1),
          );
        }

    -- inside, with no pages yet
    abbrev pub within : Ticket → Runner
    within ticket = record runner { at = at.Inside ticket; asked = false; pages = no_pages }

    pub may_inside : (mid : Sight) (ticket : Ticket) → EntersInside old mid runner.crossings.caller call ticket → IsOrderlyInSight mid → MayStep calls test mid (within ticket) call
    may_inside mid ticket enters right =
        let begins = enters.begins in
        record {
          served = record {
            caller_is = refl;
            ordinal = may.served.ordinal;
            calls = rw (begins.mine, begins.history) (begun (record (flight_of old runner.crossings.caller call (old.seats runner.crossings.caller).flight) { ticket = Some ticket }) refl refl refl);
            stands = (
              rw begins.mine (record { flight = record (flight_of old runner.crossings.caller call (old.seats runner.crossings.caller).flight) { ticket = Some ticket }; here = refl; mine = refl; ordinal = enters.ordinal; moment = enters.moment; answered = enters.lacks }),
              record {
                mine = enters.own;
                past = omega (arith, enters.present, begins.stays.incarnation);
                runs = λ present. begins.stays.stage ∙ enters.runs;
                same = λ present. enters.empty was_old;
                tables = tt;
              },
            );
            marked = rw begins.mine (marked_begins runner.answered old runner.crossings.caller call (old.seats runner.crossings.caller).flight may.served.marked);
            counted = rw begins.stays.records may.served.counted;
            past = rw (begins.history, begins.stays.records) may.served.past;
            once = (
                let same : (flight_of old runner.crossings.caller call (old.seats runner.crossings.caller).flight).ordinal ≡ runner.crossings.ordinal = (begun (flight_of old runner.crossings.caller call (old.seats runner.crossings.caller).flight) refl refl refl).1 ∙ sym may.served.ordinal in
                rw (begins.stays.records, sym same) (once_at_most old.records runner.crossings.caller (flight_of old runner.crossings.caller call (old.seats runner.crossings.caller).flight).ordinal enters.once));
          };
          sound = rw begins.stays.records may.sound;
          within = rw begins.stays.config may.within;
          most = rw begins.stays.config may.most;
          small = may.small;
          next = may.next;
          counts = may.counts;
          right = right;
        }

    pub did_inside : (mid new : Sight) (now : Runner) (came : Went) (ticket : Ticket) → EntersInside old mid runner.crossings.caller call ticket → AsksAtEntry calls test mid new (within ticket) now came → Did calls test old new runner now came
    did_inside mid new now came ticket enters goes =
        let begins = enters.begins in
        let limit : mid.config.limit ≡ old.config.limit = ap (λ (l : Limits). l.limit) begins.stays.config in
        let same : length mid.records ≡ length old.records = ap length begins.stays.records in
        let calm : one_if (recovers mid.stage) ≡ one_if (recovers old.stage) = ap (λ s. one_if (recovers s)) begins.stays.stage in
        let floor : busy runner.crossings.caller mid.floor ≡ busy runner.crossings.caller old.floor = ap (busy runner.crossings.caller) begins.floor in
        let present : ticket.incarnation ≡ mid.incarnation = enters.present ∙ sym begins.stays.incarnation in
        let inside : rank mid.incarnation (mid.stales runner.crossings.caller) no_pages (at.Inside ticket) ≡ 2 * ((4 - mid.stales runner.crossings.caller) * 262146 + missing (has no_pages) 262144 + 1)
        = ap (λ b. cond b (2 * ((4 - mid.stales runner.crossings.caller) * 262146 + missing (has no_pages) 262144 + 1)) 8388608) (eq-eqb ticket.incarnation mid.incarnation present) in
        let less : work new runner.crossings.caller now < work old runner.crossings.caller runner =
        omega (arith, limit, same, calm, floor, inside, missing_most (has no_pages) 262144, rank_outside old.incarnation (old.stales runner.crossings.caller) runner.pages runner.at outside, goes.less) in
        let nears : Nears calls test old new runner now = record {
          same = goes.nears.same;
          counts = goes.nears.counts;
          acts = acts_then runner.crossings.caller old mid new (acts_stays runner.crossings.caller old mid begins.stays begins.history (inr (inr begins.floor)) (firsts_in mid (record (flight_of old runner.crossings.caller call (old.seats runner.crossings.caller).flight) { ticket = Some ticket }) refl refl refl refl begins) (trail_marks old.trail mid.trail begins.log.trail)) goes.nears.acts;
          lined = λ line. goes.nears.lined (line_enters runner.crossings.caller call (record (flight_of old runner.crossings.caller call (old.seats runner.crossings.caller).flight) { ticket = Some ticket }) old mid begins refl refl line);
          balanced = λ even. goes.nears.balanced (balanced_begins runner.crossings.caller (record (flight_of old runner.crossings.caller call (old.seats runner.crossings.caller).flight) { ticket = Some ticket }) old mid begins even);
          served = goes.nears.served;
          sound = goes.nears.sound;
          entered = λ was. goes.entered (rw (begins.history, begins.stays.records) (enters_back test old.records old.history runner.crossings runner.answered runner.at was));
          seals = timely_then old mid new 0 0 (timely_inside runner.crossings.caller call old mid ticket enters was_old) goes.nears.seals;
        } in
        elim goes.goes [
          | inl on ↦ subst (λ c. Did calls test old new runner now c) (sym on) (record { nears = nears; goes = (goes.done, less) })
          | inr back ↦ subst (λ c. Did calls test old new runner now c) (sym back) (record { nears = nears; goes = (goes.done, less) })
        ]

  -- nothing changed, for want of memory
  pub did_nothing : (new : Sight) → new ≡ old → runner.answered ≡ false → Did calls test old new runner runner went.NoMemory
  did_nothing new same lacks = subst (λ (s : Sight). Did calls test old s runner runner went.NoMemory) (sym same) (record {
    nears = record { same = refl; counts = may.counts; acts = acts_same runner.crossings.caller old; lined = λ line. line; balanced = λ even. even; served = may.served; sound = may.sound; entered = λ was. was; seals = timely_refl old };
    goes = (refl, lacks);
  })

  -- it did not enter, for want of memory
  pub did_not_enter : (new : Sight) → EntersInSight old new runner.crossings.caller call enter.NoMemory → Did calls test old new runner runner went.NoMemory
  did_not_enter new enters = did_nothing new enters.0 (marked_lacks runner.answered old runner.crossings.caller call (old.seats runner.crossings.caller).flight may.served.marked enters.1)
