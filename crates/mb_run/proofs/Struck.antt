-- A call that is struck, or turned away with an old ticket, enters again.
use Rattle.std.proofs.Common.{◌≡◌, ◌≢◌, List, [], ◌∷◌, ◌++◌, ℕ, ◌+◌, ◌-◌, ◌*◌, ◌<◌, ◌≤◌, Bool, true, false, cond, nat_eq, length, inl, inr, refl, ap, sym, subst, ◌∙◌, arith, Option, None, Some, IfSome, length-append}
use Rattle.std.specs.List.{AllByRecursion}
use Rattle.mb_edge.specs.Crossings.{next_nth, place_of}
use Rattle.mb_edge.specs.declared.crossings.Crossing.{Crossing}
use Rattle.mb_kinds.specs.declared.calls.Call.{Call}
use Rattle.mb_kinds.specs.declared.faults.FaultRecord.{FaultRecord}
use Rattle.mb_kinds.specs.declared.faults.Kind.{Kind}
use Rattle.mb_kinds.specs.declared.faults.Kind.TheVariants.{Enter}
use Rattle.mb_kinds.specs.declared.faults.Ticket.{Ticket}
use Rattle.mb_core_spec.specs.Copies.{PagesState}
use Rattle.mb_run.specs.Pages.{has}
use Rattle.mb_run.specs.Entering.{EntersIn, EntersSoFar}
use Rattle.mb_run.specs.Events.{StrikesCall}
use Rattle.mb_run.specs.Served.{Asks, AreSound, Did, IsCounted, MayStep, Nears, backed, busy, counted, missing, rank, work}
use Rattle.mb_run.specs.Sights.{SeatHasTicket, IsOld, IsOrderlyInSight, Limits, SightSeat, Sight, one_if, recovers}
use Rattle.mb_run.specs.Tallies.{is_in}
use Rattle.mb_run.specs.declared.runner.At.{At}
use Rattle.mb_run.specs.declared.runner.At.TheVariants as at
use Rattle.mb_jobs.specs.declared.jobs.JobCall.{JobCall}
use Rattle.mb_run.specs.declared.progress.Went.TheVariants as went
use Rattle.mb_run.specs.declared.runner.Runner.{Runner}
use Rattle.mb_run.proofs.Acting.{acts_same, acts_strikes}
use Rattle.mb_run.proofs.Counting.{counted_are, counted_goes, counted_on, counted_push, counted_taken, sound_push}
use Rattle.mb_run.proofs.Balance.{balanced_same}
use Rattle.mb_run.proofs.Entering.{enters_back, enters_by, enters_struck}
use Rattle.mb_run.proofs.Lines.{line_same}
use Rattle.mb_run.proofs.Lists.{neq}
use Rattle.mb_run.proofs.Missing.{missing_most}
use Rattle.mb_run.proofs.Once.{one_apart, one_most, past_moves, strikes_apart}
use Rattle.mb_run.proofs.TallyRecords.{fault_at}
use Rattle.mb_run.proofs.Timely.{timely_refl, timely_strikes}
use Rattle.mb_run.proofs.Twice.{is_own_kind}

-- ---- numbers

pub busy_most : (caller : ℕ) (floor : Option ℕ) → busy caller floor ≤ 1
busy_most caller None = omega arith
busy_most caller (Some holder) = elim (nat_eq holder caller) as (λ b. cond b 0 1 ≤ 1) [ true ↦ omega arith | false ↦ omega arith ]

pub rank_most : (incarnation stales : ℕ) (pages : PagesState) (a : At) → rank incarnation stales pages a ≤ 8388608
rank_most incarnation stales pages at.Outside = omega arith
rank_most incarnation stales pages (at.Inside ticket) = elim (nat_eq ticket.incarnation incarnation) as (λ b. cond b (2 * ((4 - stales) * 262146 + missing (has pages) 262144 + 1)) 8388608 ≤ 8388608) [
  | true ↦ omega (arith, missing_most (has pages) 262144)
  | false ↦ omega arith
]
rank_most incarnation stales pages (at.Logged ticket) = elim (nat_eq ticket.incarnation incarnation) as (λ b. cond b 0 8388608 ≤ 8388608) [ true ↦ omega arith | false ↦ omega arith ]

-- the ticket that a place has
abbrev pub IsIn : At → Ticket → Type 0
IsIn at.Outside ticket = ⊥
IsIn (at.Inside mine) ticket = mine ≡ ticket
IsIn (at.Logged mine) ticket = mine ≡ ticket

pub rank_old : (incarnation stales : ℕ) (pages : PagesState) (a : At) (ticket : Ticket) → IsIn a ticket → ticket.incarnation ≢ incarnation → rank incarnation stales pages a ≡ 8388608
rank_old incarnation stales pages at.Outside ticket is old = absurd is
rank_old incarnation stales pages (at.Inside mine) ticket is old =
    ap (λ b. cond b (2 * ((4 - stales) * 262146 + missing (has pages) 262144 + 1)) 8388608) (neq mine.incarnation incarnation (λ same. old (ap (λ (t : Ticket). t.incarnation) (sym is) ∙ same)))
rank_old incarnation stales pages (at.Logged mine) ticket is old = ap (λ b. cond b 0 8388608) (neq mine.incarnation incarnation (λ same. old (ap (λ (t : Ticket). t.incarnation) (sym is) ∙ same)))

abbrev strike_at : Ticket → Kind → ℕ → FaultRecord
strike_at ticket kind nth = record { caller = ticket.caller; ordinal = ticket.ordinal; kind = kind; nth = nth }

-- it is inside then
in_one : (a : At) (ticket : Ticket) → IsIn a ticket → is_in a ≡ 1
in_one at.Outside ticket is = absurd is
in_one (at.Inside mine) ticket is = refl
in_one (at.Logged mine) ticket is = refl

-- an entry with this ordinal is of this call, which has it then
answered_by : (answered : Bool) (one ordinal : ℕ) → one < ordinal + one_if answered → ordinal ≡ one → answered ≡ true
answered_by true one ordinal low same = refl
answered_by false one ordinal low same = absurd (omega (arith, low, same))

-- ---- the ticket of a call that stands inside

pub record Stands (sight : Sight) (caller : ℕ) (runner : Runner) (ticket : Ticket) : Type 0 where
  pub is : IsIn runner.at ticket
  pub done : Bool
  pub has : SeatHasTicket done (sight.seats caller) ticket
  pub past : ticket.incarnation ≤ sight.incarnation

old_flight : (incarnation : ℕ) (seat : SightSeat) (done : Bool) (ticket : Ticket) → SeatHasTicket done seat ticket → ticket.incarnation < incarnation → IsOld incarnation seat.flight
old_flight incarnation seat done ticket here past = rw here.here (rw here.mine past)

module _ (calls : List JobCall) (test : Option (Crossing → Bool)) (old : Sight) (runner : Runner) (call : Call) (may : MayStep calls test old runner call) where
  -- the hook let the call go on
  pub may_counted : (kind : Kind) → MayStep calls test old (record runner { crossings = counted runner.crossings kind }) call
  may_counted kind = record {
    served = record {
      caller_is = may.served.caller_is;
      ordinal = may.served.ordinal;
      calls = may.served.calls;
      stands = may.served.stands;
      marked = may.served.marked;
      counted = counted_on runner.crossings (counted runner.crossings kind) old.records (counted_goes runner.crossings kind may.counts) may.served.counted;
      past = may.served.past;
      once = may.served.once;
    };
    sound = may.sound;
    within = may.within;
    most = may.most;
    small = may.small;
    next = may.next;
    counts = counted_are runner.crossings kind may.counts;
    right = may.right;
  }

  -- the faults that it took where it entered, once it was asked and has to enter again; with these records
  abbrev pub EntersAgain : List FaultRecord → Kind → Type 0
  EntersAgain records kind = EntersIn test old runner runner.at → EntersSoFar test records old.history (counted runner.crossings kind) runner.answered at.Outside

  -- nothing changed but that the call is back
  back_counted : (ticket : Ticket) (kind : Kind) → Stands old runner.crossings.caller runner ticket → ticket.incarnation ≢ old.incarnation → EntersAgain old.records kind
      → Nears calls test old old runner (backed (record runner { crossings = counted runner.crossings kind }))
  back_counted ticket kind stands older entered = record {
    same = refl;
    counts = counted_are runner.crossings kind may.counts;
    acts = acts_same runner.crossings.caller old;
    lined = λ line. line;
    balanced = λ even. even;
    served = record {
      caller_is = refl;
      ordinal = may.served.ordinal;
      calls = may.served.calls;
      marked = may.served.marked;
      stands = old_flight old.incarnation (old.seats runner.crossings.caller) stands.done ticket stands.has (omega (arith, stands.past));
      counted = (may_counted kind).served.counted;
      past = may.served.past;
      once = tt;
    };
    sound = may.sound;
    entered = entered;
    seals = timely_refl old;
  }

  pub back_same : (ticket : Ticket) → Stands old runner.crossings.caller runner ticket → ticket.incarnation ≢ old.incarnation → Nears calls test old old runner (backed runner)
  back_same ticket stands older = record {
    same = refl;
    counts = may.counts;
    acts = acts_same runner.crossings.caller old;
    lined = λ line. line;
    balanced = λ even. even;
    served = record {
      caller_is = refl;
      ordinal = may.served.ordinal;
      calls = may.served.calls;
      marked = may.served.marked;
      stands = old_flight old.incarnation (old.seats runner.crossings.caller) stands.done ticket stands.has (omega (arith, stands.past));
      counted = may.served.counted;
      past = may.served.past;
      once = tt;
    };
    sound = may.sound;
    entered = λ was. enters_back test old.records old.history runner.crossings runner.answered runner.at was;
    seals = timely_refl old;
  }

  pub back_less : (ticket : Ticket) → Stands old runner.crossings.caller runner ticket → ticket.incarnation ≢ old.incarnation → work old runner.crossings.caller (backed runner) < work old runner.crossings.caller runner
  back_less ticket stands older = let top = rank_old old.incarnation (old.stales runner.crossings.caller) runner.pages runner.at ticket stands.is older in omega (arith, top)

  pub did_back : (ticket : Ticket) → Stands old runner.crossings.caller runner ticket → ticket.incarnation ≢ old.incarnation → Did calls test old old runner (backed runner) went.Back
  did_back ticket stands older = record { nears = back_same ticket stands older; goes = (refl, back_less ticket stands older) }

  -- the call is struck
  pub struck_near : (new : Sight) (ticket : Ticket) (kind : Kind) → (runner.answered ≡ true → is_own_kind kind ≡ false) → Stands old runner.crossings.caller runner ticket → ticket.caller ≡ runner.crossings.caller → ticket.ordinal ≡ runner.crossings.ordinal
      → IfSome test (λ fires. fires (record { caller = runner.crossings.caller; ordinal = runner.crossings.ordinal; kind = kind; nth = next_nth runner.crossings.counts kind }) ≡ true)
      → EntersAgain (old.records ++ fault_at runner.crossings kind (next_nth runner.crossings.counts kind) ∷ []) kind → StrikesCall old new ticket kind (next_nth runner.crossings.counts kind)
      → Nears calls test old new runner (backed (record runner { crossings = counted runner.crossings kind }))
  struck_near new ticket kind fits stands own ordinal holds entered strikes =
      let fault : FaultRecord = record { caller = runner.crossings.caller; ordinal = runner.crossings.ordinal; kind = kind; nth = next_nth runner.crossings.counts kind } in
      let same : strike_at ticket kind (next_nth runner.crossings.counts kind) ≡ fault = ap (λ n. record { caller = n; ordinal = ticket.ordinal; kind = kind; nth = next_nth runner.crossings.counts kind }) own ∙ ap (λ n. record { caller = runner.crossings.caller; ordinal = n; kind = kind; nth = next_nth runner.crossings.counts kind }) ordinal in
      let more : new.records ≡ old.records ++ fault ∷ [] = strikes.records ∙ ap (λ (r : FaultRecord). old.records ++ r ∷ []) same in
      let taken = counted_taken test runner.crossings kind may.counts holds in
      record {
        same = refl;
        counts = counted_are runner.crossings kind may.counts;
        acts = acts_strikes runner.crossings.caller old new ticket kind (next_nth runner.crossings.counts kind) own strikes;
        lined = line_same runner.crossings.caller old new strikes.config strikes.counts (strikes.seats runner.crossings.caller);
        balanced = balanced_same old new strikes.counts;
        served = record {
          caller_is = refl;
          ordinal = may.served.ordinal;
          calls = rw (strikes.counts.history, strikes.seats runner.crossings.caller) may.served.calls;
          marked = rw (strikes.seats runner.crossings.caller) may.served.marked;
          stands = rw (strikes.seats runner.crossings.caller) (old_flight new.incarnation (old.seats runner.crossings.caller) stands.done ticket stands.has (omega (arith, stands.past, strikes.incarnation)));
          counted = subst (λ rs. AllByRecursion (IsCounted (counted runner.crossings kind)) rs) (sym more)
              (counted_push test runner.crossings (counted runner.crossings kind) old.records fault (counted_goes runner.crossings kind may.counts) taken may.served.counted);
          past = rw (strikes.counts.history, more) (past_moves old.records (old.records ++ fault ∷ []) runner.crossings (counted runner.crossings kind) refl runner.answered runner.answered old.history (omega arith)
              (λ entry low mine. strikes_apart old.records (fault ∷ []) entry.caller entry.ordinal (one_apart entry.caller entry.ordinal fault (λ here. fits (answered_by runner.answered entry.ordinal runner.crossings.ordinal low here)), tt)) may.served.past);
          once = tt;
        };
        sound = subst (AreSound test) (sym more) (sound_push test runner.crossings (counted runner.crossings kind) old.records fault taken may.served.counted may.sound);
        entered = λ was. rw (strikes.counts.history, more) (entered was);
        seals = timely_strikes old new ticket kind (next_nth runner.crossings.counts kind) strikes;
      }

  pub struck_less : (new : Sight) (ticket : Ticket) (kind : Kind) (nth : ℕ) (now : Runner) → IsOrderlyInSight new → StrikesCall old new ticket kind nth → work new runner.crossings.caller now < work old runner.crossings.caller runner
  struck_less new ticket kind nth now right strikes =
      let more : length new.records ≡ length old.records + 1 = ap length strikes.records ∙ length-append old.records (record { caller = ticket.caller; ordinal = ticket.ordinal; kind = kind; nth = nth } ∷ []) in
      let limit : new.config.limit ≡ old.config.limit = ap (λ (l : Limits). l.limit) strikes.config in
      omega (arith, more, limit, right.records, one_most (recovers new.stage), rank_most new.incarnation (new.stales runner.crossings.caller) now.pages now.at, busy_most runner.crossings.caller new.floor)

  -- where the hook was asked: the call is back
  pub did_asked : (new : Sight) (now : Runner) (ticket : Ticket) (kind : Kind) → (runner.answered ≡ true → is_own_kind kind ≡ false) → Stands old runner.crossings.caller runner ticket → ticket.caller ≡ runner.crossings.caller → ticket.ordinal ≡ runner.crossings.ordinal
      → (ticket.incarnation ≢ old.incarnation → EntersAgain old.records kind) → EntersAgain (old.records ++ fault_at runner.crossings kind (next_nth runner.crossings.counts kind) ∷ []) kind
      → IsOrderlyInSight new → Asks test old new runner now ticket kind true → Did calls test old new runner now went.Back
  did_asked new now ticket kind fits stands own ordinal skips strikes right asks = elim asks.2 [
    | inl skipped ↦ subst (λ (s : Sight). Did calls test old s runner now went.Back) (sym skipped.1) (subst (λ (r : Runner). Did calls test old old runner r went.Back) (sym asks.0) (record {
      nears = back_counted ticket kind stands skipped.0 (skips skipped.0);
      goes = (refl, back_less ticket stands skipped.0);
    }))
    | inr struck ↦ subst (λ (r : Runner). Did calls test old new runner r went.Back) (sym asks.0) (record {
      nears = struck_near new ticket kind fits stands own ordinal asks.1 strikes struck.1;
      goes = (refl, struck_less new ticket kind (next_nth runner.crossings.counts kind) (backed (record runner { crossings = counted runner.crossings kind })) right struck.1);
    })
  ]

  -- at another fault point than where it enters
  pub did_asked_by : (new : Sight) (now : Runner) (ticket : Ticket) (kind : Kind) → place_of Enter ≢ place_of kind → (runner.answered ≡ true → is_own_kind kind ≡ false) → Stands old runner.crossings.caller runner ticket
      → ticket.caller ≡ runner.crossings.caller → ticket.ordinal ≡ runner.crossings.ordinal → IsOrderlyInSight new → Asks test old new runner now ticket kind true → Did calls test old new runner now went.Back
  did_asked_by new now ticket kind apart fits stands own ordinal right asks = did_asked new now ticket kind fits stands own ordinal
      (λ older was. enters_back test old.records old.history (counted runner.crossings kind) runner.answered runner.at (enters_by test old.records old.history runner.crossings runner.answered runner.at was kind may.counts apart))
      (λ was. enters_struck test old.records old.history runner.crossings runner.answered runner.at was kind may.counts apart (in_one runner.at ticket stands.is) fits) right asks
