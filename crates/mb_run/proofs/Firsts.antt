-- The moments of the callers' first calls, event by event.
use Rattle.std.proofs.Common.{◌≡◌, ◌≢◌, ◌⊎◌, List, [], ◌∷◌, ◌++◌, ℕ, zero, suc, ◌+◌, ◌<◌, ◌≤◌, inl, inr, refl, ap, sym, subst, ◌∙◌, arith, true, Option, None, Some, slice_get}
use Rattle.std.proofs.lemmas.Option.{same_Some, slice_get_past}
use Rattle.mb_kinds.specs.declared.calls.Call.{Call}
use Rattle.mb_kinds.specs.declared.entries.Entry.{Entry}
use Rattle.mb_kinds.specs.declared.entries.Flight.{Flight}
use Rattle.mb_kinds.specs.declared.replies.Reply.{Reply}
use Rattle.mb_run.specs.Events.{Answers, BeginsFlight, EndsFlight, entry_of}
use Rattle.mb_run.specs.Firsts.{BeginsFirst, HasFirst, IsFirstEntry, IsFirstFlight, KeepsFirsts}
use Rattle.mb_run.specs.Sights.{Limits, SightSeat, Sight, flight_of, is_new, one_if}
use Rattle.mb_run.proofs.Balance.{LogsCall}
use Rattle.mb_run.proofs.Counting.{same_or_not}

-- ---- lists of entries

never_entry : (entry : Entry) → None ≡ Some entry → ⊥
never_entry entry same = cc

-- what stands in a list that one entry was put behind stood there before, or is that entry
pub pushed_at : (history : List Entry) (last : Entry) (place : ℕ) (entry : Entry) → slice_get (history ++ last ∷ []) place ≡ Some entry → (slice_get history place ≡ Some entry) ⊎ (last ≡ entry)
pushed_at [] last zero entry here = inr (same_Some last entry here)
pushed_at [] last (suc place) entry here = absurd (never_entry entry (sym (slice_get_past [] place (omega arith)) ∙ here))
pushed_at (first ∷ history) last zero entry here = inl here
pushed_at (first ∷ history) last (suc place) entry here = pushed_at history last place entry here

-- ---- steps one after another

pub firsts_same : (s : Sight) → KeepsFirsts s s
firsts_same s = record { begun = omega arith; none = λ caller nil. nil; firsts = λ caller moment has. inl has }

pub firsts_then : (a b d : Sight) → b.config ≡ a.config → KeepsFirsts a b → KeepsFirsts b d → KeepsFirsts a d
firsts_then a b d config one two =
    let start : b.config.start ≡ a.config.start = ap (λ (l : Limits). l.start) config in
    let callers : b.config.callers ≡ a.config.callers = ap (λ (l : Limits). l.callers) config in
    record {
      begun = omega (arith, one.begun, two.begun);
      none = λ caller nil. one.none caller (two.none caller nil);
      firsts = λ caller moment has. elim (two.firsts caller moment has) [
        | inl before ↦ elim (one.firsts caller moment before) [
          | inl first ↦ inl first
          | inr came ↦ inr (record {
            within = came.within;
            none = came.none;
            some = λ nil. came.some (two.none caller nil);
            above = came.above;
            below = omega (arith, came.below, two.begun);
          })
        ]
        | inr came ↦ inr (record {
          within = omega (arith, came.within, callers);
          none = one.none caller came.none;
          some = came.some;
          above = omega (arith, came.above, start, one.begun);
          below = omega (arith, came.below, start);
        })
      ];
    }

-- no call begins, and no entry is added
pub firsts_still : (old new : Sight) → new.history ≡ old.history → new.begun ≡ old.begun → ((caller : ℕ) → new.seats caller ≡ old.seats caller) → KeepsFirsts old new
firsts_still old new history begun seats = record {
  begun = omega (arith, begun);
  none = λ caller nil. ap (λ (s : SightSeat). s.begun) (sym (seats caller)) ∙ nil;
  firsts = λ caller moment has. inl (elim has [
    | inl entry ↦ inl (subst (λ h. IsFirstEntry h caller moment) history entry)
    | inr flight ↦ inr (subst (λ (s : SightSeat). IsFirstFlight s.flight moment) (seats caller) flight)
  ]);
}

-- ---- one caller's call

-- the call was in flight, or it begins
pub record WasThere (old : Sight) (caller : ℕ) (flight : Flight) : Type 0 where
  pub was : Flight
  pub here : (old.seats caller).flight ≡ Some was
  pub ordinal : was.ordinal ≡ flight.ordinal
  pub moment : was.moment ≡ flight.moment

pub record IsNext (old new : Sight) (caller : ℕ) (flight : Flight) : Type 0 where
  pub ordinal : flight.ordinal ≡ (old.seats caller).begun + 1
  pub moment : flight.moment ≡ old.config.start + old.begun + 1
  pub begun : new.begun ≡ old.begun + 1

abbrev pub CameFrom : Sight → Sight → ℕ → Flight → Type 0
CameFrom old new caller flight = WasThere old caller flight ⊎ IsNext old new caller flight

pub record IsEntryOf (caller : ℕ) (flight : Flight) (entry : Entry) : Type 0 where
  pub own : entry.caller ≡ caller
  pub ordinal : entry.ordinal ≡ flight.ordinal
  pub moment : entry.moment ≡ flight.moment

pub came_from : (old new : Sight) (caller : ℕ) (call : Call) (before : Option Flight) (flight : Flight) → (old.seats caller).flight ≡ before
    → flight.ordinal ≡ (flight_of old caller call before).ordinal → flight.moment ≡ (flight_of old caller call before).moment → new.begun ≡ old.begun + one_if (is_new before) → CameFrom old new caller flight
came_from old new caller call None flight is ordinal moment begun = inr (record { ordinal = ordinal; moment = moment; begun = begun })
came_from old new caller call (Some was) flight is ordinal moment begun = inl (record { was = was; here = is; ordinal = sym ordinal; moment = sym moment })

module _ (old new : Sight) (caller : ℕ) (flight : Flight) (within : caller < old.config.callers) (counted : flight.ordinal ≢ 0) (now : (new.seats caller).begun ≡ flight.ordinal) (came : CameFrom old new caller flight) where
  first_from : (moment : ℕ) → flight.ordinal ≡ 1 → flight.moment ≡ moment → HasFirst old caller moment ⊎ BeginsFirst old new.begun (new.seats caller) caller moment
  first_from moment ordinal given = elim came [
    | inl there ↦ inl (inr (record { flight = there.was; here = there.here; ordinal = there.ordinal ∙ ordinal; given = there.moment ∙ given }))
    | inr next ↦ inr (record {
      within = within;
      none = omega (arith, ordinal, next.ordinal);
      some = λ nil. counted (sym now ∙ nil);
      above = omega (arith, given, next.moment);
      below = omega (arith, given, next.moment, next.begun);
    })
  ]

  pub firsts_by : old.begun ≤ new.begun → ((other : ℕ) → other ≢ caller → new.seats other ≡ old.seats other)
      → ((place : ℕ) (entry : Entry) → slice_get new.history place ≡ Some entry → (slice_get old.history place ≡ Some entry) ⊎ IsEntryOf caller flight entry)
      → ((held : Flight) → (new.seats caller).flight ≡ Some held → (held.ordinal ≡ flight.ordinal) × (held.moment ≡ flight.moment))
      → KeepsFirsts old new
  firsts_by begun others entries flights = record {
    begun = begun;
    none = λ other nil. elim (same_or_not other caller) [
      | inl same ↦ absurd (counted (sym now ∙ ap (λ n. (new.seats n).begun) (sym same) ∙ nil))
      | inr apart ↦ ap (λ (s : SightSeat). s.begun) (sym (others other apart)) ∙ nil
    ];
    firsts = λ other moment has. elim has [
      | inl found ↦ elim (entries found.place found.entry found.here) [
        | inl before ↦ inl (inl (record { place = found.place; entry = found.entry; here = before; own = found.own; ordinal = found.ordinal; given = found.given }))
        | inr mine ↦ subst (λ n. HasFirst old n moment ⊎ BeginsFirst old new.begun (new.seats n) n moment) (sym mine.own ∙ found.own)
            (first_from moment (sym mine.ordinal ∙ found.ordinal) (sym mine.moment ∙ found.given))
      ]
      | inr found ↦ elim (same_or_not other caller) [
        | inl same ↦ (let held = flights found.flight (ap (λ n. (new.seats n).flight) (sym same) ∙ found.here) in
            subst (λ n. HasFirst old n moment ⊎ BeginsFirst old new.begun (new.seats n) n moment) (sym same)
            (first_from moment (sym held.0 ∙ found.ordinal) (sym held.1 ∙ found.given)))
        | inr apart ↦ inl (inr (record { flight = found.flight; here = ap (λ (s : SightSeat). s.flight) (sym (others other apart)) ∙ found.here; ordinal = found.ordinal; given = found.given }))
      ]
    ];
  }

never_flight : (flight : Flight) → None ≡ Some flight → ⊥
never_flight flight same = cc

pub more_begun : (old new : Sight) (flight : Option Flight) → new.begun ≡ old.begun + one_if (is_new flight) → old.begun ≤ new.begun
more_begun old new flight begun = omega (arith, begun)

-- the call is in flight
pub firsts_begins : (old new : Sight) (caller : ℕ) (flight : Flight) → caller < old.config.callers → flight.ordinal ≢ 0 → CameFrom old new caller flight → BeginsFlight caller flight old new → KeepsFirsts old new
firsts_begins old new caller flight within counted came begins =
    firsts_by old new caller flight within counted (ap (λ (s : SightSeat). s.begun) begins.mine) came (more_begun old new (old.seats caller).flight begins.begun) begins.stays.seats
    (λ place entry here. inl (subst (λ h. slice_get h place ≡ Some entry) begins.history here))
    (λ held here. (let is : flight ≡ held = same_Some flight held (ap (λ (s : SightSeat). s.flight) (sym begins.mine) ∙ here) in (ap (λ (f : Flight). f.ordinal) (sym is), ap (λ (f : Flight). f.moment) (sym is))))

-- it gets its entry and ends
pub firsts_answers : (old new : Sight) (caller : ℕ) (flight : Flight) (answer : Reply) → caller < old.config.callers → flight.ordinal ≢ 0 → CameFrom old new caller flight → Answers caller flight answer old new → KeepsFirsts old new
firsts_answers old new caller flight answer within counted came answers =
    firsts_by old new caller flight within counted (ap (λ (s : SightSeat). s.begun) answers.mine) came (more_begun old new (old.seats caller).flight answers.begun) answers.stays.seats
    (λ place entry here. elim (pushed_at old.history (entry_of caller flight None answer) place entry (subst (λ h. slice_get h place ≡ Some entry) answers.history here)) [
      | inl before ↦ inl before
      | inr last ↦ inr (record { own = ap (λ (e : Entry). e.caller) (sym last); ordinal = ap (λ (e : Entry). e.ordinal) (sym last); moment = ap (λ (e : Entry). e.moment) (sym last) })
    ])
    (λ held here. absurd (never_flight held (ap (λ (s : SightSeat). s.flight) (sym answers.mine) ∙ here)))

-- it gets its entry and stays
pub firsts_logs : (old new : Sight) (caller : ℕ) → caller < old.config.callers → (logs : LogsCall caller old new) → logs.flight.ordinal ≢ 0 → KeepsFirsts old new
firsts_logs old new caller within logs counted =
    firsts_by old new caller logs.flight within counted (ap (λ (s : SightSeat). s.begun) logs.mine) (inl (record { was = logs.flight; here = logs.was; ordinal = refl; moment = refl })) (omega (arith, logs.begun)) logs.stays.seats
    (λ place entry here. elim (pushed_at old.history (entry_of caller logs.flight logs.pick logs.answer) place entry (subst (λ h. slice_get h place ≡ Some entry) logs.history here)) [
      | inl before ↦ inl before
      | inr last ↦ inr (record { own = ap (λ (e : Entry). e.caller) (sym last); ordinal = ap (λ (e : Entry). e.ordinal) (sym last); moment = ap (λ (e : Entry). e.moment) (sym last) })
    ])
    (λ held here. (let is : record logs.flight { answered = true } ≡ held = same_Some (record logs.flight { answered = true }) held (ap (λ (s : SightSeat). s.flight) (sym logs.mine) ∙ here) in
    (ap (λ (f : Flight). f.ordinal) (sym is), ap (λ (f : Flight). f.moment) (sym is))))

-- it has its entry and ends
pub firsts_leaves : (old new : Sight) (caller : ℕ) (flight : Flight) → caller < old.config.callers → flight.ordinal ≢ 0 → (old.seats caller).begun ≡ flight.ordinal → EndsFlight caller flight old new → KeepsFirsts old new
firsts_leaves old new caller flight within counted last leaves =
    firsts_by old new caller flight within counted (ap (λ (s : SightSeat). s.begun) leaves.mine ∙ last) (inl (record { was = flight; here = leaves.was; ordinal = refl; moment = refl })) (omega (arith, leaves.counts.begun)) leaves.stays.seats
    (λ place entry here. inl (subst (λ h. slice_get h place ≡ Some entry) leaves.counts.history here))
    (λ held here. absurd (never_flight held (ap (λ (s : SightSeat). s.flight) (sym leaves.mine) ∙ here)))

-- the seat of the caller stays too
pub firsts_stays : (old new : Sight) (caller : ℕ) → ((other : ℕ) → other ≢ caller → new.seats other ≡ old.seats other) → new.seats caller ≡ old.seats caller → new.history ≡ old.history → new.begun ≡ old.begun → KeepsFirsts old new
firsts_stays old new caller others mine history begun = firsts_still old new history begun
    (λ other. elim (same_or_not other caller) [ inl same ↦ ap new.seats same ∙ mine ∙ ap old.seats (sym same) | inr apart ↦ others other apart ])

pub counted_from : (ordinal done : ℕ) → ordinal ≡ done + 1 → ordinal ≢ 0
counted_from ordinal done is nil = omega (arith, is, nil)
