-- Steps of a caller where no fault comes and no call is given up.
use Rattle.std.proofs.Common.{◌≡◌, ◌≢◌, ◌⊎◌, List, [], ◌∷◌, ◌++◌, ℕ, Bool, true, false, refl, inl, inr, ap, sym, subst, ◌∙◌, Option, None, Some, IfSome, ◌+◌}
use Rattle.mb_core_spec.specs.Copies.{PagesState, no_pages}
use Rattle.mb_core_state.specs.declared.answers.Gathered.TheVariants as gathered
use Rattle.mb_edge.specs.declared.crossings.Crossing.{Crossing}
use Rattle.mb_iface.specs.declared.replies.Need.{Need}
use Rattle.mb_jobs.specs.declared.jobs.JobCall.{JobCall}
use Rattle.mb_kinds.specs.declared.calls.Call.{Call}
use Rattle.mb_kinds.specs.declared.entries.Entry.{Entry}
use Rattle.mb_kinds.specs.declared.entries.Flight.{Flight}
use Rattle.mb_kinds.specs.declared.faults.Kind.{Kind}
use Rattle.mb_kinds.specs.declared.faults.Kind.TheVariants.{Gather}
use Rattle.mb_kinds.specs.declared.faults.Ticket.{Ticket}
use Rattle.mb_kinds.specs.declared.replies.Reply.{Reply}
use Rattle.mb_kinds.specs.declared.replies.Reply.TheVariants as reply
use Rattle.mb_run.specs.Calm.{AreAllPlain, CalmlyFrom, HoldsNowhere, PassesBy, StepsCalmly}
use Rattle.mb_run.specs.Events.{Answers, EntersInSight, EntersInside, GathersInSight, IsUnplain, entry_of}
use Rattle.mb_run.specs.Pages.{has}
use Rattle.mb_run.specs.Recovering.{next_of}
use Rattle.mb_run.specs.Seals.{is_plain}
use Rattle.mb_run.specs.Served.{ActsAlone, Asks, MayStep}
use Rattle.mb_run.specs.Sights.{IsOld, Sight, flight_of}
use Rattle.mb_run.specs.declared.answers.EnterAnswer.TheVariants as enter
use Rattle.mb_run.specs.declared.runner.At.{At}
use Rattle.mb_run.specs.declared.runner.At.TheVariants as at
use Rattle.mb_run.specs.declared.runner.Runner.{Runner}
use Rattle.mb_run.proofs.Inside.{has_ticket}
use Rattle.mb_run.proofs.Once.{unplain_is}
use Rattle.mb_run.proofs.Rolling.{not_running}

-- ---- entries

no_both : true ≡ false → ⊥
no_both same = cc

never_flight : (flight : Flight) → None ≡ Some flight → ⊥
never_flight flight same = cc

pub plain_front : (xs ys : List Entry) → AreAllPlain (xs ++ ys) → AreAllPlain xs
plain_front [] ys plain = tt
plain_front (x ∷ xs) ys plain = (plain.0, plain_front xs ys plain.1)

plain_last : (xs : List Entry) (entry : Entry) → AreAllPlain (xs ++ entry ∷ []) → is_plain entry.reply ≡ true
plain_last [] entry plain = plain.0
plain_last (x ∷ xs) entry plain = plain_last xs entry plain.1

pub plain_before : (old new : Sight) (entries : List Entry) → new.history ≡ old.history ++ entries → AreAllPlain new.history → AreAllPlain old.history
plain_before old new entries grown plain = plain_front old.history entries (subst AreAllPlain grown plain)

never_plain : (answer : Reply) → IsUnplain answer → is_plain answer ≡ true → ⊥
never_plain answer unplain plain = no_both (sym plain ∙ unplain_is answer unplain)

-- a call that was given up has an entry that is not plain
answers_unplain : (caller : ℕ) (flight : Flight) (answer : Reply) (old new : Sight) → Answers caller flight answer old new → IsUnplain answer → AreAllPlain new.history → ⊥
answers_unplain caller flight answer old new answers unplain plain =
    never_plain answer unplain (plain_last old.history (entry_of caller flight None answer) (subst AreAllPlain answers.history plain))

-- ---- the fault injector

never_holds : (test : Option (Crossing → Bool)) (crossing : Crossing) → HoldsNowhere test → IfSome test (λ fires. fires crossing ≡ true) → ⊥
never_holds None crossing nowhere holds = absurd nowhere
never_holds (Some fires) crossing nowhere holds = no_both (sym holds ∙ nowhere crossing)

pub never_struck : (test : Option (Crossing → Bool)) (old new : Sight) (before now : Runner) (ticket : Ticket) (kind : Kind) → HoldsNowhere test → Asks test old new before now ticket kind true → ⊥
never_struck test old new before now ticket kind nowhere asks = never_holds test (next_of kind before.crossings) nowhere asks.1

pub passes_by : (test : Option (Crossing → Bool)) (old new : Sight) (before now : Runner) (ticket : Ticket) (kind : Kind) → Asks test old new before now ticket kind false → PassesBy old new before now
passes_by test old new before now ticket kind asks = (asks.0, ap (λ (r : Runner). r.at) asks.1, ap (λ (r : Runner). r.pages) asks.1)

pub struck_calm : (capital : Bool) (test : Option (Crossing → Bool)) (old mid new : Sight) (before m now : Runner) (ticket : Ticket) (kind : Kind) → Asks test old mid before m ticket kind true → StepsCalmly capital test old new before now
struck_calm capital test old mid new before m now ticket kind asks = λ nowhere plain. absurd (never_struck test old mid before m ticket kind nowhere asks)

-- ---- a call enters

module _ (test : Option (Crossing → Bool)) (old new : Sight) (before : Runner) (call : Call) (outside : before.at ≡ at.Outside) where
  from_outside : (now : Runner) → CalmlyFrom false old new before now at.Outside → CalmlyFrom false old new before now before.at
  from_outside now calmly = subst (CalmlyFrom false old new before now) (sym outside) calmly

  pub entered_done : (now : Runner) (answer : Reply) → EntersInSight old new before.crossings.caller call (enter.Done answer) → StepsCalmly false test old new before now
  entered_done now answer enters = λ nowhere plain. from_outside now (λ runs free. absurd (elim enters [
    | inl left ↦ never_flight left.0 (sym free ∙ left.1.was)
    | inr made ↦ answers_unplain before.crossings.caller (flight_of old before.crossings.caller call (old.seats before.crossings.caller).flight) answer old new made.2 made.1 plain
  ]))

  pub entered_shut : (now : Runner) → EntersInSight old new before.crossings.caller call enter.Shut → StepsCalmly false test old new before now
  entered_shut now enters = λ nowhere plain. from_outside now (λ runs free. absurd (not_running old enters.0 runs))

-- a new flight
new_ordinal : (sight : Sight) (caller : ℕ) (call : Call) (held : Option Flight) → held ≡ None → (flight_of sight caller call held).ordinal ≡ (sight.seats caller).begun + 1
new_ordinal sight caller call held free = ap (λ (f : Option Flight). (flight_of sight caller call f).ordinal) free

new_is_old : (incarnation : ℕ) (held : Option Flight) → held ≡ None → IsOld incarnation held
new_is_old incarnation held free = subst (IsOld incarnation) (sym free) tt

pub entered_inside : (test : Option (Crossing → Bool)) (old mid new : Sight) (before within now : Runner) (call : Call) (ticket : Ticket) → before.at ≡ at.Outside → EntersInside old mid before.crossings.caller call ticket
    → within.at ≡ at.Inside ticket → within.pages ≡ no_pages → (HoldsNowhere test → PassesBy mid new within now) → StepsCalmly false test old new before now
entered_inside test old mid new before within now call ticket outside enters inside empty passes = λ nowhere plain. (let passed = passes nowhere in
    subst (CalmlyFrom false old new before now) (sym outside) (λ runs free. record {
      ticket = ticket;
      stands = passed.1 ∙ inside;
      own = enters.own;
      ordinal = enters.ordinal ∙ new_ordinal old before.crossings.caller call (old.seats before.crossings.caller).flight free;
      present = enters.present;
      incarnation = ap (λ (s : Sight). s.incarnation) passed.0 ∙ enters.begins.stays.incarnation;
      stage = ap (λ (s : Sight). s.stage) passed.0 ∙ enters.begins.stays.stage;
      trail = ap (λ (s : Sight). s.trail) passed.0 ∙ enters.trail (new_is_old old.incarnation (old.seats before.crossings.caller).flight free);
      bare = λ small. ap (λ (pages : PagesState). has pages 0) (passed.2 ∙ empty);
    }))

-- ---- a call gathers

module _ (calls : List JobCall) (test : Option (Crossing → Bool)) (old mid new : Sight) (before m now : Runner) (call : Call) (ticket : Ticket) (may : MayStep calls test old before call) (inside : before.at ≡ at.Inside ticket)
    (asks : Asks test old mid before m ticket Gather false) (need : Need) (pages : PagesState) where
  from_inside : CalmlyFrom true old new before now (at.Inside ticket) → CalmlyFrom true old new before now before.at
  from_inside calmly = subst (CalmlyFrom true old new before now) (sym inside) calmly

  pub gathered_skip : (mine was : ℕ) → GathersInSight mid new ticket need m.pages pages (gathered.Skip mine was) → StepsCalmly true test old new before now
  gathered_skip mine was gathers = λ nowhere plain. from_inside (λ present any. absurd (gathers.0 (present ∙ ap (λ (s : Sight). s.incarnation) (sym asks.0))))

  pub gathered_device : GathersInSight mid new ticket need m.pages pages gathered.Device → StepsCalmly true test old new before now
  gathered_device gathers = λ nowhere plain. from_inside (λ present any.
      (let has_it = has_ticket calls test old before call may ticket inside in
      absurd (answers_unplain ticket.caller has_it.flight reply.Device mid new (gathers.1 has_it.flight (ap (λ (s : Sight). (s.seats ticket.caller).flight) asks.0 ∙ has_it.here)) tt plain)))

  pub gathered_done : now.at ≡ m.at → GathersInSight mid new ticket need m.pages pages gathered.Done → StepsCalmly true test old new before now
  gathered_done stands gathers = λ nowhere plain. from_inside (λ present any. record {
    stands = stands ∙ ap (λ (r : Runner). r.at) asks.1 ∙ inside;
    incarnation = gathers.1.stays.incarnation ∙ ap (λ (s : Sight). s.incarnation) asks.0;
    stage = gathers.1.stays.stage ∙ ap (λ (s : Sight). s.stage) asks.0;
    trail = gathers.1.trail ∙ ap (λ (s : Sight). s.trail) asks.0;
  })

-- ---- a step

-- and the other way about of one that enters
pub capital_outside : (test : Option (Crossing → Bool)) (old new : Sight) (before now : Runner) → before.at ≡ at.Outside → StepsCalmly false test old new before now → StepsCalmly true test old new before now
capital_outside test old new before now outside steps = λ nowhere plain. subst (CalmlyFrom true old new before now) (sym outside)
    (λ runs free. (let goes = subst (CalmlyFrom false old new before now) outside (steps nowhere plain) runs free in
    record { ticket = goes.ticket; stands = goes.stands; own = goes.own; ordinal = goes.ordinal; present = goes.present; incarnation = goes.incarnation; stage = goes.stage; trail = goes.trail; bare = λ wrong. absurd (no_both wrong) }))

pub logged_calm : (capital : Bool) (test : Option (Crossing → Bool)) (old new : Sight) (before now : Runner) (ticket : Ticket) → before.at ≡ at.Logged ticket → StepsCalmly capital test old new before now
logged_calm capital test old new before now ticket logged = λ nowhere plain. subst (CalmlyFrom capital old new before now) (sym logged) tt

-- ---- steps of a capital letter, one after another

-- no step yet, or steps of a calm caller
abbrev pub IsCalmSoFar : Option (Crossing → Bool) → Sight → Sight → Runner → Runner → Type 0
IsCalmSoFar test old new before now = HoldsNowhere test → AreAllPlain new.history → ((new ≡ old) × (now ≡ before)) ⊎ CalmlyFrom true old new before now before.at

module _ (test : Option (Crossing → Bool)) (old mid new : Sight) (before m now : Runner) where
  next_from : (a : At) → CalmlyFrom true old mid before m a → CalmlyFrom true mid new m now m.at → CalmlyFrom true old new before now a
  next_from at.Outside first then = λ runs free.
      (let goes = first runs free in
      let stays = subst (CalmlyFrom true mid new m now) goes.stands then (goes.present ∙ sym goes.incarnation) (λ wrong. absurd (no_both wrong)) in
      record {
        ticket = goes.ticket;
        stands = stays.stands;
        own = goes.own;
        ordinal = goes.ordinal;
        present = goes.present;
        incarnation = stays.incarnation ∙ goes.incarnation;
        stage = stays.stage ∙ goes.stage;
        trail = stays.trail ∙ goes.trail;
        bare = λ wrong. absurd (no_both wrong);
      })
  next_from (at.Inside ticket) first then = λ present any.
      (let one = first present any in
      let two = subst (CalmlyFrom true mid new m now) one.stands then (present ∙ sym one.incarnation) (λ wrong. absurd (no_both wrong)) in
      record { stands = two.stands; incarnation = two.incarnation ∙ one.incarnation; stage = two.stage ∙ one.stage; trail = two.trail ∙ one.trail })
  next_from (at.Logged ticket) first then = tt

  pub next_calm : IsCalmSoFar test old mid before m → (acts : ActsAlone m.crossings.caller mid new) → StepsCalmly true test mid new m now → StepsCalmly true test old new before now
  next_calm so_far acts steps = λ nowhere plain. elim (so_far nowhere (plain_before mid new acts.entries acts.grown plain)) [
    | inl same ↦ subst (λ (s : Sight). CalmlyFrom true s new before now before.at) same.0 (subst (λ (r : Runner). CalmlyFrom true mid new r now r.at) same.1 (steps nowhere plain))
    | inr first ↦ next_from before.at first (steps nowhere plain)
  ]

pub so_far_calm : (test : Option (Crossing → Bool)) (old new : Sight) (before now : Runner) → StepsCalmly true test old new before now → IsCalmSoFar test old new before now
so_far_calm test old new before now steps = λ nowhere plain. inr (steps nowhere plain)

-- no step more comes
stood_still : (s : Sight) (runner : Runner) (a : At) → runner.at ≡ a → runner.at ≢ at.Outside → CalmlyFrom true s s runner runner a
stood_still s runner at.Outside is inside = absurd (inside is)
stood_still s runner (at.Inside ticket) is inside = λ present any. record { stands = is; incarnation = refl; stage = refl; trail = refl }
stood_still s runner (at.Logged ticket) is inside = tt

pub late_calm : (test : Option (Crossing → Bool)) (old new : Sight) (before now : Runner) → IsCalmSoFar test old new before now → now.at ≢ at.Outside → StepsCalmly true test old new before now
late_calm test old new before now so_far inside = λ nowhere plain. elim (so_far nowhere plain) [
  | inl same ↦ subst (λ (s : Sight). CalmlyFrom true s new before now before.at) same.0 (subst (λ (r : Runner). CalmlyFrom true new new r now r.at) same.1 (stood_still new now now.at refl inside))
  | inr first ↦ first
]
