-- A caller that acts alone: what each step of its call leaves of the tally.
use Rattle.std.proofs.Common.{◌≡◌, List, [], ◌∷◌, ℕ, ◌+◌, ◌≤◌, Bool, true, false, inl, inr, refl, ap, sym, subst, ◌∙◌, arith, Option, None, Some}
use Rattle.std.proofs.lemmas.Option.{same_Some}
use Rattle.std.specs.List.{AllByRecursion}
use Rattle.mb_core_spec.specs.Copies.{PagesState, no_pages}
use Rattle.mb_core_state.specs.declared.answers.Finished.TheVariants as finished
use Rattle.mb_core_state.specs.declared.answers.Gathered.TheVariants as gathered
use Rattle.mb_core_state.specs.declared.answers.Left.TheVariants as left
use Rattle.mb_edge.specs.declared.crossings.Crossing.{Crossing}
use Rattle.mb_iface.specs.declared.replies.Need.{Need}
use Rattle.mb_jobs.specs.declared.jobs.JobCall.{JobCall}
use Rattle.mb_kinds.specs.declared.calls.Call.{Call}
use Rattle.mb_kinds.specs.declared.entries.Entry.{Entry}
use Rattle.mb_kinds.specs.declared.entries.Flight.{Flight}
use Rattle.mb_kinds.specs.declared.faults.Kind.TheVariants.{Enter, Gather, Finish, Leave}
use Rattle.mb_kinds.specs.declared.faults.Ticket.{Ticket}
use Rattle.mb_kinds.specs.declared.replies.Reply.{Reply}
use Rattle.mb_kinds.specs.declared.replies.Reply.TheVariants as reply
use Rattle.mb_run.specs.Events.{Answers, EntersInSight, EntersInside, FinishesInSight, Gains, GathersInSight, LeavesWith, Logs, SealsIf, entry_of}
use Rattle.mb_run.specs.Seals.{is_due}
use Rattle.mb_run.specs.Pages.{has}
use Rattle.mb_run.specs.Recovering.{awaits_remount}
use Rattle.mb_run.specs.Runs.{strikes_inside}
use Rattle.mb_run.specs.Served.{Asks, IsAtBy, IsHeld, IsMarked, IsStanding, MayStep, advanced, calls_in, calls_of}
use Rattle.mb_run.specs.Sights.{SeatHasTicket, Sight, flight_of}
use Rattle.mb_run.specs.Tallies.{IsBetween, IsEntering, IsFinishing, IsPast, IsTallied}
use Rattle.mb_run.specs.declared.answers.EnterAnswer.TheVariants as enter
use Rattle.mb_run.specs.declared.runner.At.TheVariants as at
use Rattle.mb_run.specs.declared.runner.Runner.{Runner}
use Rattle.mb_run.proofs.Balance.{marked_here, marked_lacks}
use Rattle.mb_run.proofs.Inside.{own_logged, own_ordinal, own_ticket, ordinal_logged}
use Rattle.mb_run.proofs.Lists.{all_both, all_map}
use Rattle.mb_run.proofs.Once.{awaits_device, restart_runs, unplain_is}
use Rattle.mb_run.proofs.TallyRecords.{tallied_later}
use Rattle.mb_run.proofs.Tallying.{ends_left, ends_outside, ends_unplain, enter_go, enter_struck, entered_logged, finish_go, finished_logged, finish_struck, gather_go, gather_struck, gathered_if, leave_struck, passed_pages, restarted_runs, tally_on, with_counted}
use Rattle.mb_run.proofs.Twice.{once_at_most}

-- ---- a call goes in

module _ (calls : List JobCall) (test : Option (Crossing → Bool)) (old : Sight) (runner : Runner) (call : Call) (may : MayStep calls test old runner call) (ticket : Ticket) (inside : runner.at ≡ at.Inside ticket) where
  stood : SeatHasTicket false (old.seats runner.crossings.caller) ticket × IsHeld old runner.crossings.caller runner.pages ticket
  stood = subst (IsStanding old runner.crossings.caller runner.pages) inside may.served.stands

  lacks : runner.answered ≡ false
  lacks = marked_here runner.answered (old.seats runner.crossings.caller).flight stood.0.flight stood.0.here stood.0.answered may.served.marked

  own : ticket.caller ≡ runner.crossings.caller
  own = own_ticket calls test old runner call may ticket inside

  ordinal : ticket.ordinal ≡ runner.crossings.ordinal
  ordinal = own_ordinal calls test old runner call may ticket inside

  pub in_struck : (new : Sight) (now : Runner) → Asks test old new runner now ticket Enter true → IsEntering test old runner ticket → IsTallied test new now now.at
  in_struck new now asks entering = elim asks.2 [
    | inl skipped ↦ absurd (skipped.0 entering.present)
    | inr struck ↦ subst (λ (r : Runner). IsTallied test new r r.at) (sym asks.0) (enter_struck test old runner may.counts ticket (stood.1.runs entering.present) entering.tallied lacks new own ordinal entering.once struck.1)
  ]

  pub in_go : (new : Sight) (now : Runner) → Asks test old new runner now ticket Enter false → IsEntering test old runner ticket → IsTallied test new now now.at
  in_go new now asks entering =
      subst (λ (s : Sight). IsTallied test s now now.at) (sym asks.0) (subst (λ (r : Runner). IsTallied test old r r.at) (sym asks.1)
      (subst (IsTallied test old (with_counted runner Enter)) (sym inside) (enter_go test old runner may.counts ticket (stood.1.runs entering.present) entering.tallied lacks asks.2 entering.present entering.fresh entering.empty entering.once)))

  -- ---- it gathers

  here : IsTallied test old runner runner.at → IsTallied test old runner (at.Inside ticket)
  here tally = subst (IsTallied test old runner) inside tally

  pub gathering_struck : (new : Sight) (now : Runner) → Asks test old new runner now ticket Gather true → IsTallied test old runner runner.at → IsTallied test new now now.at
  gathering_struck new now asks tally = elim asks.2 [
    | inl skipped ↦ absurd (skipped.0 (here tally).present.0)
    | inr struck ↦ subst (λ (r : Runner). IsTallied test new r r.at) (sym asks.0) (gather_struck test old runner may.counts ticket (stood.1.runs (here tally).present.0) (here tally) lacks new own ordinal struck.1)
  ]

  module _ (mid : Sight) (m : Runner) (asks : Asks test old mid runner m ticket Gather false) where
    pub gathering_skip : (new : Sight) (need : Need) (got : PagesState) (mine was : ℕ) (now : Runner) → GathersInSight mid new ticket need m.pages got (gathered.Skip mine was) → IsTallied test old runner runner.at → IsTallied test new now now.at
    gathering_skip new need got mine was now gathers tally = absurd (gathers.0 ((here tally).present.0 ∙ ap (λ (s : Sight). s.incarnation) (sym asks.0)))

    counted_tally : IsTallied test old runner runner.at → IsTallied test old (with_counted runner Gather) (at.Inside ticket)
    counted_tally tally = gather_go test old runner may.counts ticket (stood.1.runs (here tally).present.0) (here tally) lacks asks.2

    pub gathering_device : (new : Sight) (need : Need) (got : PagesState) → GathersInSight mid new ticket need m.pages got gathered.Device → IsTallied test old runner runner.at → IsBetween test new (advanced m)
    gathering_device new need got gathers tally =
        let given = subst (λ (s : Sight). (flight : Flight) → (s.seats ticket.caller).flight ≡ Some flight → Answers ticket.caller flight reply.Device s new) asks.0 gathers.1 in
        let made : Answers ticket.caller stood.0.flight reply.Device old new = given stood.0.flight (ap (λ n. (old.seats n).flight) own ∙ stood.0.here) in
        subst (λ (r : Runner). IsBetween test new (advanced r)) (sym asks.1)
        (ends_unplain test old new (with_counted runner Gather) made.stays.records made.stays.stage (at.Inside ticket) (counted_tally tally) lacks (entry_of ticket.caller stood.0.flight None reply.Device) own (sym stood.0.ordinal ∙ ordinal) refl (λ wrong. absurd (let no : false ≡ true = wrong in cc)) (λ awaits. refl) made.history)

    pub gathering_done : (new : Sight) (need : Need) (got : PagesState) → GathersInSight mid new ticket need m.pages got gathered.Done → IsTallied test old runner runner.at → IsTallied test new (record m { pages = got }) m.at
    gathering_done new need got gathers tally =
        let gains : Gains ticket.caller old new need m.pages got = subst (λ (s : Sight). Gains ticket.caller s new need m.pages got) asks.0 gathers.1 in
        let was = counted_tally tally in
        subst (λ (r : Runner). IsTallied test new (record r { pages = got }) r.at) (sym asks.1) (subst (IsTallied test new (record (with_counted runner Gather) { pages = got })) (sym inside)
        (tally_on test old new (with_counted runner Gather) (record (with_counted runner Gather) { pages = got }) (at.Inside ticket) (at.Inside ticket) was gains.stays.records gains.stays.stage gains.counts.history refl refl was.asked
        (was.present.0 ∙ sym gains.stays.incarnation, subst (λ n. new.fresh n ≡ true) own (gains.fresh (subst (λ n. old.fresh n ≡ true) (sym own) was.present.1)))
        (gathered_if test old runner may.counts ticket (stood.1.runs (here tally).present.0) (here tally) lacks (has got 0), was.passed.1) (omega arith) (omega arith)))

  -- ---- it finishes

  pub finishing_struck : (new : Sight) (now : Runner) → Asks test old new runner now ticket Finish true → has runner.pages 0 ≡ true → IsTallied test old runner runner.at → IsTallied test new now now.at
  finishing_struck new now asks there tally = elim asks.2 [
    | inl skipped ↦ absurd (skipped.0 (here tally).present.0)
    | inr struck ↦ subst (λ (r : Runner). IsTallied test new r r.at) (sym asks.0) (finish_struck test old runner may.counts ticket (stood.1.runs (here tally).present.0) (here tally) lacks there new own ordinal struck.1)
  ]

  pub finishing_go : (mid : Sight) (m : Runner) → Asks test old mid runner m ticket Finish false → has runner.pages 0 ≡ true → IsTallied test old runner runner.at → IsFinishing test mid m ticket
  finishing_go mid m asks there tally =
      subst (λ (s : Sight). IsFinishing test s m ticket) (sym asks.0) (subst (λ (r : Runner). IsFinishing test old r ticket) (sym asks.1)
      (record { tallied = finish_go test old runner may.counts ticket (stood.1.runs (here tally).present.0) (here tally) lacks there asks.2; fresh = (here tally).present.1 }))

  pub finishing_skip : (new : Sight) (mine was : ℕ) (now : Runner) → FinishesInSight old new ticket runner.pages call (finished.Skip mine was) → IsFinishing test old runner ticket → IsTallied test new now now.at
  finishing_skip new mine was now finishes finishing = absurd (finishes.0 finishing.tallied.present.0)

  pub finishing_stale : (new : Sight) (block : ℕ) (now : Runner) → FinishesInSight old new ticket runner.pages call (finished.Stale block) → IsFinishing test old runner ticket → IsTallied test new now now.at
  finishing_stale new block now finishes finishing =
      let spoiled : old.fresh ticket.caller ≡ false = finishes.1.spoiled (ap old.copies own ∙ stood.1.same finishes.0) in
      absurd (let wrong : true ≡ false = sym finishing.fresh ∙ ap old.fresh (sym own) ∙ spoiled in cc)

  abbrev logged : Runner
  logged = record runner { at = at.Logged ticket; answered = true }

  now_past : (e : Entry) → IsPast test old.records runner.crossings false e → IsPast test old.records runner.crossings true e
  now_past e (inl mine) = absurd (let wrong : false ≡ true = mine.2 in cc)
  now_past e (inr past) = inr past

  logs_tally : (mid : Sight) → ticket.incarnation ≡ old.incarnation → Logs ticket.caller old mid ticket → IsFinishing test old runner ticket → IsTallied test mid logged (at.Logged ticket)
  logs_tally mid now logs finishing =
      let tally = finishing.tallied in
      let one : logs.flight ≡ stood.0.flight = same_Some logs.flight stood.0.flight (sym logs.was ∙ ap (λ n. (old.seats n).flight) own ∙ stood.0.here) in
      let entry : Entry = entry_of ticket.caller logs.flight logs.pick logs.answer in
      let place : entry.ordinal ≡ runner.crossings.ordinal = ap (λ (f : Flight). f.ordinal) one ∙ sym stood.0.ordinal ∙ ordinal in
      let runs = stood.1.runs now in
      let past = subst (λ (b : Bool). AllByRecursion (IsPast test old.records runner.crossings b) old.history) lacks tally.entries in
      let same = logs.stays.records in
      record {
        asked = tally.asked;
        present = (now ∙ sym logs.stays.incarnation, logs.stays.stage ∙ runs);
        records = rw (same, logs.history) (tallied_later old.records old.history entry tally.records);
        enters = rw same (let was = tally.enters in let in_it = entered_logged runner.answered ticket in omega (arith, was, in_it));
        finishes = rw same (let was = tally.finishes in let done = finished_logged runner.answered ticket in omega (arith, was, done));
        remounts = rw (same, logs.stays.stage) tally.remounts;
        own_remounts = λ not. absurd (let wrong : true ≡ false = not in cc);
        owed = λ has awaits. absurd (let wrong : false ≡ true = ap awaits_remount (sym (logs.stays.stage ∙ runs)) ∙ awaits in cc);
        passed = rw same tally.passed;
        taken = rw same tally.taken;
        restarted = inl (rw same (restarted_runs old.records runner.crossings old.stage runner.answered runs tally.restarted));
        entries = rw (same, logs.history)
            (all_both (IsPast test old.records runner.crossings true) old.history (entry ∷ []) (all_map (IsPast test old.records runner.crossings false) (IsPast test old.records runner.crossings true) old.history now_past past) (inl (own, place, refl), tt));
      }

  seals_tally : (mid new : Sight) (due : Bool) → IsTallied test mid logged (at.Logged ticket) → SealsIf due mid new → IsTallied test new logged (at.Logged ticket)
  seals_tally mid new true was seals =
      let records : new.records ≡ mid.records = ap (λ (s : Sight). s.records) seals in
      let on : new.stage ≡ mid.stage = ap (λ (s : Sight). s.stage) seals in
      let history : new.history ≡ mid.history = ap (λ (s : Sight). s.history) seals in
      let incarnation : new.incarnation ≡ mid.incarnation = ap (λ (s : Sight). s.incarnation) seals in
      tally_on test mid new logged logged (at.Logged ticket) (at.Logged ticket) was records on history refl refl was.asked (was.present.0 ∙ sym incarnation, on ∙ was.present.1) was.passed (omega arith) (omega arith)
  seals_tally mid new false was seals = subst (λ (s : Sight). IsTallied test s logged (at.Logged ticket)) (sym seals) was

  pub finishing_logged : (new : Sight) → FinishesInSight old new ticket runner.pages call finished.Logged → IsFinishing test old runner ticket → IsTallied test new logged (at.Logged ticket)
  finishing_logged new finishes finishing =
      let of = finishes.2 in
      seals_tally of.logged new (is_due of.logged.config.threshold of.logged.ops call) (logs_tally of.logged finishes.0 of.logs finishing) of.seals

-- ---- a call leaves

module _ (calls : List JobCall) (test : Option (Crossing → Bool)) (old : Sight) (runner : Runner) (call : Call) (may : MayStep calls test old runner call) (ticket : Ticket) (logged_at : runner.at ≡ at.Logged ticket) where
  done : runner.answered ≡ true
  done =
      let has_it = (subst (IsStanding old runner.crossings.caller runner.pages) logged_at may.served.stands).0 in
      sym (subst (λ (o : Option Flight). IsMarked runner.answered o) has_it.here may.served.marked) ∙ has_it.answered

  there : IsTallied test old runner runner.at → IsTallied test old runner (at.Logged ticket)
  there tally = subst (IsTallied test old runner) logged_at tally

  pub leaving_struck : (new : Sight) (now : Runner) → Asks test old new runner now ticket Leave true → IsTallied test old runner runner.at → IsTallied test new now now.at
  leaving_struck new now asks tally = elim asks.2 [
    | inl skipped ↦ absurd (skipped.0 (there tally).present.0)
    | inr struck ↦ subst (λ (r : Runner). IsTallied test new r r.at) (sym asks.0)
        (leave_struck test old runner may.counts ticket (there tally).present.1 (there tally) done new (own_logged calls test old runner call may ticket logged_at) (ordinal_logged calls test old runner call may ticket logged_at) struck.1)
  ]

  module _ (mid : Sight) (m : Runner) (asks : Asks test old mid runner m ticket Leave false) where
    pub leaving_skip : (new : Sight) (mine was : ℕ) (now : Runner) → LeavesWith mid new ticket (left.Skip mine was) → IsTallied test old runner runner.at → IsTallied test new now now.at
    leaving_skip new mine was now leaves tally = absurd (leaves.0 ((there tally).present.0 ∙ ap (λ (s : Sight). s.incarnation) (sym asks.0)))

    pub leaving_left : (new : Sight) (answer : Reply) → LeavesWith mid new ticket (left.Left answer) → IsTallied test old runner runner.at → IsBetween test new (advanced m)
    leaving_left new answer leaves tally =
        let went = leaves.1.1 in
        let same : (s : Sight) → mid ≡ s → (new.records ≡ s.records) × (new.stage ≡ s.stage) × (new.history ≡ s.history) = λ s is. (went.stays.records ∙ ap (λ (t : Sight). t.records) is, went.stays.stage ∙ ap (λ (t : Sight). t.stage) is, went.counts.history ∙ ap (λ (t : Sight). t.history) is) in
        let now = same old asks.0 in
        subst (λ (r : Runner). IsBetween test new (advanced r)) (sym asks.1) (ends_left test old new runner now.0 now.1 may.counts ticket (there tally) done asks.2 now.2)

-- ---- a call enters

module _ (calls : List JobCall) (test : Option (Crossing → Bool)) (old : Sight) (runner : Runner) (call : Call) (may : MayStep calls test old runner call) (outside : runner.at ≡ at.Outside) where
  abbrev flight : Flight
  flight = flight_of old runner.crossings.caller call (old.seats runner.crossings.caller).flight

  rests : IsTallied test old runner runner.at → IsTallied test old runner at.Outside
  rests tally = subst (IsTallied test old runner) outside tally

  lacks_it : flight.answered ≡ false → runner.answered ≡ false
  lacks_it lacks = marked_lacks runner.answered old runner.crossings.caller call (old.seats runner.crossings.caller).flight may.served.marked lacks

  ordinal_by : (before : Option Flight) → (old.seats runner.crossings.caller).flight ≡ before → (flight_of old runner.crossings.caller call before).ordinal ≡ runner.crossings.ordinal
  ordinal_by None is =
      let at_it = subst (IsAtBy (calls_of calls runner.crossings.caller) (calls_in old.history runner.crossings.caller) runner.done (old.seats runner.crossings.caller).begun) is may.served.calls in
      ap (λ n. n + 1) at_it.0 ∙ sym may.served.ordinal
  ordinal_by (Some held) is =
      let at_it = subst (IsAtBy (calls_of calls runner.crossings.caller) (calls_in old.history runner.crossings.caller) runner.done (old.seats runner.crossings.caller).begun) is may.served.calls in
      at_it.1 ∙ sym may.served.ordinal

  pub entering_done : (new : Sight) (answer : Reply) → EntersInSight old new runner.crossings.caller call (enter.Done answer) → IsTallied test old runner runner.at → IsBetween test new (advanced runner)
  entering_done new answer enters tally = elim enters [
    | inl leaves ↦ (
        let went = leaves.1 in
        let marked : leaves.0.answered ≡ runner.answered = subst (λ (o : Option Flight). IsMarked runner.answered o) went.was may.served.marked in
        ends_outside test old new runner went.stays.records went.stays.stage (rests tally) (sym marked ∙ went.answered) went.counts.history)
    | inr made ↦ (
        let answers = made.2 in
        ends_unplain test old new runner answers.stays.records answers.stays.stage at.Outside (rests tally) (lacks_it made.0) (entry_of runner.crossings.caller flight None answer) refl (ordinal_by (old.seats runner.crossings.caller).flight refl) (unplain_is answer made.1) (restart_runs old.stage answer made.1 made.3) (awaits_device old.stage answer made.1 made.3) answers.history)
  ]

  pub entering_shut : (new : Sight) → EntersInSight old new runner.crossings.caller call enter.Shut → IsTallied test old runner runner.at → IsTallied test new runner runner.at
  entering_shut new enters tally =
      let begins = enters.2 in
      let was = rests tally in
      subst (IsTallied test new runner) (sym outside) (tally_on test old new runner runner at.Outside at.Outside was begins.stays.records begins.stays.stage begins.history refl refl was.asked tt was.passed (omega arith) (omega arith))

  pub entering_inside : (mid : Sight) (ticket : Ticket) (now : Runner) → EntersInside old mid runner.crossings.caller call ticket → now ≡ record runner { at = at.Inside ticket; asked = false; pages = no_pages } → IsTallied test old runner runner.at → IsEntering test mid now ticket
  entering_inside mid ticket now enters is tally =
      let begins = enters.begins in
      let was = rests tally in
      let aged = subst (IsStanding old runner.crossings.caller runner.pages) outside may.served.stands in
      let after : Runner = record runner { at = at.Inside ticket; asked = false; pages = no_pages } in
      subst (λ (r : Runner). IsEntering test mid r ticket) (sym is) (record {
        tallied = tally_on test old mid runner after at.Outside at.Outside was begins.stays.records begins.stays.stage begins.history refl refl refl tt (passed_pages old.records runner.crossings runner.pages no_pages runner.answered was.passed) (omega arith) (omega arith);
        present = enters.present ∙ sym begins.stays.incarnation;
        fresh = enters.fresh aged;
        lacks = lacks_it enters.lacks;
        empty = refl;
        once = rw begins.stays.records (subst (λ n. strikes_inside old.records runner.crossings.caller n ≤ 1) (ordinal_by (old.seats runner.crossings.caller).flight refl) (once_at_most old.records runner.crossings.caller flight.ordinal enters.once));
      })
