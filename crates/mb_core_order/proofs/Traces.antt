-- Each event keeps the trace disciplined, with the places of all callers.
use Rattle.std.proofs.Common.{List, [], ◌∷◌, ◌++◌, ℕ, ◌+◌, ◌≡◌, ◌<◌, ◌≤◌, inl, inr, true, false, Option, Some, None, length, slice_get, slice_set, refl, ap, sym, ◌∙◌, subst, arith, length-append}
use Rattle.std.proofs.lemmas.Bool.Decides.{nat_tests}
use Rattle.std.proofs.lemmas.List.{append-nil, length-set}
use Rattle.std.proofs.lemmas.Option.{slice_get_within}
use Rattle.std.specs.Prelude.{nat_eq, nat_le, nat_lt}
use Rattle.mb_kinds.specs.declared.entries.Entry.{Entry}
use Rattle.mb_kinds.specs.declared.entries.Flight.{Flight}
use Rattle.mb_kinds.specs.declared.faults.FaultRecord.{FaultRecord}
use Rattle.mb_kinds.specs.declared.faults.Ticket.{Ticket}
use Rattle.mb_tree.proofs.FiniteMaps.{one_or_not}
use Rattle.mb_core_spec.specs.Trail.Mode.{Runs, Struck, Again, Dropped, Remounted, Restored, Failed}
use Rattle.mb_oplog.specs.declared.oplogs.Logged.{Logged}
use Rattle.mb_core_spec.specs.declared.stages.Stage.{Stage}
use Rattle.mb_core_spec.specs.declared.stages.Stage.TheVariants as stage
use Rattle.mb_core_spec.specs.declared.steps.Step.{Step}
use Rattle.mb_core_spec.specs.declared.steps.Step.TheVariants as step
use Rattle.mb_core_order.proofs.Beginning.{each_set, set_here, set_there}
use Rattle.mb_core_order.proofs.Overlays.{same_some}
use Rattle.mb_core_order.proofs.Trailing.{folds_more, in_place, is_placed, keys_more, placed_is, seated_step, there}
use Rattle.mb_core_spec.specs.Flights.{HasTicket}
use Rattle.mb_core_spec.specs.State.{CallerState, JournalRoom, JournalState}
use Rattle.mb_core_spec.specs.Traced.{IsMode, IsPlaced, IsPlacedAt, IsSeatedAt, IsTrailed, PlacesTicket}
use Rattle.mb_core_spec.specs.Trail.{Mode, Place, Watch, at_place, enters, is_in, is_new, leaves, logged_key, logged_keys, next, next_in, plain_keys, stays, unwinds, watch_from, when}

-- ---- the tests of a ticket

pub new_later : (ticket : Ticket) (place : Place) → place.ordinal < ticket.ordinal → is_new ticket place ≡ true
new_later ticket place later = (let test : nat_lt place.ordinal ticket.ordinal ≡ true = grind (arith, nat_tests) in rw test refl)

pub new_again : (ticket : Ticket) (place : Place) → place.ordinal ≡ ticket.ordinal → place.incarnation < ticket.incarnation → place.logged ≡ false → is_new ticket place ≡ true
new_again ticket place same later unanswered =
    let low : nat_lt place.ordinal ticket.ordinal ≡ false = grind (arith, nat_tests) in
    let equal : nat_eq place.ordinal ticket.ordinal ≡ true = grind (arith, nat_tests) in
    let test : nat_lt place.incarnation ticket.incarnation ≡ true = grind (arith, nat_tests) in
    rw (low, equal, test, unanswered) refl

fresh_with : (flight : Flight) (old : Option Ticket) (ticket : Ticket) (place : Place) (incarnation caller : ℕ) → PlacesTicket false place flight old → HasTicket caller flight false true incarnation old → flight.answered ≡ false
    → ticket.ordinal ≡ flight.ordinal → ticket.incarnation ≡ incarnation → is_new ticket place ≡ true
fresh_with flight None ticket place incarnation caller placed has unanswered same now = new_later ticket place (omega (arith, placed, same))
fresh_with flight (Some old) ticket place incarnation caller placed has unanswered same now =
    let at : place.incarnation ≡ old.incarnation = placed.incarnation in
    let before : old.incarnation ≤ incarnation = has.before in
    new_again ticket place (placed.ordinal ∙ sym same) (elim (one_or_not old.incarnation incarnation) [
      | inl present ↦ absurd (let wrong : false ≡ true = (has.present present).0 in cc)
      | inr past ↦ omega (arith, at, before, past, now)
    ]) (placed.logged ∙ unanswered)

-- a call that was unwound, or waited, enters again: while the volume runs no ticket of the present incarnation is outside
pub fresh_again : (mine : CallerState) (flight : Flight) (ticket : Ticket) (place : Place) (incarnation caller : ℕ) → mine.flight ≡ Some flight → mine.inside ≡ false → HasTicket caller flight false true incarnation flight.ticket
    → IsSeatedAt mine place → flight.answered ≡ false → ticket.ordinal ≡ flight.ordinal → ticket.incarnation ≡ incarnation → is_new ticket place ≡ true
fresh_again mine flight ticket place incarnation caller flies outside has seat unanswered same now =
    let one : IsPlaced mine.inside place (Some flight) = subst (IsPlaced mine.inside place) flies seat.placed in
    let two : PlacesTicket false place flight flight.ticket = subst (λ b. PlacesTicket b place flight flight.ticket) outside one in
    fresh_with flight flight.ticket ticket place incarnation caller two has unanswered same now

-- ---- a step of one caller's ticket

-- what a step does with the place of its caller
pub record Takes (f : Place → Option Place) (place : Place) (new : CallerState) : Type 0 where
  pub after : Place
  pub takes : f place ≡ Some after
  pub seated : IsSeatedAt new after

module _ (journal : JournalState) (callers : List CallerState) (was now : Stage) (h : IsTrailed journal callers was) (at : ℕ) (mine : CallerState) (has : slice_get callers at ≡ Some mine) (ticket : Ticket) (caller : ticket.caller ≡ at)
    (f : Place → Option Place) (one : Step) (new : CallerState) (mode : Mode) (since : ℕ) (moves : next h.watch one ≡ at_place (record h.watch { mode = mode; since = since }) ticket f)
    (takes : (place : Place) → IsSeatedAt mine place → Takes f place new) (stands : IsMode now mode (slice_set callers at new)) where
  found : (place : Place) × (slice_get h.watch.places at ≡ Some place)
  found = let low = slice_get_within callers at mine has in let long = h.places in there h.watch.places at (omega arith)

  step_takes : Takes f found.0 new
  step_takes = takes found.0 (h.seated at mine has found.0 found.1)

  mine_sits : (place : Place) → slice_get (slice_set h.watch.places ticket.caller step_takes.after) at ≡ Some place → IsSeatedAt new place
  mine_sits place sits =
      let here = set_here h.watch.places at found.0 step_takes.after found.1 in
      let same : step_takes.after ≡ place = same_some step_takes.after place (sym here ∙ ap (λ c. slice_get (slice_set h.watch.places c step_takes.after) at) (sym caller) ∙ sits) in
      subst (IsSeatedAt new) same step_takes.seated

  pub trailed_moves : (history : List Entry) (oplog : List Logged) (room : JournalRoom) → length oplog ≤ since → plain_keys history ≡ logged_keys (journal.trail ++ one ∷ [])
      → IsTrailed (record journal { history = history; oplog = oplog; trail = journal.trail ++ one ∷ []; room = room }) (slice_set callers at new) now
  trailed_moves history oplog room covers plain = record {
    watch = record h.watch { mode = mode; since = since; places = slice_set h.watch.places ticket.caller step_takes.after };
    folded = rw (length-set callers at new) (folds_more next (watch_from (length callers)) h.watch _ journal.trail one h.folded
        (moves ∙ seated_step (record h.watch { mode = mode; since = since }) ticket f found.0 step_takes.after (ap (slice_get h.watch.places) caller ∙ found.1) step_takes.takes));
    places = length-set h.watch.places ticket.caller step_takes.after ∙ h.places ∙ sym (length-set callers at new);
    mode = stands;
    struck = h.struck;
    covers = covers;
    sealed = h.sealed;
    seated = each_set (λ c d. (place : Place) → slice_get (slice_set h.watch.places ticket.caller step_takes.after) c ≡ Some place → IsSeatedAt d place) callers at mine new has mine_sits
        (λ c d apart is place sits. h.seated c d is place (sym (set_there h.watch.places ticket.caller c step_takes.after (λ e. apart (e ∙ caller))) ∙ sits));
    plain = plain;
  }

-- ---- the steps that a place takes

-- a call enters
pub takes_enters : (mine new : CallerState) (flight : Flight) (ticket : Ticket) (place : Place) → is_new ticket place ≡ true → new.flight ≡ Some (record flight { ticket = Some ticket }) → new.inside ≡ true
    → flight.answered ≡ false → ticket.ordinal ≡ flight.ordinal → flight.ordinal ≤ new.begun → Takes (enters ticket) place new
takes_enters mine new flight ticket place fresh flies inside unanswered same low = record {
  after = record { ordinal = ticket.ordinal; incarnation = ticket.incarnation; inside = true; logged = false };
  takes = rw fresh refl;
  seated = record {
    begun = omega (arith, same, low);
    placed = is_placed new.inside _ new.flight (record flight { ticket = Some ticket }) ticket flies inside refl (record { ordinal = same; incarnation = refl; logged = sym unanswered; inside = λ within. refl });
  };
}

module _ (mine new : CallerState) (flight : Flight) (ticket : Ticket) (place : Place) (seat : IsSeatedAt mine place) (flies : mine.flight ≡ Some flight) (held : flight.ticket ≡ Some ticket) (inside : mine.inside ≡ true)
    (ordinal : ticket.ordinal ≡ flight.ordinal) (begun : new.begun ≡ mine.begun) where
  placed : IsPlacedAt true place flight ticket
  placed = placed_is mine.inside place mine.flight flight ticket flies inside held seat.placed

  here : is_in ticket place ≡ true
  here = in_place ticket place (placed.ordinal ∙ sym ordinal) placed.incarnation (placed.inside refl)

  -- a call is stale, and gathers anew
  pub takes_stays : flight.answered ≡ false → new.flight ≡ mine.flight → new.inside ≡ mine.inside → Takes (stays ticket) place new
  takes_stays unanswered same still = record {
    after = place;
    takes = (let fresh : place.logged ≡ false = placed.logged ∙ unanswered in rw (here, fresh) refl);
    seated = record { begun = (let low = seat.begun in omega (arith, low, begun)); placed = is_placed new.inside place new.flight flight ticket (same ∙ flies) (still ∙ inside) held placed };
  }

  -- a call that has its entry leaves
  pub takes_leaves : flight.answered ≡ true → new.flight ≡ None → Takes (leaves ticket) place new
  takes_leaves done gone = record {
    after = record place { inside = false };
    takes = (let logged : place.logged ≡ true = placed.logged ∙ done in rw (here, logged) refl);
    seated = record { begun = (let low = seat.begun in omega (arith, low, begun)); placed = subst (IsPlaced new.inside (record place { inside = false })) (sym gone) tt };
  }

  -- and is unwound
  pub takes_unwinds : new.flight ≡ mine.flight → new.inside ≡ false → Takes (unwinds ticket) place new
  takes_unwinds same outside = record {
    after = record place { inside = false };
    takes = rw here refl;
    seated = record {
      begun = (let low = seat.begun in omega (arith, low, begun));
      placed = subst (IsPlaced new.inside (record place { inside = false })) (sym (same ∙ flies)) (subst (λ b. PlacesTicket b (record place { inside = false }) flight flight.ticket) (sym outside)
          (subst (PlacesTicket false (record place { inside = false }) flight) (sym held) (record { ordinal = placed.ordinal; incarnation = placed.incarnation; logged = placed.logged; inside = λ within. absurd (let wrong : false ≡ true = within in cc) })));
    };
  }

-- the next caller to be unwound is the least one inside
pub mode_unwinds : (callers : List CallerState) (at : ℕ) (mine new : CallerState) → slice_get callers at ≡ Some mine → new.inside ≡ false
    → ((other : ℕ) (d : CallerState) → slice_get callers other ≡ Some d → d.inside ≡ true → at ≤ other) → IsMode stage.Struck (Struck (at + 1)) (slice_set callers at new)
mode_unwinds callers at mine new has outside least = (
  at + 1,
  refl,
  each_set (λ caller d. d.inside ≡ true → at + 1 ≤ caller) callers at mine new has (λ within. absurd (let wrong : false ≡ true = sym outside ∙ within in cc))
      (λ caller d apart is within. (let low = least caller d is within in omega (arith, low, apart))),
)

-- ---- a caller's state changes, and no step comes

-- whoever is inside was, so that the callers still to be unwound are no more
mode_fewer : (callers : List CallerState) (at : ℕ) (mine new : CallerState) (has : slice_get callers at ≡ Some mine) (now : Stage) (mode : Mode) → (new.inside ≡ true → mine.inside ≡ true) → IsMode now mode callers → IsMode now mode (slice_set callers at new)
mode_fewer callers at mine new has stage.Running mode fewer is = is
mode_fewer callers at mine new has stage.Struck mode fewer is =
    (is.0, is.1, each_set (λ caller d. d.inside ≡ true → is.0 ≤ caller) callers at mine new has (λ within. is.2 at mine has (fewer within)) (λ caller d apart at_it within. is.2 caller d at_it within))
mode_fewer callers at mine new has stage.Again mode fewer is = is
mode_fewer callers at mine new has stage.Dropped mode fewer is = is
mode_fewer callers at mine new has stage.Remounted mode fewer is = is
mode_fewer callers at mine new has (stage.Restored done) mode fewer is = is
mode_fewer callers at mine new has stage.Failed mode fewer is = is

-- a call begins and waits, gathers, ends without an entry or with one that no step logs
pub trailed_quiet : (journal : JournalState) (callers : List CallerState) (now : Stage) → IsTrailed journal callers now → (at : ℕ) (mine new : CallerState) → slice_get callers at ≡ Some mine → (new.inside ≡ true → mine.inside ≡ true)
    → ((place : Place) → IsSeatedAt mine place → IsSeatedAt new place) → (history : List Entry) (room : JournalRoom) → plain_keys history ≡ plain_keys journal.history
    → IsTrailed (record journal { history = history; room = room }) (slice_set callers at new) now
trailed_quiet journal callers now h at mine new has fewer sits history room keys = record {
  watch = h.watch;
  folded = rw (length-set callers at new) h.folded;
  places = h.places ∙ sym (length-set callers at new);
  mode = mode_fewer callers at mine new has now h.watch.mode fewer h.mode;
  struck = h.struck;
  covers = h.covers;
  sealed = h.sealed;
  seated = each_set (λ c d. (place : Place) → slice_get h.watch.places c ≡ Some place → IsSeatedAt d place) callers at mine new has (λ place at_it. sits place (h.seated at mine has place at_it)) (λ c d apart is. h.seated c d is);
  plain = keys ∙ h.plain;
}

-- ---- a step of no caller

module _ (journal : JournalState) (callers : List CallerState) (was : Stage) (h : IsTrailed journal callers was) where
  pub trailed_steps : (now : Stage) (one : Step) (mode : Mode) (records : List FaultRecord) (since sealed : ℕ) (oplog : List Logged) (sealed_at : ℕ) (room : JournalRoom)
      → next h.watch one ≡ Some (record h.watch { mode = mode; struck = length records; since = since; sealed = sealed }) → IsMode now mode callers → length oplog ≤ since → sealed ≡ sealed_at → logged_key one ≡ []
      → IsTrailed (record journal { records = records; oplog = oplog; trail = journal.trail ++ one ∷ []; sealed_at = sealed_at; room = room }) callers now
  trailed_steps now one mode records since sealed oplog sealed_at room moves stands covers seal key = record {
    watch = record h.watch { mode = mode; struck = length records; since = since; sealed = sealed };
    folded = folds_more next (watch_from (length callers)) h.watch _ journal.trail one h.folded moves;
    places = h.places;
    mode = stands;
    struck = refl;
    covers = covers;
    sealed = seal;
    seated = h.seated;
    plain = h.plain ∙ sym (keys_more journal.trail one ∙ ap (λ last. logged_keys journal.trail ++ last) key ∙ append-nil (logged_keys journal.trail));
  }

  -- the mode in the place of the watch's own
  at_mode : (mode : Mode) (one : Step) (to : Option Watch) → h.watch.mode ≡ mode → next_in h.watch mode one ≡ to → next h.watch one ≡ to
  at_mode mode one to is goes = ap (λ m. next_in h.watch m one) is ∙ goes

  struck_so : (mode : Mode) → Some (record h.watch { mode = mode }) ≡ Some (record h.watch { mode = mode; struck = length journal.records })
  struck_so mode = ap (λ n. Some (record h.watch { mode = mode; struck = n })) h.struck

  -- a recovery goes on: dropped, reopened, resumed
  goes_on : (from to : Mode) (now : Stage) (one : Step) (room : JournalRoom) → h.watch.mode ≡ from → next_in h.watch from one ≡ Some (record h.watch { mode = to }) → IsMode now to callers → logged_key one ≡ []
      → IsTrailed (record journal { trail = journal.trail ++ one ∷ []; room = room }) callers now
  goes_on from to now one room is goes stands key =
      trailed_steps now one to journal.records h.watch.since h.watch.sealed journal.oplog journal.sealed_at room (at_mode from one _ is goes ∙ struck_so to) stands h.covers h.sealed key

  -- remounted, with a log that is no longer
  pub trailed_remounts : (oplog : List Logged) (room : JournalRoom) → length oplog ≤ length journal.oplog → h.watch.mode ≡ Dropped
      → IsTrailed (record journal { oplog = oplog; trail = journal.trail ++ step.Remounted ∷ []; room = room }) callers stage.Remounted
  trailed_remounts oplog room short is =
      trailed_steps stage.Remounted step.Remounted Remounted journal.records h.watch.since h.watch.sealed oplog journal.sealed_at room (at_mode Dropped step.Remounted _ is refl ∙ struck_so Remounted) refl
      (let covered = h.covers in omega (arith, short, covered)) h.sealed refl

  pub trailed_reopens : (room : JournalRoom) → h.watch.mode ≡ Remounted → IsTrailed (record journal { trail = journal.trail ++ step.Reopened ∷ []; room = room }) callers (stage.Restored 0)
  trailed_reopens room is = goes_on Remounted (Restored 0) (stage.Restored 0) step.Reopened room is refl refl refl

  pub trailed_resumes : (done : ℕ) (room : JournalRoom) → h.watch.mode ≡ Restored done → IsTrailed (record journal { trail = journal.trail ++ step.Resumed ∷ []; room = room }) callers stage.Running
  trailed_resumes done room is = goes_on (Restored done) Runs stage.Running step.Resumed room is refl refl refl

  pub trailed_drops : (low : ℕ) (room : JournalRoom) → h.watch.mode ≡ Struck low → IsTrailed (record journal { trail = journal.trail ++ step.Dropped ∷ []; room = room }) callers stage.Dropped
  trailed_drops low room is = goes_on (Struck low) Dropped stage.Dropped step.Dropped room is refl refl refl

  pub trailed_drops_again : (room : JournalRoom) → h.watch.mode ≡ Again → IsTrailed (record journal { trail = journal.trail ++ step.Dropped ∷ []; room = room }) callers stage.Dropped
  trailed_drops_again room is = goes_on Again Dropped stage.Dropped step.Dropped room is refl refl refl

  -- it fails
  fails_so : nat_eq (length journal.records) h.watch.struck ≡ true
  fails_so = let so = h.struck in grind (arith, nat_tests)

  pub trailed_fails : (low : ℕ) (room : JournalRoom) → h.watch.mode ≡ Struck low → IsTrailed (record journal { trail = journal.trail ++ step.Failed (length journal.records) ∷ []; room = room }) callers stage.Failed
  trailed_fails low room is = goes_on (Struck low) Failed stage.Failed (step.Failed (length journal.records)) room is (rw fails_so refl) refl refl

  pub trailed_fails_again : (room : JournalRoom) → h.watch.mode ≡ Again → IsTrailed (record journal { trail = journal.trail ++ step.Failed (length journal.records) ∷ []; room = room }) callers stage.Failed
  trailed_fails_again room is = goes_on Again Failed stage.Failed (step.Failed (length journal.records)) room is (rw fails_so refl) refl refl

  -- one operation more is done again
  pub trailed_replays : (done : ℕ) (room : JournalRoom) → h.watch.mode ≡ Restored done → done < length journal.oplog
      → IsTrailed (record journal { trail = journal.trail ++ step.Replayed (done + 1) ∷ []; room = room }) callers (stage.Restored (done + 1))
  trailed_replays done room is low =
      let covered = h.covers in
      let same : nat_eq (done + 1) (done + 1) ≡ true = grind (arith, nat_tests) in
      let test : nat_le (done + 1) h.watch.since ≡ true = grind (arith, nat_tests, covered, low) in
      goes_on (Restored done) (Restored (done + 1)) (stage.Restored (done + 1)) (step.Replayed (done + 1)) room is (rw (same, test) refl) refl refl

  -- a fault
  strikes_so : (fault : FaultRecord) (mode : Mode) → nat_eq (length journal.records + 1) (h.watch.struck + 1) ≡ true
  strikes_so fault mode = let so = h.struck in grind (arith, nat_tests)

  strikes_from : (from to : Mode) (now : Stage) (fault : FaultRecord) (room : JournalRoom) → h.watch.mode ≡ from
      → next_in h.watch from (step.Struck (length journal.records + 1)) ≡ when (nat_eq (length journal.records + 1) (h.watch.struck + 1)) (record h.watch { mode = to; struck = length journal.records + 1 }) → IsMode now to callers
      → IsTrailed (record journal { records = journal.records ++ fault ∷ []; trail = journal.trail ++ step.Struck (length journal.records + 1) ∷ []; room = room }) callers now
  strikes_from from to now fault room is goes stands =
      trailed_steps now (step.Struck (length journal.records + 1)) to (journal.records ++ fault ∷ []) h.watch.since h.watch.sealed journal.oplog journal.sealed_at room
      (at_mode from _ _ is goes ∙ ap (λ b. when b (record h.watch { mode = to; struck = length journal.records + 1 })) (strikes_so fault to)
      ∙ ap (λ n. Some (record h.watch { mode = to; struck = n })) (sym (length-append journal.records (fault ∷ [])))) stands h.covers h.sealed refl

  pub trailed_strikes : (fault : FaultRecord) (room : JournalRoom) → h.watch.mode ≡ Runs
      → IsTrailed (record journal { records = journal.records ++ fault ∷ []; trail = journal.trail ++ step.Struck (length journal.records + 1) ∷ []; room = room }) callers stage.Struck
  trailed_strikes fault room is = strikes_from Runs (Struck 0) stage.Struck fault room is refl (0, refl, λ caller d at within. omega arith)

  pub trailed_strikes_dropped : (fault : FaultRecord) (room : JournalRoom) → h.watch.mode ≡ Dropped
      → IsTrailed (record journal { records = journal.records ++ fault ∷ []; trail = journal.trail ++ step.Struck (length journal.records + 1) ∷ []; room = room }) callers stage.Again
  trailed_strikes_dropped fault room is = strikes_from Dropped Again stage.Again fault room is refl refl

  pub trailed_strikes_restored : (done : ℕ) (fault : FaultRecord) (room : JournalRoom) → h.watch.mode ≡ Restored done
      → IsTrailed (record journal { records = journal.records ++ fault ∷ []; trail = journal.trail ++ step.Struck (length journal.records + 1) ∷ []; room = room }) callers stage.Again
  trailed_strikes_restored done fault room is = strikes_from (Restored done) Again stage.Again fault room is refl refl

  -- a checkpoint
  pub trailed_seals : (room : JournalRoom) → h.watch.mode ≡ Runs
      → IsTrailed (record journal { oplog = []; sealed_at = length journal.history; trail = journal.trail ++ step.Sealed (length journal.history) ∷ []; room = room }) callers stage.Running
  trailed_seals room is = trailed_steps stage.Running (step.Sealed (length journal.history)) Runs journal.records 0 (length journal.history) [] (length journal.history) room
      (at_mode Runs _ _ is refl ∙ ap (λ m. Some (record h.watch { mode = m; since = 0; sealed = length journal.history })) is
      ∙ ap (λ n. Some (record h.watch { mode = Runs; struck = n; since = 0; sealed = length journal.history })) h.struck) refl (omega arith) refl refl
