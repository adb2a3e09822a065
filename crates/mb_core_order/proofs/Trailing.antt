-- A call that is logged, in the trace of many callers.
use Rattle.std.proofs.Common.{List, [], ◌∷◌, ◌++◌, ℕ, zero, suc, ◌+◌, ◌≡◌, ◌<◌, ◌≤◌, Bool, true, false, Option, Some, None, length, slice_get, slice_set, refl, ap, sym, ◌∙◌, subst, arith, length-append, option_and_then, option_map}
use Rattle.std.proofs.lemmas.Bool.Decides.{nat_tests}
use Rattle.std.proofs.lemmas.List.{append_assoc, append-nil, length-set}
use Rattle.std.proofs.lemmas.Option.{slice_get_within}
use Rattle.std.specs.Prelude.{nat_eq}
use Rattle.mb_kinds.specs.declared.entries.Entry.{Entry}
use Rattle.mb_kinds.specs.declared.entries.Flight.{Flight}
use Rattle.mb_kinds.specs.declared.faults.Ticket.{Ticket}
use Rattle.mb_oplog.specs.declared.oplogs.Logged.{Logged}
use Rattle.mb_core_spec.specs.declared.stages.Stage.TheVariants as stage
use Rattle.mb_core_spec.specs.declared.steps.Step.{Step}
use Rattle.mb_core_spec.specs.declared.steps.Step.TheVariants as step
use Rattle.mb_core_order.proofs.Beginning.{each_set, set_here, set_there}
use Rattle.mb_core_order.proofs.Overlays.{same_some}
use Rattle.mb_core_spec.specs.State.{CallerState, JournalState}
use Rattle.mb_core_spec.specs.Traced.{IsPlaced, IsPlacedAt, IsSeatedAt, IsTrailed, PlacesTicket}
use Rattle.mb_core_spec.specs.Trail.{Place, Watch, at_place, folds, is_in, key_if_plain, logged_key, logged_keys, logs, next, next_in, plain_keys, watch_from}

pub folds_both : {S X : Type 0} (f : S → X → Option S) (s t : S) (xs ys : List X) → folds f s xs ≡ Some t → folds f s (xs ++ ys) ≡ folds f t ys
folds_both f s t [] ys h = ap (λ o. option_and_then (λ next. folds f next ys) o) h
folds_both {S} {X} f s t (x ∷ xs) ys h = elim (f s x) as (λ (o : Option S). option_and_then (λ next. folds f next xs) o ≡ Some t → option_and_then (λ next. folds f next (xs ++ ys)) o ≡ folds f t ys) [
  | None ↦ λ none. cc
  | Some next ↦ λ rest. folds_both f next t xs ys rest
] h

pub folds_more : {S X : Type 0} (f : S → X → Option S) (s t u : S) (xs : List X) (x : X) → folds f s xs ≡ Some t → f t x ≡ Some u → folds f s (xs ++ x ∷ []) ≡ Some u
folds_more f s t u xs x h one = folds_both f s t xs (x ∷ []) h ∙ ap (option_and_then (λ next. folds f next [])) one

pub there : {X : Type 0} (xs : List X) (at : ℕ) → at < length xs → (x : X) × (slice_get xs at ≡ Some x)
there [] at low = absurd (omega arith)
there (x ∷ xs) zero low = (x, refl)
there (x ∷ xs) (suc at) low = there xs at (omega arith)

pub keys_more : (steps : List Step) (one : Step) → logged_keys (steps ++ one ∷ []) ≡ logged_keys steps ++ logged_key one
keys_more [] one = append-nil (logged_key one)
keys_more (first ∷ steps) one = ap (λ keys. logged_key first ++ keys) (keys_more steps one) ∙ sym (append_assoc (logged_key first) (logged_keys steps) (logged_key one))

pub plain_more : (history : List Entry) (entry : Entry) → plain_keys (history ++ entry ∷ []) ≡ plain_keys history ++ key_if_plain entry.caller entry.ordinal entry.reply
plain_more [] entry = append-nil (key_if_plain entry.caller entry.ordinal entry.reply)
plain_more (first ∷ history) entry = ap (λ keys. key_if_plain first.caller first.ordinal first.reply ++ keys) (plain_more history entry)
    ∙ sym (append_assoc (key_if_plain first.caller first.ordinal first.reply) (plain_keys history) (key_if_plain entry.caller entry.ordinal entry.reply))

-- a step of a ticket that its place takes
pub seated_step : (watch : Watch) (ticket : Ticket) (f : Place → Option Place) (old new : Place) → slice_get watch.places ticket.caller ≡ Some old → f old ≡ Some new
    → at_place watch ticket f ≡ Some (record watch { places = slice_set watch.places ticket.caller new })
seated_step watch ticket f old new at takes = ap (λ (o : Option Place). option_map (λ (place : Place). record watch { places = slice_set watch.places ticket.caller place }) (option_and_then f o)) at
    ∙ ap (option_map (λ (place : Place). record watch { places = slice_set watch.places ticket.caller place })) takes

pub in_place : (ticket : Ticket) (place : Place) → place.ordinal ≡ ticket.ordinal → place.incarnation ≡ ticket.incarnation → place.inside ≡ true → is_in ticket place ≡ true
in_place ticket place same present inside =
    let equal : nat_eq place.ordinal ticket.ordinal ≡ true = grind (arith, nat_tests) in
    let now : nat_eq place.incarnation ticket.incarnation ≡ true = grind (arith, nat_tests) in
    rw (equal, now, inside) refl

pub placed_is : (within : Bool) (place : Place) (o : Option Flight) (flight : Flight) (ticket : Ticket) → o ≡ Some flight → within ≡ true → flight.ticket ≡ Some ticket → IsPlaced within place o → IsPlacedAt true place flight ticket
placed_is within place o flight ticket flies inside held placed =
    let one : PlacesTicket within place flight flight.ticket = subst (IsPlaced within place) flies placed in
    let two : PlacesTicket true place flight flight.ticket = subst (λ b. PlacesTicket b place flight flight.ticket) inside one in
    subst (PlacesTicket true place flight) held two

-- and back
pub is_placed : (within : Bool) (place : Place) (o : Option Flight) (flight : Flight) (ticket : Ticket) → o ≡ Some flight → within ≡ true → flight.ticket ≡ Some ticket → IsPlacedAt true place flight ticket → IsPlaced within place o
is_placed within place o flight ticket flies inside held placed =
    let two : PlacesTicket true place flight flight.ticket = subst (PlacesTicket true place flight) (sym held) placed in
    let one : PlacesTicket within place flight flight.ticket = subst (λ b. PlacesTicket b place flight flight.ticket) (sym inside) two in
    subst (IsPlaced within place) (sym flies) one

module _ (journal : JournalState) (callers : List CallerState) (h : IsTrailed journal callers stage.Running) (at : ℕ) (desk : CallerState) (has : slice_get callers at ≡ Some desk) (flight : Flight) (flies : desk.flight ≡ Some flight) (ticket : Ticket)
    (held : flight.ticket ≡ Some ticket) (inside : desk.inside ≡ true) (unanswered : flight.answered ≡ false) (caller : ticket.caller ≡ at) (ordinal : ticket.ordinal ≡ flight.ordinal)
    (entry : Entry) (key : key_if_plain entry.caller entry.ordinal entry.reply ≡ (ticket.caller, ticket.ordinal) ∷ []) (op : List Logged) (one : length op ≤ 1) (new : CallerState) (begun : new.begun ≡ desk.begun) (still : new.inside ≡ true)
    (logged : new.flight ≡ Some (record flight { answered = true })) where
  found : (place : Place) × (slice_get h.watch.places at ≡ Some place)
  found = let low = slice_get_within callers at desk has in let long = h.places in there h.watch.places at (omega arith)

  seat : IsSeatedAt desk found.0
  seat = h.seated at desk has found.0 found.1

  placed : IsPlacedAt true found.0 flight ticket
  placed = placed_is desk.inside found.0 desk.flight flight ticket flies inside held seat.placed

  abbrev after : Place
  after = record found.0 { logged = true }

  takes : logs ticket found.0 ≡ Some after
  takes =
      let here : is_in ticket found.0 ≡ true = in_place ticket found.0 (placed.ordinal ∙ sym ordinal) placed.incarnation (placed.inside refl) in
      let fresh : found.0.logged ≡ false = placed.logged ∙ unanswered in
      rw (here, fresh) refl

  mine : (place : Place) → slice_get (slice_set h.watch.places ticket.caller after) at ≡ Some place → IsSeatedAt new place
  mine place sits =
      let here = set_here h.watch.places at found.0 after found.1 in
      let same : after ≡ place = same_some after place (sym here ∙ ap (λ c. slice_get (slice_set h.watch.places c after) at) (sym caller) ∙ sits) in
      subst (IsSeatedAt new) same (record {
        begun = (let low = seat.begun in omega (arith, begun, low));
        placed = is_placed new.inside after new.flight (record flight { answered = true }) ticket logged still held (record { ordinal = placed.ordinal; incarnation = placed.incarnation; logged = refl; inside = placed.inside });
      })

  pub trailed_logs : IsTrailed (record journal { history = journal.history ++ entry ∷ []; oplog = journal.oplog ++ op; trail = journal.trail ++ step.Logged ticket ∷ [] }) (slice_set callers at new) stage.Running
  trailed_logs = record {
    watch = record h.watch { since = h.watch.since + 1; places = slice_set h.watch.places ticket.caller after };
    folded = rw (length-set callers at new) (folds_more next (watch_from (length callers)) h.watch _ journal.trail (step.Logged ticket) h.folded
        (ap (λ m. next_in h.watch m (step.Logged ticket)) h.mode ∙ seated_step (record h.watch { since = h.watch.since + 1 }) ticket (logs ticket) found.0 after (ap (slice_get h.watch.places) caller ∙ found.1) takes));
    places = length-set h.watch.places ticket.caller after ∙ h.places ∙ sym (length-set callers at new);
    mode = h.mode;
    struck = h.struck;
    covers = (let covered = h.covers in rw length-append (omega (arith, covered, one)));
    sealed = h.sealed;
    seated = each_set (λ c d. (place : Place) → slice_get (slice_set h.watch.places ticket.caller after) c ≡ Some place → IsSeatedAt d place) callers at desk new has mine
        (λ c d apart is place sits. h.seated c d is place (sym (set_there h.watch.places ticket.caller c after (λ e. apart (e ∙ caller))) ∙ sits));
    plain = plain_more journal.history entry ∙ ap (λ keys. keys ++ key_if_plain entry.caller entry.ordinal entry.reply) h.plain ∙ ap (λ last. logged_keys journal.trail ++ last) key ∙ sym (keys_more journal.trail (step.Logged ticket));
  }
