-- A history with one entry more, of any caller.
use Rattle.std.proofs.Common.{List, [], ◌∷◌, ◌++◌, ℕ, zero, suc, ◌≡◌, ◌<◌, ◌≤◌, ◌*◌, Option, Some, None, Ok, IfSome, option_map, unwrap_or, length, slice_get, slice_set, refl, ap, sym, ◌∙◌, subst, arith, length-append}
use Rattle.std.specs.List.{AllByRecursion}
use Rattle.mb_kinds.specs.Image.{Image}
use Rattle.mb_kinds.specs.declared.calls.Call.{Call}
use Rattle.mb_kinds.specs.declared.entries.Entry.{Entry}
use Rattle.mb_kinds.specs.declared.entries.Flight.{Flight}
use Rattle.mb_kinds.specs.declared.errors.Errno.{Errno}
use Rattle.mb_kinds.specs.declared.replies.Reply.{Reply}
use Rattle.mb_kinds.specs.declared.replies.Reply.TheVariants.{Num, Got, Info, Refused, Restart, Device, Failed}
use Rattle.mb_iface.specs.Acting.{with_changes}
use Rattle.mb_tree.proofs.Always.{same_ok}
use Rattle.mb_tree.proofs.CarryingOut.{carried_out_appends, find_few_both, find_few_ends}
use Rattle.mb_tree.proofs.CountsFollow.{counts_follow}
use Rattle.mb_tree.proofs.HistoryOperations.{callers_stay, few_opens}
use Rattle.std.proofs.lemmas.List.{map-append}
use Rattle.mb_tree.specs.Fits.{Fits}
use Rattle.mb_tree.proofs.Histories.{after_both, legal_more}
use Rattle.mb_core_order.proofs.Logs.{first_more, log_grown}
use Rattle.mb_tree.proofs.OperationsFit.{operations_fit}
use Rattle.mb_tree.proofs.ValidKept.{valid_kept}
use Rattle.mb_tree.specs.Answers.{Answer, ◌>>=◌}
use Rattle.mb_tree.specs.Effect.{TreeAndOpens}
use Rattle.mb_tree.specs.History.{Follows, IsStep, IsUnserved, Runs, after, after_first, past, past_reply, stepped}
use Rattle.mb_tree.specs.Machines.{IsValid}
use Rattle.mb_tree.specs.Rows.{plan}
use Rattle.mb_tree.specs.SessionLaws.{IsCall}
use Rattle.mb_tree.specs.Sessions.{changed, counts, with_change}
use Rattle.mb_tree.specs.Step.{IsFreeNumber, IsLawful, effect_of, or_refused, serve, step}
use Rattle.mb_tree.specs.Views.{Kept, over}
use Rattle.mb_tree.specs.Volume.{IsVolume}
use Rattle.mb_tree.specs.declared.machines.Machine.{Machine}
use Rattle.mb_tree.specs.declared.operations.FsOp.{FsOp}
use Rattle.mb_tree.specs.declared.plans.CallPlan.{CallPlan}
use Rattle.mb_tree.specs.declared.seats.Seat.{Seat}
use Rattle.mb_tree.specs.declared.seats.SessionChange.TheVariants.{Same}
use Rattle.mb_tree.specs.declared.trees.Tree.{Tree}
use Rattle.mb_tree.proofs.KeptVolumes.{kept_same}
use Rattle.mb_oplog.specs.declared.oplogs.Logged.{Logged}
use Rattle.mb_core_spec.specs.declared.ready.Ready.{Ready}
use Rattle.mb_core_spec.specs.Events.{entry_for, logged_op}
use Rattle.mb_core_spec.specs.Owed.{IsIdle, IsPlain}
use Rattle.mb_core_spec.specs.Histories.{as_picked, picked_ops, IsCheckpointed, IsLegalSoFar, IsLogOf, ReplaysToNow}
use Rattle.mb_core_spec.specs.Performed.{IsAnsweredBy, IsRefusedBy, IsServedBy}
use Rattle.mb_tree.specs.CarriedOut.{AreCarriedOut, FindFewOpens, PickedOp, op_replied, picked_op, planned_op, tree_and_opens}

-- ---- one entry more

-- what an entry does to the machine that it finds
pub record MovesOn (now : Machine) (entry : Entry) (ops : List Logged) (sessions : List Seat) (next : Machine) : Type 0 where
  pub runs : Runs now entry entry.reply
  pub leads : past now entry ≡ next
  pub made : op_replied now entry entry.reply ≡ picked_ops ops
  pub carried : AreCarriedOut (tree_and_opens now) (picked_ops ops) (tree_and_opens next)
  pub few : FindFewOpens (17 * length now.seats) (tree_and_opens now) (picked_ops ops)
  pub valid : IsValid next
  pub seats : next.seats ≡ sessions

module _ (machine : Machine) (history : List Entry) (entry : Entry) (ops : List Logged) (sessions : List Seat) (next : Machine) (more : MovesOn (after machine history) entry ops sessions next) where
  pub after_grown : after machine (history ++ entry ∷ []) ≡ next
  after_grown = after_both machine history (entry ∷ []) ∙ more.leads

  pub legal_grown : (begins : ℕ) (old : List Seat) → IsLegalSoFar machine begins history old → begins < entry.moment → AllByRecursion (λ earlier. Follows earlier entry) history
      → IsLegalSoFar machine begins (history ++ entry ∷ []) sessions
  legal_grown begins old so_far above follows = record {
    legal = legal_more machine begins history entry so_far.legal more.runs above follows;
    valid = subst IsValid (sym after_grown) more.valid;
    seats = ap (λ (now : Machine). now.seats) after_grown ∙ more.seats;
  }

  pub replay_grown : (sealed_at : ℕ) (oplog : List Logged) → sealed_at ≤ length history → ReplaysToNow machine history sealed_at oplog
      → ReplaysToNow machine (history ++ entry ∷ []) sealed_at (oplog ++ ops)
  replay_grown sealed_at oplog within replay =
      let first = first_more machine history entry sealed_at within in
      let start = after_first machine history sealed_at in
      let joined : picked_ops (oplog ++ ops) ≡ picked_ops oplog ++ picked_ops ops = map-append as_picked oplog ops in
      let few : FindFewOpens (17 * length machine.seats) (tree_and_opens (after machine history)) (picked_ops ops) =
      subst (λ n. FindFewOpens (17 * n) (tree_and_opens (after machine history)) (picked_ops ops)) (callers_stay machine history) more.few in
      record {
        carried = subst (λ (now : Machine). AreCarriedOut (tree_and_opens (after_first machine (history ++ entry ∷ []) sealed_at)) (picked_ops (oplog ++ ops)) (tree_and_opens now)) (sym after_grown)
            (subst (λ (now : Machine). AreCarriedOut (tree_and_opens now) (picked_ops (oplog ++ ops)) (tree_and_opens next)) (sym first)
            (subst (λ made. AreCarriedOut (tree_and_opens start) made (tree_and_opens next)) (sym joined)
            (carried_out_appends (tree_and_opens start) (tree_and_opens (after machine history)) (tree_and_opens next) (picked_ops oplog) (picked_ops ops) replay.carried more.carried)));
        few = subst (λ (now : Machine). FindFewOpens (17 * length machine.seats) (tree_and_opens now) (picked_ops (oplog ++ ops))) (sym first)
            (subst (FindFewOpens (17 * length machine.seats) (tree_and_opens start)) (sym joined)
            (find_few_both (17 * length machine.seats) (tree_and_opens start) (tree_and_opens (after machine history)) (picked_ops oplog) (picked_ops ops) replay.carried replay.few few));
        since = subst (IsLogOf machine (history ++ entry ∷ []) sealed_at) (sym joined) (log_grown machine history entry sealed_at (picked_ops oplog) (picked_ops ops) within more.made replay.since);
      }

-- the checkpoint does not hear of it
pub checkpoint_grown : (machine : Machine) (before : Tree) (first base : Image) (history : List Entry) (entry : Entry) (sealed_at : ℕ) (saved : List Seat)
    → IsCheckpointed machine before first base history sealed_at saved → IsCheckpointed machine before first base (history ++ entry ∷ []) sealed_at saved
checkpoint_grown machine before first base history entry sealed_at saved checkpoint =
    let same = sym (first_more machine history entry sealed_at checkpoint.within) in
    let longer : sealed_at ≤ length (history ++ entry ∷ []) = grind (arith, length-append, checkpoint.within) in
    record {
      within = longer;
      volume = subst (λ (now : Machine). IsVolume base now.tree) same checkpoint.volume;
      kept = subst (λ (now : Machine). Kept before first now.tree base) same checkpoint.kept;
      seats = ap (λ (now : Machine). now.seats) (sym same) ∙ checkpoint.seats;
    }

-- ---- an entry that is not the model's step moves nothing

idle_runs : (now : Machine) (entry : Entry) (reply : Reply) → IsIdle reply → IsUnserved now entry → Runs now entry reply
idle_runs now entry (Num number) idle none = absurd idle
idle_runs now entry (Got bytes) idle none = absurd idle
idle_runs now entry (Info stat) idle none = absurd idle
idle_runs now entry (Refused e) idle none = absurd idle
idle_runs now entry (Restart first second) idle none = none
idle_runs now entry Device idle none = none
idle_runs now entry (Failed faults) idle none = none

idle_past : (now next : Machine) (reply : Reply) → IsIdle reply → past_reply now next reply ≡ now
idle_past now next (Num number) idle = absurd idle
idle_past now next (Got bytes) idle = absurd idle
idle_past now next (Info stat) idle = absurd idle
idle_past now next (Refused e) idle = absurd idle
idle_past now next (Restart first second) idle = refl
idle_past now next Device idle = refl
idle_past now next (Failed faults) idle = refl

idle_made : (now : Machine) (entry : Entry) (reply : Reply) → IsIdle reply → op_replied now entry reply ≡ []
idle_made now entry (Num number) idle = absurd idle
idle_made now entry (Got bytes) idle = absurd idle
idle_made now entry (Info stat) idle = absurd idle
idle_made now entry (Refused e) idle = absurd idle
idle_made now entry (Restart first second) idle = refl
idle_made now entry Device idle = refl
idle_made now entry (Failed faults) idle = refl

pub idle_moves : (now : Machine) (entry : Entry) → IsValid now → IsIdle entry.reply → IsUnserved now entry → MovesOn now entry [] now.seats now
idle_moves now entry valid idle none = record {
  runs = idle_runs now entry entry.reply idle none;
  leads = idle_past now (stepped now entry).1 entry.reply idle;
  made = idle_made now entry entry.reply idle;
  carried = refl;
  few = λ ino. few_opens now.seats ino;
  valid = valid;
  seats = refl;
}

-- ---- an entry that is

runs_plain : (now : Machine) (entry : Entry) (reply : Reply) → IsPlain reply → IsStep now entry → Runs now entry reply
runs_plain now entry (Num number) plain is = is
runs_plain now entry (Got bytes) plain is = is
runs_plain now entry (Info stat) plain is = is
runs_plain now entry (Refused e) plain is = is
runs_plain now entry (Restart first second) plain is = absurd plain
runs_plain now entry Device plain is = absurd plain
runs_plain now entry (Failed faults) plain is = absurd plain

past_plain : (now next : Machine) (reply : Reply) → IsPlain reply → past_reply now next reply ≡ next
past_plain now next (Num number) plain = refl
past_plain now next (Got bytes) plain = refl
past_plain now next (Info stat) plain = refl
past_plain now next (Refused e) plain = refl
past_plain now next (Restart first second) plain = absurd plain
past_plain now next Device plain = absurd plain
past_plain now next (Failed faults) plain = absurd plain

-- the operation of a plan is the one that is logged
picked_is_logged : (op : Option FsOp) (pick : Option ℕ) → picked_op op pick ≡ picked_ops (logged_op op pick)
picked_is_logged None pick = refl
picked_is_logged (Some op) pick = refl

-- the operation of a call is carried out
carries : (held next : TreeAndOpens) (op : Option FsOp) (pick : Option ℕ) → effect_of held.tree held.opens op pick ≡ Ok next → ((made : FsOp) → op ≡ Some made → Fits held.tree held.opens made pick)
    → AreCarriedOut held (picked_ops (logged_op op pick)) next
carries held next None pick is fits = same_ok held next is
carries held next (Some op) pick is fits = (next, record { fits = fits op refl; leads = is }, refl)

finds_few : (most : ℕ) (held last : TreeAndOpens) (op : Option FsOp) (pick : Option ℕ) → AreCarriedOut held (picked_ops (logged_op op pick)) last
    → ((ino : ℕ) → held.opens ino ≤ most) → ((ino : ℕ) → last.opens ino ≤ most) → FindFewOpens most held (picked_ops (logged_op op pick))
finds_few most held last None pick leads first end = find_few_ends most held last None pick leads first end
finds_few most held last (Some op) pick leads first end = find_few_ends most held last (Some op) pick leads first end

set_same : (seats : List Seat) (caller : ℕ) (seat : Seat) → slice_get seats caller ≡ Some seat → slice_set seats caller seat ≡ seats
set_same [] caller seat is = refl
set_same (first ∷ seats) zero seat is = (let same : first ≡ seat = cc in ap (λ s. s ∷ seats) (sym same))
set_same (first ∷ seats) (suc caller) seat is = ap (λ rest. first ∷ rest) (set_same seats caller seat is)

session_same : (seats : List Seat) (caller : ℕ) → with_change seats caller Same ≡ seats
session_same seats caller = elim (slice_get seats caller) as (λ (o : Option Seat). slice_get seats caller ≡ o → unwrap_or (option_map (λ seat. slice_set seats caller (changed seat Same)) o) seats ≡ seats) [
  | None ↦ λ e. refl
  | Some seat ↦ λ e. set_same seats caller seat e
] refl

free_pick : (now : Machine) (caller : ℕ) (call : Call) (moment : ℕ) (pick : Option ℕ) → IsLawful now caller call moment pick → IfSome pick (IsFreeNumber now.tree)
free_pick now caller call moment None lawful = tt
free_pick now caller call moment (Some ino) lawful = lawful.0

-- what comes of a call that finishes
pub record IsMoved (now : Machine) (caller : ℕ) (flight : Flight) (ready : Ready) (view : Image) : Type 0 where
  pub next : Machine
  pub more : MovesOn now (entry_for caller flight ready.pick ready.reply) (logged_op ready.op ready.pick) (with_change now.seats caller ready.session) next
  pub volume : IsVolume (with_changes view ready.changes) next.tree
  pub kept : Kept now.tree view next.tree (with_changes view ready.changes)
  pub held : TreeAndOpens
  pub effect : effect_of now.tree (counts now.seats) ready.op ready.pick ≡ Ok held
  pub opens : held.opens ≡ counts next.seats

module _ (now : Machine) (caller : ℕ) (flight : Flight) (ready : Ready) (view : Image) (declared : caller < length now.seats) (valid : IsValid now) (good : IsCall flight.call)
    (lawful : IsLawful now caller flight.call flight.moment ready.pick) (plain : IsPlain ready.reply) where
  abbrev entry : Entry
  entry = entry_for caller flight ready.pick ready.reply

  abbrev planned : CallPlan
  planned = record { reply = ready.reply; op = ready.op; session = ready.session }

  abbrev moved_to : TreeAndOpens → Machine
  moved_to held = record { tree = held.tree; seats = with_change now.seats caller ready.session }

  step_is : (next : Machine) → step now caller flight.call flight.moment ready.pick ≡ (ready.reply, next) → IsStep now entry
  unfolding stepped
  step_is next is = record { declared = declared; lawful = lawful; answer = ap (λ (done : Reply × Machine). done.0) is }

  leads_to : (next : Machine) → step now caller flight.call flight.moment ready.pick ≡ (ready.reply, next) → past_reply now (stepped now entry).1 ready.reply ≡ next
  unfolding stepped
  leads_to next is = past_plain now _ ready.reply plain ∙ ap (λ (done : Reply × Machine). done.1) is

  valid_then : (next : Machine) → step now caller flight.call flight.moment ready.pick ≡ (ready.reply, next) → IsValid next
  valid_then next is = subst IsValid (ap (λ (done : Reply × Machine). done.1) is) (valid_kept now caller flight.call flight.moment ready.pick valid good lawful)

  served_by : (by : IsServedBy view now caller flight.call flight.moment ready) → step now caller flight.call flight.moment ready.pick ≡ (ready.reply, moved_to by.held)
  served_by by =
      let serves : serve now caller flight.call flight.moment ready.pick ≡ Ok (ready.reply, moved_to by.held) =
      ap (λ (r : Answer CallPlan). r >>= (λ (found : CallPlan). effect_of now.tree (counts now.seats) found.op ready.pick >>= (λ (held : TreeAndOpens). Ok (found.reply, record { tree = held.tree; seats = with_change now.seats caller found.session })))) by.planned
      ∙ ap (λ (r : Answer TreeAndOpens). r >>= (λ (held : TreeAndOpens). Ok (ready.reply, moved_to held))) by.effect in
      ap (or_refused now) serves

  abbrev planned_here : List PickedOp
  planned_here = planned_op (plan now caller flight.call flight.moment ready.pick) ready.pick

  moved_served : op_replied now entry ready.reply ≡ planned_here → IsServedBy view now caller flight.call flight.moment ready → IsMoved now caller flight ready view
  moved_served made by =
      let steps = served_by by in
      let follow = counts_follow now caller flight.call flight.moment ready.pick planned by.held (valid caller) by.planned by.effect in
      let carried : AreCarriedOut (tree_and_opens now) (picked_ops (logged_op ready.op ready.pick)) (tree_and_opens (moved_to by.held)) =
      subst (λ opens. AreCarriedOut (tree_and_opens now) (picked_ops (logged_op ready.op ready.pick)) (record { tree = by.held.tree; opens = opens })) (sym follow)
      (carries (tree_and_opens now) by.held ready.op ready.pick by.effect
      (λ op is. operations_fit now caller flight.call flight.moment ready.pick planned op (valid caller) good by.planned is (free_pick now caller flight.call flight.moment ready.pick lawful))) in
      let leads = leads_to (moved_to by.held) steps in
      let stay : length (moved_to by.held).seats ≡ length now.seats = ap (λ (m : Machine). length m.seats) (sym leads) ∙ callers_stay now (entry ∷ []) in
      record {
        next = moved_to by.held;
        more = record {
          runs = runs_plain now entry ready.reply plain (step_is (moved_to by.held) steps);
          leads = leads;
          made = made ∙ ap (λ answer. planned_op answer ready.pick) by.planned ∙ picked_is_logged ready.op ready.pick;
          carried = carried;
          few = finds_few (17 * length now.seats) (tree_and_opens now) (tree_and_opens (moved_to by.held)) ready.op ready.pick carried (λ ino. few_opens now.seats ino)
              (λ ino. (let end = few_opens (moved_to by.held).seats ino in omega (arith, end, stay)));
          valid = valid_then (moved_to by.held) steps;
          seats = refl;
        };
        volume = by.volume;
        kept = by.kept;
        held = by.held;
        effect = by.effect;
        opens = sym follow;
      }

  no_changes : with_changes view [] ≡ view
  unfolding over
  no_changes = refl

  moved_refused : IsVolume view now.tree → (e : Errno) → ready.reply ≡ Refused e → IsRefusedBy now caller flight.call flight.moment ready e → IsMoved now caller flight ready view
  moved_refused volume e refuses by =
      let steps : step now caller flight.call flight.moment ready.pick ≡ (ready.reply, now) = ap (or_refused now) by.refused ∙ ap (λ reply. (reply, now)) (sym refuses) in
      let none : logged_op ready.op ready.pick ≡ [] = ap (λ op. logged_op op ready.pick) by.op in
      let same : view ≡ with_changes view ready.changes = sym (ap (with_changes view) by.changes ∙ no_changes) in
      record {
        next = now;
        more = record {
          runs = runs_plain now entry ready.reply plain (step_is now steps);
          leads = leads_to now steps;
          made = ap (op_replied now entry) refuses ∙ sym (ap picked_ops none);
          carried = subst (λ ops. AreCarriedOut (tree_and_opens now) (picked_ops ops) (tree_and_opens now)) (sym none) refl;
          few = subst (λ ops. FindFewOpens (17 * length now.seats) (tree_and_opens now) (picked_ops ops)) (sym none) (λ ino. few_opens now.seats ino);
          valid = valid;
          seats = sym (ap (with_change now.seats caller) by.session ∙ session_same now.seats caller);
        };
        volume = subst (λ image. IsVolume image now.tree) same volume;
        kept = subst (λ image. Kept now.tree view now.tree image) same (kept_same now.tree view);
        held = tree_and_opens now;
        effect = ap (λ op. effect_of now.tree (counts now.seats) op ready.pick) by.op;
        opens = refl;
      }

  moved : IsVolume view now.tree → (reply : Reply) → ready.reply ≡ reply → IsPlain reply → IsAnsweredBy view now caller flight.call flight.moment ready reply → IsMoved now caller flight ready view
  moved volume (Num number) is done by = moved_served (ap (op_replied now entry) is) by
  moved volume (Got bytes) is done by = moved_served (ap (op_replied now entry) is) by
  moved volume (Info stat) is done by = moved_served (ap (op_replied now entry) is) by
  moved volume (Refused e) is done by = moved_refused volume e is by
  moved volume (Restart first second) is done by = absurd done
  moved volume Device is done by = absurd done
  moved volume (Failed faults) is done by = absurd done

  pub performed : IsVolume view now.tree → IsAnsweredBy view now caller flight.call flight.moment ready ready.reply → IsMoved now caller flight ready view
  performed volume by = moved volume ready.reply refl plain by
