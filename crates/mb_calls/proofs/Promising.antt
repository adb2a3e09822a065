-- What `perform` answers is the model's step, for all sessions that the call cannot tell apart.
use Rattle.std.proofs.Common.{List, [], ◌∷◌, ℕ, ◌≡◌, Bool, true, false, ◌||◌, Option, Some, None, Ok, Err, Result, refl, sym, ap, subst, ◌∙◌}
use Rattle.std.specs.Prelude.{slice_get, ◌==◌, nat_lt}
use Rattle.std.specs.List.{list_any}
use Rattle.mb_kinds.specs.Image.{Image}
use Rattle.mb_kinds.specs.declared.calls.Call.{Call}
use Rattle.mb_kinds.specs.declared.calls.Call.TheVariants as call
use Rattle.mb_kinds.specs.declared.errors.Errno.{Errno}
use Rattle.mb_kinds.specs.declared.errors.Errno.TheVariants.{EINVAL}
use Rattle.mb_iface.specs.Acting.{HasDone, HasRefused, with_changes}
use Rattle.mb_iface.specs.OpenCounts.{count_of}
use Rattle.mb_tree.specs.Answers.{Answer, ◌>>=◌, some}
use Rattle.mb_tree.specs.Effect.{TreeAndOpens, opens_after, tree_after}
use Rattle.mb_tree.specs.Fits.{Fits}
use Rattle.mb_tree.specs.Machines.{IsValidFor}
use Rattle.mb_tree.specs.Rows.{is_busy, plan, row}
use Rattle.mb_tree.specs.SessionLaws.{IsCall}
use Rattle.mb_tree.specs.Sessions.{Counts, counts}
use Rattle.mb_tree.specs.Views.{IsPart, Kept, over}
use Rattle.mb_tree.specs.Volume.{IsVolume}
use Rattle.mb_tree.specs.declared.machines.Machine.{Machine}
use Rattle.mb_tree.specs.declared.operations.FsOp.{FsOp}
use Rattle.mb_tree.specs.declared.plans.CallPlan.{CallPlan}
use Rattle.mb_tree.specs.declared.seats.Seat.{Seat}
use Rattle.mb_tree.specs.declared.trees.Tree.{Tree}
use Rattle.mb_tree.proofs.Always.{bind_ok, same_ok}
use Rattle.mb_tree.proofs.Rows.{plain_row}
use Rattle.mb_tree.specs.Plans.{IsServedReply}
use Rattle.mb_kinds.specs.Changed.{IsWithinView}
use Rattle.mb_iface.specs.Near.{IsNear, IsTouched}
use Rattle.mb_iface.specs.declared.replies.Need.{Need}
use Rattle.mb_calls.specs.Endings.{ActsNear, EndsNear, IsEndOf, Ends, HasActed, ready_refused}
use Rattle.mb_calls.specs.Performed.{FitsCall, IsFit, IsNeeded, IsNeededFor, AreAlike, OthersAlike, AllAlike, IsPerformedOver, IsReadyOver, IsRight}
use Rattle.mb_tree.specs.LocalLaws.{cwds, is_shared_call}
use Rattle.mb_calls.specs.Endings.IsEndOf.{alone, done, refused}
use Rattle.mb_calls.specs.Halts.{Matches, IsViewOf}
use Rattle.mb_calls.specs.Looked.{IsLooked}
use Rattle.mb_tree.specs.Plans.{IsPlanFor}
use Rattle.mb_calls.specs.Continuing.{CountMap, BusyAlike, busy_by}
use Rattle.mb_calls.specs.declared.halts.Halt.{Halt}
use Rattle.mb_calls.specs.declared.halts.Halt.TheVariants as why
use Rattle.mb_calls.specs.declared.performing.Performed.{Performed}
use Rattle.mb_calls.specs.declared.performing.Performed.TheVariants as performed
use Rattle.mb_calls.specs.declared.performing.ReadyCall.{ReadyCall}
use Rattle.mb_calls.proofs.Fitting.{fit_of, none_within}
use Rattle.mb_calls.proofs.Nearby.{near_more}
use Rattle.mb_calls.proofs.Touched.{touched_looked}
use Rattle.mb_tree.specs.LocalLaws.{IsFreeOfCounts}
use Rattle.mb_tree.proofs.Locality.{free_of_counts}
use Rattle.mb_tree.proofs.KeptVolumes.{kept_same}
use Rattle.mb_tree.proofs.FitsUnpicked.{unpicked_fits}
use Rattle.mb_calls.proofs.Finishing.{performed_alone, performed_done, performed_refused, performed_unplanned}

-- ---- what is the same for other sessions

any_by : (ino : ℕ) (seats : List Seat) → list_any (λ (seat : Seat). seat.cwd == ino) seats ≡ list_any (λ cwd. cwd == ino) (cwds seats)
any_by ino [] = refl
any_by ino (seat ∷ seats) = ap (λ b. seat.cwd == ino || b) (any_by ino seats)

busy_alike : (given : List Seat) (opens : CountMap) (seats : List Seat) → AllAlike given opens seats → (ino : ℕ) → busy_by opens given ino ≡ is_busy seats ino
busy_alike given opens seats agrees ino =
    ap (λ n. ino == 2 || nat_lt 0 n || list_any (λ (seat : Seat). seat.cwd == ino) given) (agrees.counted ino)
    ∙ ap (λ b. ino == 2 || nat_lt 0 (counts seats ino) || b) (any_by ino given ∙ ap (list_any (λ cwd. cwd == ino)) agrees.directories ∙ sym (any_by ino seats))

sees_alike : (made : Call) (given : List Seat) (opens : CountMap) (seats : List Seat) → OthersAlike (is_shared_call made) given opens seats → BusyAlike made opens given seats
sees_alike (call.Rmdir path) given opens seats agrees = busy_alike given opens seats agrees
sees_alike _ given opens seats agrees = tt

no_change : (image : Image) → with_changes image [] ≡ image
unfolding over
no_change image = refl

same_counts : (f g : ℕ → ℕ) → ((ino : ℕ) → f ino ≡ g ino) → f ≡ g
same_counts f g h = λ i ino. h ino i

module _ (tree : Tree) (op : FsOp) (free : IsFreeOfCounts tree op) (opens others : Counts) where
  pub done_alike : (shown : ℕ → Option (List ℕ)) (image : Image) (changes : List (ℕ × List ℕ)) (pick : Option ℕ) → HasDone shown image tree opens op None changes pick → HasDone shown image tree others op None changes pick
  done_alike shown image changes pick h =
      let one = bind_ok (tree_after tree opens op pick) _ h.held h.effect in
      let is : one.0 ≡ h.held.tree = ap (λ (held : TreeAndOpens). held.tree) (same_ok (record { tree = one.0; opens = opens_after opens op pick }) h.held one.2) in
      record {
        picks = h.picks;
        held = record { tree = one.0; opens = opens_after others op pick };
        effect = ap (λ (r : Answer Tree). r >>= (λ (next : Tree). Ok (record { tree = next; opens = opens_after others op pick }))) (free.effect others opens pick ∙ one.1);
        volume = subst (IsVolume (with_changes image changes)) (sym is) h.volume;
        kept = subst (λ (next : Tree). Kept tree image next (with_changes image changes)) (sym is) h.kept;
        within = h.within;
      }

  stops_alike : (r : Answer Tree) (pick : Option ℕ) (e : Errno) → ◌≡◌ {A = Answer TreeAndOpens} (r >>= (λ (next : Tree). Ok (record { tree = next; opens = opens_after opens op pick }))) (Err e)
      → ◌≡◌ {A = Answer TreeAndOpens} (r >>= (λ (next : Tree). Ok (record { tree = next; opens = opens_after others op pick }))) (Err e)
  stops_alike (Ok next) pick e h = cc
  stops_alike (Err d) pick e h = let same : d ≡ e = cc in ap Err same

  pub refusal_alike : (e : Errno) → HasRefused tree opens op None e → HasRefused tree others op None e
  refusal_alike e h = record {
    picked = h.picked;
    picks = h.picks;
    effect = ap (λ (r : Answer Tree). r >>= (λ (next : Tree). Ok (record { tree = next; opens = opens_after others op h.picked }))) (free.effect others opens h.picked) ∙ stops_alike (tree_after tree opens op h.picked) h.picked e h.effect;
  }

shared_is : {shown : ℕ → Option (List ℕ)} {opens : CountMap} (shared : Bool) (planned : CallPlan) (ready : ReadyCall) → IsEndOf shown opens shared planned ready → ready.shared ≡ shared
shared_is shared planned ready (alone none is) = ap (λ (r : ReadyCall). r.shared) is
shared_is shared planned ready (done op changes pick acts has keeps is) = ap (λ (r : ReadyCall). r.shared) is
shared_is shared planned ready (refused op e acts has is) = ap (λ (r : ReadyCall). r.shared) is

-- ---- the promise

module _ (shown : ℕ → Option (List ℕ)) (given : List Seat) (opens : CountMap) (caller : ℕ) (made : Call) (moment : ℕ) (seat : Seat) (good : IsCall made) (at : slice_get given caller ≡ Some seat) where
  abbrev pub Planned : Result CallPlan Halt → Type 0
  Planned result = (image : Image) (tree : Tree) (others : List Seat) → IsViewOf shown seat image tree → BusyAlike made opens given others → Matches result (row tree.nodes others seat made moment (Some 0))

  module _ (image : Image) (tree : Tree) (seats : List Seat) (part : IsPart shown image.at) (volume : IsVolume image tree) (agrees : AreAlike (is_shared_call made) caller given opens seats)
      (valid : IsValidFor (record { tree = tree; seats = seats }) caller) where
    abbrev machine : Machine
    machine = record { tree = tree; seats = seats }

    there : slice_get seats caller ≡ Some seat
    there = sym agrees.own ∙ at

    over_it : IsViewOf shown seat image tree
    over_it = record { part = part; volume = volume; seated = valid.seat seat there }

    planned_by : (r : Answer CallPlan) → row tree.nodes seats seat made moment (Some 0) ≡ r → plan machine caller made moment (Some 0) ≡ r
    planned_by r h = ap (λ o. some o EINVAL >>= (λ (seat : Seat). row tree.nodes seats seat made moment (Some 0))) there ∙ h

    module _ (planned : CallPlan) (says : Planned (Ok planned)) where
      plans : plan machine caller made moment (Some 0) ≡ Ok planned
      plans = planned_by (Ok planned) (says image tree seats over_it (sees_alike made given opens seats agrees.others))

      plain : IsServedReply planned.reply
      plain = (plain_row tree.nodes seats seat made moment (Some 0)).holds planned (says image tree seats over_it (sees_alike made given opens seats agrees.others))

      module _ (op : FsOp) (is : planned.op ≡ Some op) where
        fits : Fits tree (counts seats) op None
        fits = unpicked_fits 0 machine caller made moment planned op valid good plans is

        -- equal counts, or an operation that looks at none
        had_done : (changes : List (ℕ × List ℕ)) (pick : Option ℕ) → HasActed shown opens op (λ image tree. HasDone shown image tree (count_of opens) op None changes pick)
            → (shared : Bool) → is_shared_call made ≡ shared → OthersAlike shared given opens seats → HasDone shown image tree (counts seats) op None changes pick
        had_done changes pick has false own agrees =
            let free = free_of_counts machine caller made moment (Some 0) planned op plans is own in
            done_alike tree op free (count_of opens) (counts seats) shown image changes pick (has image tree part volume (free.fits (counts seats) (count_of opens) None fits))
        had_done changes pick has true own agrees =
            let e = same_counts (count_of opens) (counts seats) agrees.counted in
            subst (λ o. HasDone shown image tree o op None changes pick) e (has image tree part volume (subst (λ o. Fits tree o op None) (sym e) fits))

        fits_given : (shared : Bool) → is_shared_call made ≡ shared → OthersAlike shared given opens seats → Fits tree (count_of opens) op None
        fits_given false own agrees = (free_of_counts machine caller made moment (Some 0) planned op plans is own).fits (counts seats) (count_of opens) None fits
        fits_given true own agrees = subst (λ o. Fits tree o op None) (sym (same_counts (count_of opens) (counts seats) agrees.counted)) fits

        had_refused : (e : Errno) → HasActed shown opens op (λ image tree. HasRefused tree (count_of opens) op None e)
            → (shared : Bool) → is_shared_call made ≡ shared → OthersAlike shared given opens seats → HasRefused tree (counts seats) op None e
        had_refused e has false own agrees =
            let free = free_of_counts machine caller made moment (Some 0) planned op plans is own in
            refusal_alike tree op free (count_of opens) (counts seats) e (has image tree part volume (free.fits (counts seats) (count_of opens) None fits))
        had_refused e has true own agrees =
            let same = same_counts (count_of opens) (counts seats) agrees.counted in
            subst (λ o. HasRefused tree o op None e) same (has image tree part volume (subst (λ o. Fits tree o op None) (sym same) fits))

      pub ready_for : (ready : ReadyCall) → IsEndOf shown opens (is_shared_call made) planned ready → IsPerformedOver image machine caller made moment ready
      ready_for ready (alone none is) = subst (IsPerformedOver image machine caller made moment) (sym is)
          (performed_alone machine caller made moment planned plans plain image (is_shared_call made) volume (no_change image) (kept_same tree image) none)
      ready_for ready (done op changes pick acts has keeps is) = subst (IsPerformedOver image machine caller made moment) (sym is)
          (performed_done machine caller made moment planned plans plain op acts image shown changes pick (is_shared_call made) (had_done op acts changes pick has (is_shared_call made) refl agrees.others))
      ready_for ready (refused op e acts has is) = subst (IsPerformedOver image machine caller made moment) (sym is)
          (performed_refused machine caller made moment planned plans plain op acts image (is_shared_call made) e valid.tree (fits op acts) (had_refused op acts e has (is_shared_call made) refl agrees.others))

  -- on each volume, for all sessions that the call cannot tell apart
  module _ (planned : CallPlan) (says : Planned (Ok planned)) (image : Image) (tree : Tree) (seats : List Seat) (part : IsPart shown image.at) (volume : IsVolume image tree)
      (agrees : AreAlike (is_shared_call made) caller given opens seats) (valid : IsValidFor (record { tree = tree; seats = seats }) caller) where
    within_for : (ready : ReadyCall) → IsEndOf shown opens (is_shared_call made) planned ready → IsWithinView shown ready.changes
    within_for ready (alone none is) = subst (λ (r : ReadyCall). IsWithinView shown r.changes) (sym is) (none_within shown)
    within_for ready (done op changes pick acts has keeps is) = subst (λ (r : ReadyCall). IsWithinView shown r.changes) (sym is)
        (had_done image tree seats part volume agrees valid planned says op acts changes pick has (is_shared_call made) refl agrees.others).within
    within_for ready (refused op e acts has is) = subst (λ (r : ReadyCall). IsWithinView shown r.changes) (sym is) (none_within shown)

    needed_for : (need : Need) (o : Option FsOp) → planned.op ≡ o → ActsNear shown opens o need → IsNear image tree (IsLooked tree.nodes seat made) need.first
    needed_for need None acts near = absurd near
    needed_for need (Some op) acts near =
        near_more image tree (IsTouched tree op) (IsLooked tree.nodes seat made) need.first
        (touched_looked (record { tree = tree; seats = seats }) caller seat moment (Some 0) made planned op good (there image tree seats part volume agrees valid)
        (plans image tree seats part volume agrees valid planned says) acts)
        (near image tree part volume (fits_given image tree seats part volume agrees valid planned says op acts (is_shared_call made) refl agrees.others))

  pub right_ended : (planned : CallPlan) (result : Performed) → Planned (Ok planned) → Ends shown opens (is_shared_call made) planned result → IsRight shown given opens caller made moment result
  right_ended planned (performed.Ready ready) says ends = λ image tree seats part volume agrees valid.
      let same = subst (λ b. AreAlike b caller given opens seats) (shared_is (is_shared_call made) planned ready ends) agrees in
      (ready_for image tree seats part volume same valid planned says ready ends, within_for planned says image tree seats part volume same valid ready ends)
  right_ended planned (performed.Need need) says ends = ends
  right_ended planned performed.NoMemory says ends = tt

  pub right_refused : (e : Errno) → Planned (Err (why.Refused e)) → IsReadyOver shown given opens caller made moment (ready_refused (is_shared_call made) e)
  right_refused e says = λ image tree seats part volume agrees valid. (
    performed_unplanned (record { tree = tree; seats = seats }) caller made moment image (is_shared_call made) e
        (planned_by image tree seats part volume agrees valid (Err e) (says image tree seats (over_it image tree seats part volume agrees valid) (sees_alike made given opens seats agrees.others))),
    none_within shown,
  )

  -- what the last step asks for
  pub needed_ended : (planned : CallPlan) (result : Performed) → Planned (Ok planned) → EndsNear shown opens planned result → IsNeeded shown given opens caller made result
  needed_ended planned (performed.Ready ready) says ends = tt
  needed_ended planned (performed.Need need) says ends = λ image tree seats other part volume agrees valid is.
      let same : seat ≡ other = let e : Some seat ≡ Some other = sym at ∙ is in cc in
      subst (λ s. IsNear image tree (IsLooked tree.nodes s made) need.first) same (needed_for planned says image tree seats part volume agrees valid need planned.op refl ends)
  needed_ended planned performed.NoMemory says ends = tt

  -- what a question asks for
  pub needed_asked : (need : Need) → ((image : Image) (tree : Tree) → IsViewOf shown seat image tree → IsNear image tree (IsLooked tree.nodes seat made) need.first) → IsNeededFor shown given opens caller made need
  needed_asked need near = λ image tree seats other part volume agrees valid is.
      let same : seat ≡ other = let e : Some seat ≡ Some other = sym at ∙ is in cc in
      subst (λ s. IsNear image tree (IsLooked tree.nodes s made) need.first) same (near image tree (over_it image tree seats part volume agrees valid))

  pub fit_ended : (planned : CallPlan) (result : Performed) → IsPlanFor seat planned → Ends shown opens (is_shared_call made) planned result → FitsCall given caller made result
  fit_ended planned (performed.Ready ready) makes ends = λ other is.
      let same : seat ≡ other = let e : Some seat ≡ Some other = sym at ∙ is in cc in
      subst (λ s. IsFit s (is_shared_call made) ready) same (fit_of seat (is_shared_call made) planned ready makes ends)
  fit_ended planned (performed.Need need) makes ends = tt
  fit_ended planned performed.NoMemory makes ends = tt
