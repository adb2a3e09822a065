-- The call that runs a step of a recovery.
use Rattle.std.proofs.Common.{◌≡◌, List, ℕ, ◌<◌, Bool, true, false, inl, inr, ap, sym, subst, ◌∙◌, arith, Option, None, Some, length, get_or, slice_get, slice_set, get_or-set_same}
use Rattle.std.proofs.Math.ListN.{length-set}
use Rattle.std.proofs.lemmas.Option.{same_Some, slice_get_within}
use Rattle.mb_core_spec.specs.Copies.{PagesState}
use Rattle.mb_edge.specs.declared.crossings.Crossing.{Crossing}
use Rattle.mb_jobs.specs.declared.jobs.JobCall.{JobCall}
use Rattle.mb_kinds.specs.declared.calls.Call.{Call}
use Rattle.mb_kinds.specs.declared.entries.Flight.{Flight}
use Rattle.mb_run.specs.Orders.{HasCallOpen, MovesCall}
use Rattle.mb_run.specs.Served.{IsAtBy, IsMarked, IsResting, IsServedSoFar, IsStanding, MayGiveUp, MayStep, Rolled, AllUnderWay, calls_in, calls_of}
use Rattle.mb_run.specs.Sights.{IsOrderlyInSight, IsWaiting, Sight, recovers}
use Rattle.mb_run.specs.declared.progress.Went.{Went}
use Rattle.mb_run.specs.declared.progress.Went.TheVariants as went
use Rattle.mb_run.specs.declared.runner.At.{At}
use Rattle.mb_run.specs.declared.runner.At.TheVariants as at
use Rattle.mb_run.specs.declared.runner.Runner.{Runner}
use Rattle.mb_run.proofs.Everybody.{got, may_of, put_underway, some_call}
use Rattle.mb_run.proofs.GivingUp.{waits_by}
use Rattle.mb_run.proofs.Rolling.{not_running}

pub same_gets : (runners : List Runner) (caller : ℕ) (x d : Runner) → caller < length runners → get_or runners caller x ≡ get_or runners caller d
same_gets runners caller x d low = same_Some (get_or runners caller x) (get_or runners caller d) (sym (got runners caller x low) ∙ got runners caller d low)

pub letter_may : (calls : List JobCall) (test : Option (Crossing → Bool)) (sight : Sight) (runners : List Runner) (caller : ℕ) (x d : Runner) (call : Call) → AllUnderWay calls test sight runners → caller < length runners
    → slice_get (calls_of calls caller) (get_or runners caller x).done ≡ Some call → MayStep calls test sight (get_or runners caller d) call
letter_may calls test sight runners caller x d call underway low next =
    may_of calls test sight runners caller (get_or runners caller d) call underway (got runners caller d low)
    (subst (λ (r : Runner). slice_get (calls_of calls caller) r.done ≡ Some call) (same_gets runners caller x d low) next)

pub rolled_move : (calls : List JobCall) (test : Option (Crossing → Bool)) (old new : Sight) (before now : Runner) (came : Went) → Rolled calls test old new before now came → MovesCall calls test old new before now
rolled_move calls test old new before now went.Ended rolled = record { nears = rolled.nears; done = inr rolled.goes.0 }
rolled_move calls test old new before now went.On rolled = record { nears = rolled.nears; done = inl rolled.goes.0 }
rolled_move calls test old new before now went.Back rolled = record { nears = rolled.nears; done = inl rolled.goes.0 }
rolled_move calls test old new before now went.Shut rolled = absurd rolled.goes
rolled_move calls test old new before now (went.Busy holder) rolled = absurd rolled.goes
rolled_move calls test old new before now went.NoMemory rolled = record { nears = rolled.nears; done = inl rolled.goes.0 }

no_both : true ≡ false → ⊥
no_both same = cc

-- while a recovery is in progress a call without an entry is outside, or has an older ticket
rests_at : (sight : Sight) (caller : ℕ) (pages : PagesState) (answered : Bool) (a : At) → recovers sight.stage ≡ true → answered ≡ false → IsMarked answered (sight.seats caller).flight → IsStanding sight caller pages a → IsResting sight.incarnation a
rests_at sight caller pages answered at.Outside recovered lacks marked stands = tt
rests_at sight caller pages answered (at.Inside ticket) recovered lacks marked stands = λ present. not_running sight recovered (stands.1.runs present)
rests_at sight caller pages answered (at.Logged ticket) recovered lacks marked stands =
    (let yes : answered ≡ true = sym (subst (IsMarked answered) stands.0.here marked) ∙ stands.0.answered in absurd (no_both (sym yes ∙ lacks)))

module _ (calls : List JobCall) (test : Option (Crossing → Bool)) (sight : Sight) (runners : List Runner) (caller : ℕ) (underway : AllUnderWay calls test sight runners) (open_at : HasCallOpen sight runners caller) where
  pub open_low : caller < length runners
  open_low = slice_get_within runners caller open_at.runner open_at.here

  served : IsServedSoFar (calls_of calls caller) sight caller open_at.runner
  served = underway.served caller open_at.runner open_at.here

  waits : (flight : Flight) × ((sight.seats caller).flight ≡ Some flight) × (flight.answered ≡ false)
  waits = waits_by (calls_of calls caller) (calls_in sight.history caller) open_at.runner.done (sight.seats caller).begun open_at.runner.answered (sight.seats caller).flight open_at.more open_at.lacks served.calls served.marked

  is_got : (d : Runner) → open_at.runner ≡ get_or runners caller d
  is_got d = same_Some open_at.runner (get_or runners caller d) (sym open_at.here ∙ got runners caller d open_low)

  pub open_has : (x : Runner) → slice_get (calls_of calls caller) (get_or runners caller x).done ≡ None → ⊥
  open_has x none =
      let at_it = subst (IsAtBy (calls_of calls caller) (calls_in sight.history caller) open_at.runner.done (sight.seats caller).begun) waits.1 served.calls in
      some_call waits.0.call (sym none ∙ ap (λ (r : Runner). slice_get (calls_of calls caller) r.done) (sym (is_got x)) ∙ at_it.2)

  pub open_rests : (d : Runner) → recovers sight.stage ≡ true → IsResting sight.incarnation (get_or runners caller d).at
  open_rests d recovered = subst (λ (r : Runner). IsResting sight.incarnation r.at) (is_got d)
      (rests_at sight caller open_at.runner.pages open_at.runner.answered open_at.runner.at recovered open_at.lacks served.marked served.stands)

  pub open_waits : (d : Runner) → IsWaiting (sight.seats (get_or runners caller d).crossings.caller)
  open_waits d = subst (λ n. IsWaiting (sight.seats n)) (sym (ap (λ (r : Runner). r.crossings.caller) (sym (is_got d)) ∙ served.caller_is)) waits

-- the same call, where there was no memory for the step
pub rolled_gives_up : (calls : List JobCall) (test : Option (Crossing → Bool)) (old new : Sight) (runners : List Runner) (caller : ℕ) (d now e : Runner) → AllUnderWay calls test old runners → caller < length runners
    → Rolled calls test old new (get_or runners caller d) now went.NoMemory → IsOrderlyInSight new → MayGiveUp new (get_or (slice_set runners caller now) caller e)
rolled_gives_up calls test old new runners caller d now e underway low rolled right =
    let on : AllUnderWay calls test new (slice_set runners caller now) = put_underway calls test old new runners caller d now underway low rolled.nears right in
    let size : length (slice_set runners caller now) ≡ length runners = length-set runners caller now in
    let there : caller < length (slice_set runners caller now) = omega (arith, size, low) in
    let served = on.served caller (get_or (slice_set runners caller now) caller e) (got (slice_set runners caller now) caller e there) in
    record {
      list = calls_of calls caller;
      served = subst (λ n. IsServedSoFar (calls_of calls caller) new n (get_or (slice_set runners caller now) caller e)) (sym served.caller_is) served;
      within = omega (arith, served.caller_is, on.callers, there);
      lacks = ap (λ (r : Runner). r.answered) (get_or-set_same runners caller now e low) ∙ rolled.goes.1;
      right = right;
    }
