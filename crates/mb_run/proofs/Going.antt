-- Steps of a caller, one after another.
use Rattle.std.proofs.Common.{◌≡◌, List, ℕ, ◌+◌, ◌<◌, ◌≤◌, Bool, true, inl, inr, refl, ap, sym, subst, ◌∙◌, arith, Option, None}
use Rattle.mb_edge.specs.declared.crossings.Crossing.{Crossing}
use Rattle.mb_kinds.specs.declared.calls.Call.{Call}
use Rattle.mb_run.specs.Served.{ActsAlone, Did, IsFloorOf, IsServedSoFar, MayStep, Nears, HasRun, InLine, RunsRecovery, Rolled, calls_of, work}
use Rattle.mb_run.specs.Sights.{IsOrderlyInSight, IsWaiting, Sight, recovers}
use Rattle.mb_run.specs.declared.runner.At.TheVariants as at
use Rattle.mb_jobs.specs.declared.jobs.JobCall.{JobCall}
use Rattle.mb_run.specs.declared.progress.Went.TheVariants as went
use Rattle.mb_run.specs.declared.runner.Runner.{Runner}
use Rattle.mb_run.proofs.Acting.{acts_same, acts_then}
use Rattle.mb_run.proofs.Timely.{timely_refl, timely_then}

pub nears_same : (calls : List JobCall) (test : Option (Crossing → Bool)) (old : Sight) (runner : Runner) (call : Call) → MayStep calls test old runner call → Nears calls test old old runner runner
nears_same calls test old runner call may = record { same = refl; counts = may.counts; acts = acts_same runner.crossings.caller old; lined = λ line. line; balanced = λ even. even; served = may.served; sound = may.sound; entered = λ was. was; seals = timely_refl old }

pub nears_then : (calls : List JobCall) (test : Option (Crossing → Bool)) (a b d : Sight) (r s t : Runner) → Nears calls test a b r s → Nears calls test b d s t → Nears calls test a d r t
nears_then calls test a b d r s t one two = record {
  same = two.same ∙ one.same;
  counts = two.counts;
  acts = acts_then r.crossings.caller a b d one.acts (subst (λ n. ActsAlone n b d) one.same two.acts);
  lined = λ line. subst (λ n. InLine n d) one.same (two.lined (subst (λ n. InLine n b) (sym one.same) (one.lined line)));
  balanced = λ even. two.balanced (one.balanced even);
  served = subst (λ n. IsServedSoFar (calls_of calls n) d n t) one.same two.served;
  sound = two.sound;
  entered = λ was. two.entered (one.entered was);
  seals = timely_then a b d 0 0 one.seals two.seals;
}

pub nears_may : (calls : List JobCall) (test : Option (Crossing → Bool)) (old new : Sight) (before now : Runner) (call : Call) → MayStep calls test old before call → Nears calls test old new before now → now.done ≡ before.done → IsOrderlyInSight new
    → MayStep calls test new now call
nears_may calls test old new before now call may nears done right = record {
  served = subst (λ n. IsServedSoFar (calls_of calls n) new n now) (sym nears.same) nears.served;
  sound = nears.sound;
  within = rw (nears.same, nears.acts.config) may.within;
  most = rw (nears.same, nears.acts.config) may.most;
  small = rw nears.same may.small;
  next = rw (nears.same, done) may.next;
  counts = nears.counts;
  right = right;
}

-- on the way of a recovery
pub record IsRolling (calls : List JobCall) (test : Option (Crossing → Bool)) (old new : Sight) (before now : Runner) (call : Call) : Type 0 where
  pub may : MayStep calls test new now call
  pub nears : Nears calls test old new before now
  pub done : now.done ≡ before.done
  pub outside : now.at ≡ at.Outside
  pub waits : IsWaiting (new.seats now.crossings.caller)
  pub recovered : recovers new.stage ≡ true
  pub less : work new now.crossings.caller now ≤ work old before.crossings.caller before

pub rolling_begin : (calls : List JobCall) (test : Option (Crossing → Bool)) (old : Sight) (runner : Runner) (call : Call) → MayStep calls test old runner call → runner.at ≡ at.Outside → IsWaiting (old.seats runner.crossings.caller) → recovers old.stage ≡ true
    → IsRolling calls test old old runner runner call
rolling_begin calls test old runner call may outside waits recovered = record {
  may = may;
  nears = nears_same calls test old runner call may;
  done = refl;
  outside = outside;
  waits = waits;
  recovered = recovered;
  less = omega arith;
}

pub rolling_on : (calls : List JobCall) (test : Option (Crossing → Bool)) (old mid new : Sight) (before m now : Runner) (call : Call) → IsRolling calls test old mid before m call → Rolled calls test mid new m now went.On → IsOrderlyInSight new
    → IsRolling calls test old new before now call
rolling_on calls test old mid new before m now call so_far rolled right = record {
  may = nears_may calls test mid new m now call so_far.may rolled.nears rolled.goes.0 right;
  nears = nears_then calls test old mid new before m now so_far.nears rolled.nears;
  done = rolled.goes.0 ∙ so_far.done;
  outside = rolled.goes.1 ∙ so_far.outside;
  waits = subst (λ n. IsWaiting (new.seats n)) (sym rolled.nears.same) rolled.goes.2;
  recovered = rolled.goes.3;
  less = (let here : work new now.crossings.caller now ≡ work new m.crossings.caller now = ap (λ n. work new n now) rolled.nears.same in omega (arith, so_far.less, rolled.goes.5, here));
}

pub rolling_ends : (calls : List JobCall) (test : Option (Crossing → Bool)) (old mid new : Sight) (before m now : Runner) (call : Call) → IsRolling calls test old mid before m call → Rolled calls test mid new m now went.Ended
    → RunsRecovery calls test old new before now went.Ended
rolling_ends calls test old mid new before m now call so_far rolled = record {
  nears = nears_then calls test old mid new before m now so_far.nears rolled.nears;
  goes = (rolled.goes.0 ∙ ap (λ n. n + 1) so_far.done, ap (λ n. (new.seats n).flight) (sym so_far.nears.same) ∙ rolled.goes.1);
}

pub rolling_back : (calls : List JobCall) (test : Option (Crossing → Bool)) (old mid new : Sight) (before m now : Runner) (call : Call) → IsRolling calls test old mid before m call → Rolled calls test mid new m now went.Back
    → RunsRecovery calls test old new before now went.Back
rolling_back calls test old mid new before m now call so_far rolled = record {
  nears = nears_then calls test old mid new before m now so_far.nears rolled.nears;
  goes = (rolled.goes.0 ∙ so_far.done, (let here : work new before.crossings.caller now ≡ work new m.crossings.caller now = ap (λ n. work new n now) (sym so_far.nears.same) in omega (arith, so_far.less, rolled.goes.2, here)));
}

pub rolling_stops : (calls : List JobCall) (test : Option (Crossing → Bool)) (old mid new : Sight) (before m now : Runner) (call : Call) → IsRolling calls test old mid before m call → Rolled calls test mid new m now went.NoMemory
    → RunsRecovery calls test old new before now went.NoMemory
rolling_stops calls test old mid new before m now call so_far rolled = record { nears = nears_then calls test old mid new before m now so_far.nears rolled.nears; goes = (rolled.goes.0 ∙ so_far.done, rolled.goes.1) }

-- ---- turns of a call, where nobody else has the floor

pub record IsTurning (calls : List JobCall) (test : Option (Crossing → Bool)) (old new : Sight) (before now : Runner) (call : Call) : Type 0 where
  pub may : MayStep calls test new now call
  pub nears : Nears calls test old new before now
  pub done : now.done ≡ before.done

pub turning_begin : (calls : List JobCall) (test : Option (Crossing → Bool)) (old : Sight) (runner : Runner) (call : Call) → MayStep calls test old runner call → IsTurning calls test old old runner runner call
turning_begin calls test old runner call may = record { may = may; nears = nears_same calls test old runner call may; done = refl }

pub turning_on : (calls : List JobCall) (test : Option (Crossing → Bool)) (old mid new : Sight) (before m now : Runner) (call : Call) → IsTurning calls test old mid before m call → Nears calls test mid new m now → now.done ≡ m.done → IsOrderlyInSight new
    → IsTurning calls test old new before now call
turning_on calls test old mid new before m now call so_far nears done right = record {
  may = nears_may calls test mid new m now call so_far.may nears done right;
  nears = nears_then calls test old mid new before m now so_far.nears nears;
  done = done ∙ so_far.done;
}

pub turning_less : (calls : List JobCall) (test : Option (Crossing → Bool)) (mid new : Sight) (m now : Runner) → Nears calls test mid new m now → work new m.crossings.caller now < work mid m.crossings.caller m
    → work new now.crossings.caller now < work mid m.crossings.caller m
turning_less calls test mid new m now nears less = let here : work new now.crossings.caller now ≡ work new m.crossings.caller now = ap (λ n. work new n now) nears.same in omega (arith, here, less)

-- the floor stays nobody's or one's own
pub still_mine : (caller : ℕ) (old new : Sight) → ActsAlone caller old new → IsFloorOf caller old.floor → IsFloorOf caller new.floor
still_mine caller old new acts mine = elim acts.floor [ inl none ↦ inl none | inr rest ↦ elim rest [ inl own ↦ inr own | inr same ↦ elim mine [ inl none ↦ inl (same ∙ none) | inr own ↦ inr (same ∙ own) ] ] ]

pub turning_ends : (calls : List JobCall) (test : Option (Crossing → Bool)) (old mid new : Sight) (before m now : Runner) (call : Call) → IsTurning calls test old mid before m call → Nears calls test mid new m now → now.done ≡ m.done + 1
    → (new.seats m.crossings.caller).flight ≡ None → HasRun calls test old new before now
turning_ends calls test old mid new before m now call so_far nears done free = record {
  nears = nears_then calls test old mid new before m now so_far.nears nears;
  done = done ∙ ap (λ n. n + 1) so_far.done;
  free = ap (λ n. (new.seats n).flight) (sym so_far.nears.same) ∙ free;
}

-- a call that waits for a recovery, up to its end or to the next turn
pub waits_may : (calls : List JobCall) (test : Option (Crossing → Bool)) (old mid new : Sight) (before m now : Runner) (call : Call) → IsTurning calls test old mid before m call → Did calls test mid new m now went.Shut → IsOrderlyInSight new
    → MayStep calls test new now call
waits_may calls test old mid new before m now call so_far did right = nears_may calls test mid new m now call so_far.may did.nears did.goes.0 right

pub waits_waiting : (calls : List JobCall) (test : Option (Crossing → Bool)) (mid new : Sight) (m now : Runner) → Did calls test mid new m now went.Shut → IsWaiting (new.seats now.crossings.caller)
waits_waiting calls test mid new m now did = subst (λ n. IsWaiting (new.seats n)) (sym did.nears.same) did.goes.4

pub shut_ends : (calls : List JobCall) (test : Option (Crossing → Bool)) (old mid shut new : Sight) (before m s now : Runner) (call : Call) → IsTurning calls test old mid before m call → Did calls test mid shut m s went.Shut → RunsRecovery calls test shut new s now went.Ended
    → HasRun calls test old new before now
shut_ends calls test old mid shut new before m s now call so_far did recovers =
    turning_ends calls test old mid new before m now call so_far (nears_then calls test mid shut new m s now did.nears recovers.nears) (recovers.goes.0 ∙ ap (λ n. n + 1) did.goes.0)
    (ap (λ n. (new.seats n).flight) (sym did.nears.same) ∙ recovers.goes.1)

pub shut_goes : (calls : List JobCall) (test : Option (Crossing → Bool)) (old mid shut new : Sight) (before m s now : Runner) (call : Call) → IsTurning calls test old mid before m call → Did calls test mid shut m s went.Shut → RunsRecovery calls test shut new s now went.Back
    → IsOrderlyInSight new → IsTurning calls test old new before now call
shut_goes calls test old mid shut new before m s now call so_far did recovers right =
    turning_on calls test old mid new before m now call so_far (nears_then calls test mid shut new m s now did.nears recovers.nears) (recovers.goes.0 ∙ did.goes.0) right

pub shut_less : (calls : List JobCall) (test : Option (Crossing → Bool)) (mid shut new : Sight) (m s now : Runner) → Did calls test mid shut m s went.Shut → RunsRecovery calls test shut new s now went.Back
    → work new now.crossings.caller now < work mid m.crossings.caller m
shut_less calls test mid shut new m s now did recovers =
    let first : work shut s.crossings.caller s ≡ work shut m.crossings.caller s = ap (λ n. work shut n s) did.nears.same in
    let second : work new now.crossings.caller now ≡ work new s.crossings.caller now = ap (λ n. work new n now) recovers.nears.same in
    omega (arith, first, second, did.goes.1, recovers.goes.1)

pub mine_then : (calls : List JobCall) (test other : Option (Crossing → Bool)) (old mid new : Sight) (before m now : Runner) (call : Call) → IsTurning calls test old mid before m call → Nears calls other mid new m now → IsFloorOf before.crossings.caller mid.floor
    → IsFloorOf before.crossings.caller new.floor
mine_then calls test other old mid new before m now call so_far nears mine = still_mine before.crossings.caller mid new (subst (λ n. ActsAlone n mid new) so_far.nears.same nears.acts) mine

pub mine_twice : (calls : List JobCall) (test other : Option (Crossing → Bool)) (old mid shut new : Sight) (before m s now : Runner) (call : Call) → IsTurning calls test old mid before m call → Nears calls other mid shut m s → Nears calls other shut new s now
    → IsFloorOf before.crossings.caller mid.floor → IsFloorOf before.crossings.caller new.floor
mine_twice calls test other old mid shut new before m s now call so_far one two mine =
    still_mine before.crossings.caller shut new (subst (λ n. ActsAlone n shut new) (one.same ∙ so_far.nears.same) two.acts) (mine_then calls test other old mid shut before m s call so_far one mine)
