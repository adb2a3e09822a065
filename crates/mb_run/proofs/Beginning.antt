-- A job at its beginning.
use Rattle.std.proofs.Common.{◌≡◌, List, [], ◌∷◌, ℕ, zero, suc, ◌+◌, ◌<◌, ◌≤◌, Bool, false, refl, ap, sym, subst, ◌∙◌, arith, inl, inr, Option, None, Some, length, take, slice_get}
use Rattle.std.proofs.lemmas.List.{length-take-le}
use Rattle.std.proofs.lemmas.Option.{same_Some, slice_get_past, slice_get_within}
use Rattle.mb_edge.specs.declared.crossings.Crossing.{Crossing}
use Rattle.mb_core_spec.specs.declared.stages.Stage.TheVariants as stage
use Rattle.mb_jobs.specs.declared.jobs.Job.{Job}
use Rattle.mb_jobs.specs.declared.jobs.JobCall.{JobCall}
use Rattle.mb_kinds.specs.declared.entries.Entry.{Entry}
use Rattle.mb_kinds.specs.declared.entries.Flight.{Flight}
use Rattle.mb_kinds.specs.declared.faults.Kind.TheVariants.{Enter}
use Rattle.mb_run.specs.Drives.{EntersByOrder, EntersCalmly, TakesByOrder, AreNew, HasEachMoment, IsBegun, IsComplete, IsDriven, IsLinedUp, IsRunnable, RisesByOrder, SealsByOrder, new_runner}
use Rattle.mb_run.specs.Entering.{AreTakenEntering, EntersIn, EntersSoFar}
use Rattle.mb_run.specs.Firsts.{HasFirst}
use Rattle.mb_run.specs.Letters.{AreLetters, HasBegunBy, letters_of}
use Rattle.mb_run.specs.Runs.{FirstsRise, HasTakenFaults}
use Rattle.mb_run.specs.Served.{AreSixCounts, AreStruckOnce, IsAfter, IsRunInOrder, IsServedSoFar, AllUnderWay, calls_of, moments_in}
use Rattle.mb_run.specs.Orders.{TakesAsked, asked_by, asked_in}
use Rattle.mb_run.specs.Timely.{IsTimely}
use Rattle.mb_run.specs.Sights.{IsOrderlyInSight, Limits, SightSeat, Sight}
use Rattle.mb_run.specs.declared.runner.At.TheVariants as at
use Rattle.mb_run.specs.declared.runner.Runner.{Runner}
use Rattle.mb_run.proofs.Completing.{calls_few, each_moment}
use Rattle.mb_run.proofs.Entered.{no_counts}
use Rattle.mb_run.proofs.TallyRecords.{up_to_none}
use Rattle.std.specs.List.{AllByRecursion, range_with_len}

first_served : (job : Job) (sight : Sight) (caller : ℕ) → IsBegun job sight → IsServedSoFar (calls_of job.calls caller) sight caller (new_runner caller)
first_served job sight caller begun = record {
  caller_is = refl;
  ordinal = refl;
  calls = rw (begun.seats caller, begun.history) (refl, refl);
  stands = rw (begun.seats caller) tt;
  marked = rw (begun.seats caller) refl;
  counted = rw begun.records tt;
  past = rw begun.history tt;
  once = tt;
}

-- nobody entered yet
first_entered : (test : Option (Crossing → Bool)) (caller : ℕ) → EntersSoFar test [] [] (new_runner caller).crossings false at.Outside
first_entered test caller = record { often = omega arith; taken = up_to_none test [] caller 1 Enter; past = tt }

pub begins_underway : (job : Job) (test : Option (Crossing → Bool)) (sight : Sight) (runners : List Runner) → IsRunnable job → IsBegun job sight → AreNew runners (length job.callers) → AllUnderWay job.calls test sight runners
begins_underway job test sight runners runnable begun new = record {
  served = λ caller runner here. subst (IsServedSoFar (calls_of job.calls caller) sight caller) (sym (new.each caller runner here)) (first_served job sight caller begun);
  counts = λ caller runner here. subst (λ (r : Runner). AreSixCounts r.crossings) (sym (new.each caller runner here)) (no_counts (new_runner caller).crossings);
  entered = λ caller runner here. subst (λ (r : Runner). EntersIn test sight r r.at) (sym (new.each caller runner here)) (rw (begun.records, begun.history) (first_entered test caller));
  sound = rw begun.records (record { holds = tt; apart = tt });
  callers = new.size ∙ sym begun.callers;
  most = begun.most;
  small = λ caller. (let few = calls_few job.calls caller in omega (arith, few, runnable.small));
  right = begun.right;
}

pub begins_after : (job : Job) (test : Option (Crossing → Bool)) (sight : Sight) (runners : List Runner) → IsRunnable job → IsBegun job sight → AreNew runners (length job.callers) → IsAfter job.calls test sight runners 0
begins_after job test sight runners runnable begun new = record {
  underway = begins_underway job test sight runners runnable begun new;
  free = λ caller few. ap (λ (s : SightSeat). s.flight) (begun.seats caller);
  listed = rw begun.history (record { callers = refl; made = refl });
  lined = rw (begun.history, begun.begun) (refl, refl);
  done = λ caller runner here. ap (λ (r : Runner). r.done) (new.each caller runner here);
}

pub named_below : (job : Job) (runners : List Runner) → IsRunnable job → AreNew runners (length job.callers) → AllByRecursion (λ (made : JobCall). made.caller < length runners) job.calls
named_below job runners runnable new = subst (λ n. AllByRecursion (λ (made : JobCall). made.caller < n) job.calls) (sym new.size) runnable.named

never_entry : (entry : Entry) → None ≡ Some entry → ⊥
never_entry entry same = cc

never_flight : (flight : Flight) → None ≡ Some flight → ⊥
never_flight flight same = cc

nobody : (job : Job) (sight : Sight) (caller moment : ℕ) → IsBegun job sight → HasFirst sight caller moment → ⊥
nobody job sight caller moment begun has = elim has [
  | inl found ↦ never_entry found.entry (sym (slice_get_past [] found.place (omega arith)) ∙ ap (λ h. slice_get h found.place) (sym begun.history) ∙ found.here)
  | inr found ↦ never_flight found.flight (ap (λ (s : SightSeat). s.flight) (sym (begun.seats caller)) ∙ found.here)
]

-- nobody called yet
pub begins_firsts : (letters : List ℕ) (job : Job) (sight : Sight) → IsBegun job sight → HasBegunBy letters job.calls [] sight
begins_firsts letters job sight begun = record {
  within = λ caller moment has. absurd (nobody job sight caller moment begun has);
  below = λ caller moment has. absurd (nobody job sight caller moment begun has);
  empty = λ caller moment has zero. nobody job sight caller moment begun has;
  seen_is = λ caller letter has there. absurd (omega (arith, there));
  later = λ caller letter has past. ap (λ (s : SightSeat). s.begun) (begun.seats caller);
  rises = λ one other first second before after called here there lower higher less. absurd (nobody job sight one first begun here);
}

-- ---- at the end

declared : (job : Job) (old new : Sight) → IsBegun job old → new.config ≡ old.config → new.config.callers ≡ length job.callers
declared job old new begun config = ap (λ (l : Limits). l.callers) config ∙ begun.callers

pub listed : (job : Job) (test : Option (Crossing → Bool)) (old new : Sight) (callers : ℕ) → IsBegun job old → job.order ≡ None → callers ≡ length job.callers → IsRunInOrder job.calls callers test new → new.config ≡ old.config → IsOrderlyInSight new
    → (old.stage ≡ stage.Running → HasTakenFaults test new.history new.records) → IsTimely 0 old new → IsDriven job test old new
listed job test old new callers begun none same ran config right taken seals =
    let start : new.config.start ≡ job.start = ap (λ (l : Limits). l.start) config ∙ begun.start in
    record {
      config = config;
      free = λ caller low. (let few : caller < callers = omega (arith, low, same, declared job old new begun config) in ran.free caller few);
      own_calls = λ caller low. (let few : caller < callers = omega (arith, low, same) in ran.own_calls caller few);
      begun = ran.begun;
      moments = subst (λ n. HasEachMoment n new.history) start (each_moment new right ran.begun);
      lined = subst (λ order. IsLinedUp order job.calls job.start new.history) (sym none) (ran.listed, subst (λ n. moments_in new.history ≡ range_with_len (n + 1) (length new.history)) start ran.moments);
      firsts = subst (λ order. RisesByOrder order job.callers new.history) (sym none) tt;
      enters = λ runs trail. subst (λ order. EntersByOrder order job.callers job.calls test new) (sym none) tt;
      sound = ran.sound;
      once = subst (λ n. AreStruckOnce n new.history new.records) same ran.once;
      taken = λ runs. subst (λ order. TakesByOrder order test new) (sym none) (taken runs);
      seals = subst (λ order. IsTimely (asked_by order) old new) (sym none) seals;
      asks = subst (λ order. SealsByOrder order old new) (sym none) tt;
    }

pub ordered : (job : Job) (test : Option (Crossing → Bool)) (old new : Sight) (callers : ℕ) (order : List ℕ) → IsBegun job old → job.order ≡ Some order → callers ≡ length job.callers → IsComplete job.calls callers test new → new.config ≡ old.config → IsOrderlyInSight new
    → (AreLetters (letters_of job.callers) → FirstsRise order (letters_of job.callers) new.history)
    → (old.stage ≡ stage.Running → old.trail ≡ [] → EntersCalmly order job.callers job.calls test new) → IsTimely (asked_in order) old new → TakesAsked (asked_in order) old new → IsDriven job test old new
ordered job test old new callers order begun some same done config right rises enters seals asks =
    let start : new.config.start ≡ job.start = ap (λ (l : Limits). l.start) config ∙ begun.start in
    record {
      config = config;
      free = λ caller low. (let few : caller < callers = omega (arith, low, same, declared job old new begun config) in done.free caller few);
      own_calls = λ caller low. (let few : caller < callers = omega (arith, low, same) in done.own_calls caller few);
      begun = done.begun;
      moments = subst (λ n. HasEachMoment n new.history) start (each_moment new right done.begun);
      lined = subst (λ given. IsLinedUp given job.calls job.start new.history) (sym some) tt;
      firsts = subst (λ given. RisesByOrder given job.callers new.history) (sym some) rises;
      enters = λ runs trail. subst (λ given. EntersByOrder given job.callers job.calls test new) (sym some) (enters runs trail);
      sound = done.sound;
      once = subst (λ n. AreStruckOnce n new.history new.records) same done.once;
      taken = λ runs. subst (λ given. TakesByOrder given test new) (sym some) (subst (λ n. AreTakenEntering test n new.history new.records) (same ∙ sym (declared job old new begun config)) done.entered);
      seals = subst (λ given. IsTimely (asked_by given) old new) (sym some) seals;
      asks = subst (λ given. SealsByOrder given old new) (sym some) asks;
    }

-- ---- the callers of a job

take_within : (xs : List Runner) (n i : ℕ) (x : Runner) → slice_get (take n xs) i ≡ Some x → slice_get xs i ≡ Some x
take_within [] n i x here = elim n as (λ m. slice_get (take m []) i ≡ Some x → slice_get [] i ≡ Some x) [ zero ↦ λ h. h | suc k ↦ λ h. h ] here
take_within (first ∷ xs) zero i x here = absurd (omega (arith, slice_get_within [] i x here))
take_within (first ∷ xs) (suc n) zero x here = here
take_within (first ∷ xs) (suc n) (suc i) x here = take_within xs n i x here

abbrev pub eight_runners : List Runner
eight_runners = new_runner 0 ∷ new_runner 1 ∷ new_runner 2 ∷ new_runner 3 ∷ new_runner 4 ∷ new_runner 5 ∷ new_runner 6 ∷ new_runner 7 ∷ []

one_new : (caller : ℕ) (runner : Runner) → slice_get eight_runners caller ≡ Some runner → runner ≡ new_runner caller
one_new zero runner here = sym (same_Some (new_runner 0) runner here)
one_new (suc zero) runner here = sym (same_Some (new_runner 1) runner here)
one_new (suc (suc zero)) runner here = sym (same_Some (new_runner 2) runner here)
one_new (suc (suc (suc zero))) runner here = sym (same_Some (new_runner 3) runner here)
one_new (suc (suc (suc (suc zero)))) runner here = sym (same_Some (new_runner 4) runner here)
one_new (suc (suc (suc (suc (suc zero))))) runner here = sym (same_Some (new_runner 5) runner here)
one_new (suc (suc (suc (suc (suc (suc zero)))))) runner here = sym (same_Some (new_runner 6) runner here)
one_new (suc (suc (suc (suc (suc (suc (suc zero))))))) runner here = sym (same_Some (new_runner 7) runner here)
one_new (suc (suc (suc (suc (suc (suc (suc (suc n)))))))) runner here = absurd (omega (arith, slice_get_within eight_runners (suc (suc (suc (suc (suc (suc (suc (suc n)))))))) runner here))

pub are_new : (count callers : ℕ) → count ≡ callers → callers ≤ 8 → AreNew (take count eight_runners) callers
are_new count callers is few = record {
  size = (let low : count ≤ 8 = omega (arith, is, few) in length-take-le count eight_runners low) ∙ is;
  each = λ caller runner here. one_new caller runner (take_within eight_runners count caller runner here);
}
