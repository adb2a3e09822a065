-- What leaves all calls as they are.
use Rattle.std.proofs.Common.{◌≡◌, List, [], ◌∷◌, ℕ, ◌+◌, ◌<◌, ◌≤◌, Bool, true, inl, inr, refl, ap, sym, subst, ◌∙◌, arith, Option, None, Some, length}
use Rattle.std.proofs.lemmas.List.{append-nil}
use Rattle.std.proofs.lemmas.Option.{slice_get_within}
use Rattle.mb_cache.specs.declared.answers.Flushed.{Flushed}
use Rattle.mb_cache.specs.declared.answers.Flushed.TheVariants as flushed
use Rattle.mb_core_spec.specs.declared.stages.Stage.TheVariants as stage
use Rattle.mb_core_spec.specs.declared.steps.Step.TheVariants as step
use Rattle.mb_edge.specs.declared.crossings.Crossing.{Crossing}
use Rattle.mb_edge.specs.declared.crossings.Crossings.{Crossings}
use Rattle.mb_jobs.specs.declared.jobs.JobCall.{JobCall}
use Rattle.mb_kinds.specs.Own.{own}
use Rattle.mb_run.specs.Events.{FlushesWith, sealed}
use Rattle.mb_run.specs.Orders.{IsQuiet, IsWhole, seals_in}
use Rattle.mb_run.specs.Recovering.{GoOn, Steps, Waits}
use Rattle.mb_run.specs.Served.{ActsAlone, AllUnderWay, calls_of}
use Rattle.mb_run.specs.Sights.{IsOrderlyInSight, Limits, Sight, recovers}
use Rattle.mb_run.specs.Timely.{IsTimely}
use Rattle.mb_run.specs.declared.answers.StepAnswer.{StepAnswer}
use Rattle.mb_run.specs.declared.answers.StepAnswer.TheVariants as stepped
use Rattle.mb_run.specs.declared.runner.Runner.{Runner}
use Rattle.mb_run.proofs.Balance.{balanced_same}
use Rattle.mb_run.proofs.Firsts.{firsts_still}
use Rattle.mb_run.proofs.Moving.{grows_same}
use Rattle.mb_run.proofs.Rolling.{not_running, other_served}
use Rattle.mb_run.proofs.Taking.{takes_quiet}
use Rattle.mb_run.proofs.Trails.{trail_marks, trail_put, trail_same}

pub quiet_acts : (caller : ℕ) (old new : Sight) → IsQuiet old new → ActsAlone caller old new
quiet_acts caller old new quiet = record {
  config = quiet.config;
  seats = λ other apart. quiet.seats other;
  own = λ other apart. ap (λ h. own h other) quiet.counts.history;
  entries = [];
  grown = quiet.counts.history ∙ sym (append-nil old.history);
  theirs = tt;
  more = [];
  records = quiet.records ∙ sym (append-nil old.records);
  mine = tt;
  later = omega (arith, quiet.incarnation);
  runs = λ same running. quiet.runs running;
  copies = λ same running other apart. quiet.copies running other;
  stales = λ same running other apart. quiet.stales running other;
  calm = λ same. quiet.incarnation;
  floor = elim quiet.floor [ inl none ↦ inl none | inr same ↦ inr (inr same) ];
  firsts = firsts_still old new quiet.counts.history quiet.counts.begun quiet.seats;
  trail = quiet.trail;
}

pub quiet_whole : (calls : List JobCall) (test : Option (Crossing → Bool)) (asked : ℕ) (old new : Sight) (runners : List Runner) → AllUnderWay calls test old runners → IsQuiet old new → IsTimely asked old new → (old.stage ≡ stage.Running → seals_in old + asked ≤ seals_in new) → IsOrderlyInSight new
    → IsWhole calls test asked old new runners runners
quiet_whole calls test asked old new runners underway quiet seals takes right = record {
  underway = record {
    served = λ caller runner here. other_served (calls_of calls caller) (length runners) caller old new runner
        (λ same. (let low : caller < length runners = slice_get_within runners caller runner here in omega (arith, low, same)))
        (quiet_acts (length runners) old new quiet) (underway.served caller runner here);
    counts = underway.counts;
    entered = λ caller runner here. rw (quiet.counts.history, quiet.records) (underway.entered caller runner here);
    sound = rw quiet.records underway.sound;
    callers = underway.callers ∙ ap (λ (l : Limits). l.callers) (sym quiet.config);
    most = λ caller. rw quiet.config (underway.most caller);
    small = underway.small;
    right = right;
  };
  grows = grows_same runners;
  balanced = balanced_same old new quiet.counts;
  config = quiet.config;
  firsts = firsts_still old new quiet.counts.history quiet.counts.begun quiet.seats;
  later = record { entries = []; history = quiet.counts.history ∙ sym (append-nil old.history); trail = quiet.trail };
  seals = seals;
  takes = takes_quiet asked old new quiet takes;
}

pub quiet_same : (old new : Sight) → new ≡ old → IsQuiet old new
quiet_same old new same = subst (IsQuiet old) (sym same) (record {
  config = refl;
  records = refl;
  incarnation = refl;
  seats = λ caller. refl;
  counts = record { history = refl; begun = refl; open_calls = refl };
  floor = inr refl;
  trail = trail_same old.trail;
  runs = λ running. running;
  copies = λ running caller. refl;
  stales = λ running caller. refl;
})

pub quiet_sealed : (old new : Sight) → new ≡ sealed old new → IsQuiet old new
quiet_sealed old new same = subst (IsQuiet old) (sym same) (record {
  config = refl;
  records = refl;
  incarnation = refl;
  seats = λ caller. refl;
  counts = record { history = refl; begun = refl; open_calls = refl };
  floor = inr refl;
  trail = trail_put old.trail (step.Sealed (length old.history) ∷ []) (sealed old new).trail refl;
  runs = λ running. running;
  copies = λ running caller. refl;
  stales = λ running caller. refl;
})

pub quiet_flush : (old new : Sight) (answer : Flushed) → FlushesWith old new answer → IsQuiet old new
quiet_flush old new flushed.One flushes = subst (IsQuiet old) (sym flushes.1) (record {
  config = refl;
  records = refl;
  incarnation = refl;
  seats = λ caller. refl;
  counts = record { history = refl; begun = refl; open_calls = refl };
  floor = inr refl;
  trail = trail_same old.trail;
  runs = λ running. running;
  copies = λ running caller. refl;
  stales = λ running caller. refl;
})
quiet_flush old new flushed.Clean flushes = quiet_same old new flushes.1
quiet_flush old new flushed.Device flushes = quiet_same old new flushes.1

quiet_waits : (old new : Sight) → Waits old new → new.records ≡ old.records → recovers old.stage ≡ true → IsQuiet old new
quiet_waits old new waits records recovered = record {
  config = waits.config;
  records = records;
  incarnation = waits.incarnation;
  seats = waits.seats;
  counts = waits.counts;
  floor = waits.floor;
  trail = trail_marks old.trail new.trail waits.log.trail;
  runs = λ running. absurd (not_running old recovered running);
  copies = λ running caller. absurd (not_running old recovered running);
  stales = λ running caller. absurd (not_running old recovered running);
}

-- a step of a recovery that nobody runs
quiet_step : (test : Option (Crossing → Bool)) (old new : Sight) (answer : StepAnswer) → Steps test None None old new answer → IsQuiet old new
quiet_step test old new stepped.Idle steps = quiet_same old new steps.1
quiet_step test old new (stepped.Unwound ticket) steps = quiet_waits old new steps.1.waits steps.1.records steps.1.recovered
quiet_step test old new (stepped.Failed faults) steps = elim steps.1 [
  | inl plain ↦ quiet_waits old new plain.1 plain.0 plain.2
  | inr strikes ↦ absurd strikes
]
quiet_step test old new stepped.Dropped steps = quiet_waits old new steps.1.waits steps.1.records steps.1.recovered
quiet_step test old new stepped.Remounted steps = quiet_waits old new steps.2.waits steps.2.records steps.2.recovered
quiet_step test old new stepped.Reopened steps = quiet_waits old new steps.1.waits steps.1.records steps.1.recovered
quiet_step test old new (stepped.Replayed n) steps = quiet_waits old new steps.1.waits steps.1.records steps.1.recovered
quiet_step test old new stepped.Resumed steps = quiet_waits old new steps.2.waits steps.2.records steps.2.recovered
quiet_step test old new (stepped.Again faults) steps = absurd steps.1
quiet_step test old new stepped.Device steps = quiet_same old new steps.1
quiet_step test old new stepped.NoMemory steps = quiet_same old new steps

pub quiet_alone : (test : Option (Crossing → Bool)) (old new : Sight) (by : Option Crossings) (answer : StepAnswer) → GoOn None by → Steps test None by old new answer → IsQuiet old new
quiet_alone test old new None answer on steps = quiet_step test old new answer steps
quiet_alone test old new (Some crossings) answer on steps = absurd on
