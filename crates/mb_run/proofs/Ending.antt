-- The end of a run.
use Rattle.std.proofs.Common.{◌≡◌, ◌≢◌, [], ◌∷◌, Bool, true, false, inl, inr, refl, ap, sym, subst, ◌∙◌, arith, Option, None, Some, length}
use Rattle.mb_core_spec.specs.declared.steps.Step.TheVariants as step
use Rattle.mb_core_spec.specs.declared.stages.Stage.{Stage}
use Rattle.mb_core_spec.specs.declared.stages.Stage.TheVariants as stage
use Rattle.mb_edge.specs.declared.crossings.Crossing.{Crossing}
use Rattle.mb_edge.specs.declared.crossings.Crossings.{Crossings}
use Rattle.mb_run.specs.Events.{sealed}
use Rattle.mb_run.specs.Orders.{IsSealedNow, seals_in}
use Rattle.mb_run.specs.Recovering.{GoOn, Steps, StrikesBy}
use Rattle.mb_run.specs.Settling.{IsCutShort, IsFlushed, IsSettled, KeepsHistory}
use Rattle.mb_run.specs.Sights.{IsOrderlyInSight, Sight, recovers}
use Rattle.mb_run.specs.declared.answers.StepAnswer.{StepAnswer}
use Rattle.mb_run.specs.declared.settles.SettleEnd.{SettleEnd}
use Rattle.mb_run.specs.declared.settles.SettleEnd.TheVariants as end
use Rattle.mb_run.proofs.Quiet.{quiet_alone}
use Rattle.mb_run.proofs.Stales.{put_beyond}
use Rattle.mb_run.proofs.Taking.{seals_more, takes_one}
use Rattle.mb_run.proofs.Timely.{alone_told, timely_alone, timely_seal}
use Rattle.mb_run.proofs.Trails.{trail_put, trail_same, trail_then}

pub alone_keeps : (test : Option (Crossing → Bool)) (old new : Sight) (by : Option Crossings) (answer : StepAnswer) → GoOn None by → Steps test None by old new answer → KeepsHistory old new
alone_keeps test old new by answer on steps =
    let quiet = quiet_alone test old new by answer on steps in
    record {
      history = quiet.counts.history;
      records = quiet.records;
      config = quiet.config;
      seats = quiet.seats;
      trail = quiet.trail;
      prompt = (timely_alone test old new by answer steps).prompt;
      told = alone_told test old new by answer steps;
    }

pub never_struck : (test : Option (Crossing → Bool)) (by : Option Crossings) (old new : Sight) → StrikesBy test None by old new → ⊥
never_struck test None old new strikes = strikes
never_struck test (Some now) old new strikes = strikes

pub keeps_same : (s : Sight) → KeepsHistory s s
keeps_same s = record { history = refl; records = refl; config = refl; seats = λ caller. refl; trail = trail_same s.trail; prompt = omega arith; told = λ caller. omega arith }

pub keeps_then : (a b d : Sight) → KeepsHistory a b → KeepsHistory b d → KeepsHistory a d
keeps_then a b d one two = record {
  history = two.history ∙ one.history;
  records = two.records ∙ one.records;
  config = two.config ∙ one.config;
  seats = λ caller. two.seats caller ∙ one.seats caller;
  trail = trail_then a.trail b.trail d.trail one.trail two.trail;
  prompt = (let low = one.prompt in let more = two.prompt in omega (arith, low, more));
  told = λ caller. (let low = one.told caller in let more = two.told caller in omega (arith, low, more));
}

pub keeps_still : (old new : Sight) → new ≡ old → KeepsHistory old new
keeps_still old new same = subst (KeepsHistory old) (sym same) (keeps_same old)

pub sealed_keeps : (old new : Sight) → IsSealedNow old new → KeepsHistory old new
sealed_keeps old new is = elim is [
  | inl taken ↦ subst (KeepsHistory old) (sym taken.1) (record {
    history = refl;
    records = refl;
    config = refl;
    seats = λ caller. refl;
    trail = trail_put old.trail (step.Sealed (length old.history) ∷ []) (sealed old new).trail refl;
    prompt = (timely_seal old (sealed old new) refl).prompt;
    told = λ caller. (let same = put_beyond caller old.trail (step.Sealed (length old.history)) refl in omega (arith, same));
  })
  | inr none ↦ subst (KeepsHistory old) (sym none.1) (keeps_same old)
]

pub flushed_keeps : (old new : Sight) (came : SettleEnd) → IsFlushed old new came → KeepsHistory old new
flushed_keeps old new came is = subst (KeepsHistory old) (sym is.rest) (record { history = refl; records = refl; config = refl; seats = λ caller. refl; trail = trail_same old.trail; prompt = omega arith; told = λ caller. omega arith })

no_both : true ≡ false → ⊥
no_both same = cc

stopped_by : (now : Stage) → recovers now ≡ false → now ≢ stage.Running → now ≡ stage.Failed
stopped_by stage.Running over stopped = absurd (stopped refl)
stopped_by stage.Struck over stopped = absurd (no_both over)
stopped_by stage.Again over stopped = absurd (no_both over)
stopped_by stage.Dropped over stopped = absurd (no_both over)
stopped_by stage.Remounted over stopped = absurd (no_both over)
stopped_by (stage.Restored done) over stopped = absurd (no_both over)
stopped_by stage.Failed over stopped = refl

pub settled : (first a b d : Sight) (came : SettleEnd) → KeepsHistory first a → recovers a.stage ≡ false → IsOrderlyInSight a → IsSealedNow a b → IsFlushed b d came → came ≡ end.Clean → IsSettled first d
settled first a b d came kept over right seal flush clean = record {
  keeps = keeps_then first b d (keeps_then first a b kept (sealed_keeps a b seal)) (flushed_keeps b d came flush);
  over = ap (λ (s : Sight). recovers s.stage) flush.rest ∙ elim seal [
    | inl taken ↦ ap (λ (s : Sight). recovers s.stage) taken.1 ∙ over
    | inr none ↦ ap (λ (s : Sight). recovers s.stage) none.1 ∙ over
  ];
  current = ap (λ (s : Sight). s.current) flush.rest ∙ elim seal [
    | inl taken ↦ ap (λ (s : Sight). s.current) taken.1
    | inr none ↦ ap (λ (s : Sight). s.current) none.1 ∙ right.dropped (stopped_by a.stage over none.0)
  ];
  sealed = flush.all clean;
  sealed_at = λ runs. elim seal [
    | inl taken ↦ (ap (λ (s : Sight). s.sealed_at) flush.rest ∙ ap (λ (s : Sight). s.sealed_at) taken.1
        ∙ ap length (sym (ap (λ (s : Sight). s.history) flush.rest ∙ ap (λ (s : Sight). s.history) taken.1)))
    | inr none ↦ absurd (none.0 (sym (ap (λ (s : Sight). s.stage) flush.rest ∙ ap (λ (s : Sight). s.stage) none.1) ∙ runs))
  ];
  closes = λ runs. elim seal [
    | inl taken ↦ (let low = seals_more first.trail a.trail kept.trail in let one = takes_one 1 a b refl (inl taken) taken.0 in let same = ap (λ (s : Sight). seals_in s) flush.rest in omega (arith, low, one, same))
    | inr none ↦ absurd (none.0 (sym (ap (λ (s : Sight). s.stage) flush.rest ∙ ap (λ (s : Sight). s.stage) none.1) ∙ runs))
  ];
}

-- the disk failed while pages were written back
pub cut_short : (a b d : Sight) (came : SettleEnd) → recovers a.stage ≡ false → IsOrderlyInSight a → IsSealedNow a b → IsFlushed b d came → came ≡ end.Device → IsCutShort d
cut_short a b d came over right seal flush broken = inr (record {
  over = ap (λ (s : Sight). recovers s.stage) flush.rest ∙ elim seal [
    | inl taken ↦ ap (λ (s : Sight). recovers s.stage) taken.1 ∙ over
    | inr none ↦ ap (λ (s : Sight). recovers s.stage) none.1 ∙ over
  ];
  current = ap (λ (s : Sight). s.current) flush.rest ∙ elim seal [
    | inl taken ↦ ap (λ (s : Sight). s.current) taken.1
    | inr none ↦ ap (λ (s : Sight). s.current) none.1 ∙ right.dropped (stopped_by a.stage over none.0)
  ];
  waits = flush.some broken;
  sealed_at = λ runs. elim seal [
    | inl taken ↦ (ap (λ (s : Sight). s.sealed_at) flush.rest ∙ ap (λ (s : Sight). s.sealed_at) taken.1
        ∙ ap length (sym (ap (λ (s : Sight). s.history) flush.rest ∙ ap (λ (s : Sight). s.history) taken.1)))
    | inr none ↦ absurd (none.0 (sym (ap (λ (s : Sight). s.stage) flush.rest ∙ ap (λ (s : Sight). s.stage) none.1) ∙ runs))
  ];
})
