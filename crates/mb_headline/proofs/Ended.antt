-- The end of a run.
use Rattle.std.proofs.Common.{◌≡◌, ℕ, ◌+◌, ◌-◌, ◌^◌, ◌<◌, ◌≤◌, ◌⊎◌, inl, inr, true, false, Option, None, Some, length, refl, ap, sym, subst, ◌∙◌, arith}
use Rattle.std.specs.List.{count_by}
use Rattle.std.proofs.lemmas.List.{nil_from_length}
use Rattle.std.proofs.lemmas.Option.{slice_get_within}
use Rattle.mb_cache.specs.Pages.{under}
use Rattle.mb_core_spec.specs.Callers.{EachCaller}
use Rattle.mb_core_spec.specs.Faults.{MayNumber, is_device}
use Rattle.mb_core_spec.specs.Histories.{IsCheckpointed}
use Rattle.mb_core_spec.specs.Right.{Right}
use Rattle.mb_core_spec.specs.State.{CoreState}
use Rattle.mb_core_spec.specs.declared.stages.Stage.{Stage}
use Rattle.mb_core_spec.specs.declared.stages.Stage.TheVariants as stage
use Rattle.mb_edge.specs.Causes.{Rose}
use Rattle.mb_jobs.specs.declared.jobs.Job.{Job}
use Rattle.mb_kinds.specs.Image.{Image}
use Rattle.mb_kinds.specs.declared.entries.Entry.{Entry}
use Rattle.mb_run.specs.CoreSight.{seat_of, sight_of}
use Rattle.mb_run.specs.Settling.{IsSettled}
use Rattle.mb_run.specs.Sights.{Limits, SightSeat, recovers}
use Rattle.mb_headline.specs.Headline.{FewerDevices, IsAtRest, IsDone, HasGivenUp, LeavesImage, opened}
use Rattle.mb_headline.specs.Laws.{IsPathOfRun}
use Rattle.mb_headline.proofs.Running.{path_few, path_first, path_history, path_opened, told_now}

no_both : true ≡ false → ⊥
no_both same = cc

-- a volume that does not recover runs or failed
runs_or_failed : (now : Stage) → recovers now ≡ false → (now ≡ stage.Running) ⊎ (now ≡ stage.Failed)
runs_or_failed stage.Running over = inl refl
runs_or_failed stage.Struck over = absurd (no_both over)
runs_or_failed stage.Again over = absurd (no_both over)
runs_or_failed stage.Dropped over = absurd (no_both over)
runs_or_failed stage.Remounted over = absurd (no_both over)
runs_or_failed (stage.Restored done) over = absurd (no_both over)
runs_or_failed stage.Failed over = inr refl

pub rose_past : (count before middle now : ℕ) → (middle < 2 ^ 64 - 1 → count + before ≤ middle) → Rose middle now → now < 2 ^ 64 - 1 → count + before < now
rose_past count before middle now few rose low =
    let less : middle < now = omega (arith, rose, low) in
    let below : middle < 2 ^ 64 - 1 = omega (arith, less, low) in
    let most = few below in omega (arith, most, less)

module _ {F D : Type 0} (fs : F) (told : D → Option Image) (faults : D → ℕ) (asked : ℕ) (job : Job) (disk : D) (begun driven ended : CoreState F D) (path : IsPathOfRun fs told faults asked job disk begun driven ended) where
  callers_same : length ended.config.callers ≡ length driven.config.callers
  callers_same = ap (λ (limits : Limits). limits.callers) path.keeps.config

  path_free : EachCaller (λ caller mine. mine.flight ≡ None) ended.callers
  path_free caller mine here =
      let within : caller < length ended.callers = slice_get_within ended.callers caller mine here in
      let low : caller < length driven.config.callers = omega (arith, within, path.right.orderly.numbered.callers_are, callers_same) in
      ap (λ found. (seat_of found).flight) (sym here) ∙ ap (λ (seat : SightSeat). seat.flight) (path.keeps.seats caller) ∙ path.drives.free caller low

  module _ (settled : IsSettled (sight_of driven) (sight_of ended)) where
    path_rest : IsAtRest ended
    path_rest = record {
      free = path_free;
      current = nil_from_length ended.cache.current settled.current;
      sealed = nil_from_length ended.cache.sealed settled.sealed;
    }

    pub path_image : LeavesImage told job disk ended
    path_image image tree is volume =
        let first : told ended.first ≡ Some image = path_first fs told faults asked job disk begun driven ended path ∙ is in
        let now = told_now (told ended.cache.disk) (path.right.tells image first) in
        let held = (path.right.holds image now.0 tree first now.1 volume).checkpoint in
        let plain : under now.0 ended.cache.sealed ≡ now.0 = ap (under now.0) path_rest.sealed in
        let there : IsCheckpointed (opened job tree) tree image now.0 ended.journal.history ended.journal.sealed_at ended.tables.saved =
        subst (λ base. IsCheckpointed (opened job tree) tree image base ended.journal.history ended.journal.sealed_at ended.tables.saved) plain
        (subst (λ machine. IsCheckpointed machine tree image (under now.0 ended.cache.sealed) ended.journal.history ended.journal.sealed_at ended.tables.saved)
        (path_opened fs told faults asked job disk begun driven ended path tree) held) in
        (now.0, now.1, record { within = there.within; volume = there.volume; kept = there.kept })

    pub path_ends : IsDone job ended ⊎ HasGivenUp job ended
    path_ends = elim (runs_or_failed ended.stage settled.over) [
      | inl runs ↦ inl (record {
        rest = path_rest;
        runs = runs;
        few = subst (MayNumber (length ended.journal.records) job.limit) runs (path_few fs told faults asked job disk begun driven ended path);
        sealed_at = settled.sealed_at runs;
      })
      | inr failed ↦ inr (record {
        rest = path_rest;
        failed = failed;
        many = subst (MayNumber (length ended.journal.records) job.limit) failed (path_few fs told faults asked job disk begun driven ended path);
      })
    ]

  pub path_fewer : Right told faults driven → driven.first ≡ begun.first → Rose (faults driven.cache.disk) (faults ended.cache.disk) → FewerDevices (faults disk) (faults ended.cache.disk) ended.journal.history
  path_fewer right first rose low =
      let scanned : faults disk ≤ faults driven.first = subst (λ d. faults disk ≤ faults d) (sym first) path.over.over.scanned in
      let same : count_by (λ (entry : Entry). is_device entry.reply) ended.journal.history ≡ count_by (λ (entry : Entry). is_device entry.reply) driven.journal.history =
      ap (count_by (λ (entry : Entry). is_device entry.reply)) (path_history fs told faults asked job disk begun driven ended path) in
      let before = rose_past (count_by (λ (entry : Entry). is_device entry.reply) driven.journal.history) (faults driven.first) (faults driven.cache.disk) (faults ended.cache.disk) right.devices rose low in
      omega (arith, same, scanned, before)
