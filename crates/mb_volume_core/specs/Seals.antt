-- The checkpoint that is due after a call finished.
use Rattle.std.specs.Prelude.{◌≡◌, length}
use Rattle.mb_core_spec.specs.State.{CoreState}
use Rattle.mb_core_state.specs.declared.answers.Finished.{Finished}
use Rattle.mb_core_state.specs.declared.answers.Finished.TheVariants as finished
use Rattle.mb_kinds.specs.declared.calls.Call.{Call}
use Rattle.mb_run.specs.CoreSight.{sight_of}
use Rattle.mb_run.specs.Events.{SealsIf}
use Rattle.mb_run.specs.Seals.{is_due}

-- it is taken where the call was logged
abbrev pub SealsAfter : {F D : Type 0} → Finished → Call → CoreState F D → CoreState F D → Type 0
SealsAfter finished.Logged made old new = SealsIf (is_due old.config.threshold (length old.journal.oplog) made) (sight_of old) (sight_of new)
SealsAfter _ made old new = new ≡ old
