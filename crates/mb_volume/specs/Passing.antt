-- What a pass knows of a shared core before and after a hold of the turn.
use Rattle.std.specs.Prelude.{◌≡◌, ◌≤◌, Bool, true, Option}
use mathlib.Core.List.{IsPrefix}
use Rattle.atomic_table.specs.Seated.{TableId}
use Rattle.mb_edge.specs.declared.crossings.Crossing.{Crossing}
use Rattle.mb_kinds.specs.declared.calls.Call.{Call}
use Rattle.mb_run.specs.CoreSight.{sight_of}
use Rattle.mb_run.specs.Sights.{IsWaiting, Sight, amiss_in}
use Rattle.mb_turn.specs.Passes.{IsIdle, Known}
use Rattle.mb_volume.specs.Parts.{Part, part_of}
use Rattle.mb_volume.specs.Underway.{IsCallUnderway}
use Rattle.mb_volume.specs.declared.attempt.Attempt.{Attempt}
use Rattle.mb_volume.specs.Shared.{Shared}

module _ {F D : Type 0} where
  -- the core as the pass's caller saw it last, and its caller's part of it
  abbrev pub seen_by : Known (Shared F D) → Sight
  seen_by pass = sight_of pass.value.core.core

  abbrev pub part_in : Known (Shared F D) → Part
  part_in pass = part_of (seen_by pass) pass.caller

  -- the same caller's pass later on, without the turn
  pub record IsLater (table : TableId) (old new : Known (Shared F D)) : Type 0 where
    pub idle : IsIdle table new
    pub caller : new.caller ≡ old.caller
    pub first : new.value.core.core.first ≡ old.value.core.core.first
    pub config : new.value.core.core.config ≡ old.value.core.core.config
    pub seen : IsPrefix (seen_by old).history (seen_by new).history
    -- no checkpoint was taken but where one was due, and none was left out behind a sync(2), by whomever
    pub seals : amiss_in (seen_by new) ≤ amiss_in (seen_by old)

  -- a call of the pass's caller is under way, and waits for a recovery where that is said
  pub record IsMaking (call : Call) (test : Option (Crossing → Bool)) (pass : Known (Shared F D)) (attempt : Attempt) (shut : Bool) : Type 0 where
    pub caller : attempt.crossings.caller ≡ pass.caller
    pub from : Part
    pub underway : IsCallUnderway call test from (part_in pass) attempt
    pub waits : shut ≡ true → IsWaiting (part_in pass).seat
