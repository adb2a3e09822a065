-- What one event of a caller's call comes to, one hold of the turn, and one step.
use Rattle.std.specs.Prelude.{ℕ, ◌≤◌, ◌≡◌, Bool, Option}
use Rattle.atomic_table.specs.Seated.{TableId}
use Rattle.mb_edge.specs.declared.crossings.Crossing.{Crossing}
use Rattle.mb_kinds.specs.declared.calls.Call.{Call}
use Rattle.mb_kinds.specs.declared.faults.Kind.{Kind}
use Rattle.mb_run.specs.Rising.{RisesWith}
use Rattle.mb_run.specs.Served.{counted}
use Rattle.mb_run.specs.Sights.{Sight}
use Rattle.mb_turn.specs.Passes.{Known}
use Rattle.mb_volume.specs.Parts.{MovesPart}
use Rattle.mb_volume.specs.Passed.{Hears, HearsAt, HearsFault, MarksPoints, MarksSeen}
use Rattle.mb_volume.specs.Passing.{IsLater, part_in}
use Rattle.mb_volume.specs.Rising.{RisesAfter, word_for}
use Rattle.mb_volume.specs.Shared.{Shared}
use Rattle.mb_volume.specs.Underway.{GoesSeen, LeadsCallOn}
use Rattle.mb_volume.specs.declared.attempt.Attempt.{Attempt}
use Rattle.mb_volume.specs.declared.events.Came.{Came}
use Rattle.mb_volume.specs.declared.events.Event.{Event}

-- an event, by sights of the core: the call goes on or was answered, the fault points that it passed are counted, the attempt is the
-- same caller's, and the core changes in that caller's part alone
pub record ComesOfEvent (call : Call) (test : Option (Crossing → Bool)) (event : Event) (old new : Sight) (was now : Attempt) (came : Came) : Type 0 where
  pub goes : GoesSeen call test old new was now came
  pub marks : MarksSeen event old new was now came
  pub same : now.crossings.caller ≡ was.crossings.caller
  pub moves : MovesPart was.crossings.caller old new

-- one for which the fault injector is not asked, whatever its test is: no fault record comes
pub record ComesUnasked (call : Call) (event : Event) (old new : Sight) (was now : Attempt) (came : Came) : Type 0 where
  pub comes : (test : Option (Crossing → Bool)) → ComesOfEvent call test event old new was now came
  pub still : new.records ≡ old.records

module _ {F D : Type 0} where
  -- a hold of the turn for an event, by passes; `before` and `after` are the fault injector's counts of faults
  pub record ComesOfHold (table : TableId) (call : Call) (test : Option (Crossing → Bool)) (event : Event) (before after : ℕ) (old new : Known (Shared F D)) (was now : Attempt) (came : Came) : Type 0 where
    pub later : IsLater table old new
    pub leads : LeadsCallOn call test (part_in old) (part_in new) was now came
    pub marks : MarksPoints event (part_in old).seat (part_in new).seat was now came
    pub same : now.crossings.caller ≡ was.crossings.caller
    pub rises : RisesAfter (word_for event) before after (part_in old).struck (part_in new).struck
    pub grows : before ≤ after

  -- a step of the call: some holds, and what the fault injector was asked
  pub record ComesOfStep (table : TableId) (call : Call) (test : Option (Crossing → Bool)) (before after : ℕ) (old new : Known (Shared F D)) (was now : Attempt) (came : Came) : Type 0 where
    pub later : IsLater table old new
    pub leads : LeadsCallOn call test (part_in old) (part_in new) was now came
    pub hears : Hears test before after (part_in old).seat (part_in new).seat was now came
    pub same : now.crossings.caller ≡ was.crossings.caller
    pub rises : RisesWith before after (part_in old).struck (part_in new).struck

  -- the fault injector was asked at the next fault point of a kind, and the call goes on
  pub record GoesPast (test : Option (Crossing → Bool)) (before after : ℕ) (old new : Known (Shared F D)) (was now : Attempt) (kind : Kind) : Type 0 where
    pub pass : new ≡ old
    pub attempt : now ≡ record was { crossings = counted was.crossings kind }
    pub hears : HearsAt test before after was.crossings kind

  -- it was asked there, and the call is struck
  pub record IsStruckAt (table : TableId) (call : Call) (test : Option (Crossing → Bool)) (before after : ℕ) (old new : Known (Shared F D)) (was now : Attempt) (kind : Kind) (came : Came) : Type 0 where
    pub later : IsLater table old new
    pub leads : LeadsCallOn call test (part_in old) (part_in new) was now came
    pub hears : HearsFault test before after (part_in new).seat was now kind came
    pub same : now.crossings.caller ≡ was.crossings.caller
