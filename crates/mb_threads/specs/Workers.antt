-- What a caller's thread begins with, and what it leaves.
use Rattle.std.specs.Prelude.{ℕ, ◌+◌, ◌<◌, ◌≤◌, ◌≡◌, List, [], length, map, Bool, true, false, Option, None}
use Rattle.std.specs.List.{AllByRecursion}
use Rattle.atomic_table.specs.Seated.{TableId}
use Rattle.mb_edge.specs.declared.crossings.Crossing.{Crossing}
use Rattle.mb_jobs.specs.declared.jobs.JobCall.{JobCall}
use Rattle.mb_kinds.specs.declared.calls.Call.{Call}
use Rattle.mb_kinds.specs.declared.entries.Entry.{Entry}
use Rattle.mb_kinds.specs.declared.faults.FaultRecord.{FaultRecord}
use Rattle.mb_run.specs.Seals.{is_plain}
use Rattle.mb_run.specs.Served.{AreSound, calls_of}
use Rattle.mb_turn.specs.Passes.{IsIdle, Known}
use Rattle.mb_volume.specs.Called.{AreOfFirst, MetOnce}
use Rattle.mb_volume.specs.Parts.{Part}
use Rattle.mb_volume.specs.Passing.{IsLater, part_in}
use Rattle.mb_volume.specs.Shared.{Shared}

-- a call with a plain reply met one fault of its own at most
abbrev pub MetOnceIfPlain : List FaultRecord → Entry → Type 0
MetOnceIfPlain struck entry = is_plain entry.reply ≡ true → MetOnce entry.ordinal struck

-- these calls of the caller were answered, in this order, and none is in flight
pub record HasMadeCalls (made : List Call) (test : Option (Crossing → Bool)) (part : Part) : Type 0 where
  pub calls : map (λ (entry : Entry). entry.call) part.entries ≡ made
  pub seat : part.seat ≡ record { begun = length made; flight = None }
  pub first : AreOfFirst (length made) part.struck
  pub sound : AreSound test part.struck
  pub ordinals : AllByRecursion (λ (entry : Entry). entry.ordinal ≤ length made) part.entries
  pub once : AllByRecursion (MetOnceIfPlain part.struck) part.entries

module _ {F D : Type 0} where
  -- a pass whose caller has made no call yet, and may make those of the job
  pub record IsReady (table : TableId) (pass : Known (Shared F D)) (test : Option (Crossing → Bool)) (calls : List JobCall) : Type 0 where
    pub idle : IsIdle table pass
    pub most : length (calls_of calls pass.caller) ≤ (part_in pass).config.most
    pub made : HasMadeCalls [] test (part_in pass)

  -- the same pass later on; unless it met want of memory its caller has made all its calls
  pub record IsWorked (table : TableId) (before after : Known (Shared F D)) (test : Option (Crossing → Bool)) (calls : List JobCall) (stopped : Bool) : Type 0 where
    pub later : IsLater table before after
    pub made : stopped ≡ false → HasMadeCalls (calls_of calls before.caller) test (part_in after)
