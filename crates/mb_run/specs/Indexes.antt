-- Where each caller's calls stand in a job's list.
use Rattle.std.specs.Prelude.{List, [], ℕ, ◌≡◌, ◌≤◌, Option, Some, length, map, option_map, slice_get, take}
use Rattle.mb_jobs.specs.declared.jobs.JobCall.{JobCall}
use Rattle.mb_kinds.specs.declared.calls.Call.{Call}
use Rattle.mb_run.specs.Served.{calls_of}

-- the call at a place of a job's list
abbrev pub call_at : List JobCall → ℕ → Option Call
call_at calls place = option_map (λ (made : JobCall). made.call) (slice_get calls place)

-- the places of each caller lead to its calls among the first so many of the job, in their order
pub record PlacesLeadTo (calls : List JobCall) (index : ℕ) (places : List (List ℕ)) : Type 0 where
  pub eight : length places ≡ 8
  pub each : (caller : ℕ) (mine : List ℕ) → slice_get places caller ≡ Some mine → map (call_at calls) mine ≡ map (λ (call : Call). Some call) (calls_of (take index calls) caller)

-- they lead to all calls of each caller
pub record IsIndexOf (calls : List JobCall) (places : List (List ℕ)) : Type 0 where
  pub leads : PlacesLeadTo calls (length calls) places
  pub past : (caller : ℕ) → 8 ≤ caller → calls_of calls caller ≡ []
