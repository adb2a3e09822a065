-- How the crossings of a call are counted.
use Rattle.std.specs.Prelude.{ℕ, ◌+◌, ◌-◌, ◌^◌, min, List, slice_index}
use Rattle.mb_kinds.specs.declared.faults.Kind.{Kind}
use Rattle.mb_kinds.specs.declared.faults.Kind.TheVariants.{Enter, Gather, Finish, Leave, Remount, Replay}

-- the place of a kind among the six
abbrev pub place_of : Kind → ℕ
place_of Enter = 0
place_of Gather = 1
place_of Finish = 2
place_of Leave = 3
place_of Remount = 4
place_of Replay = 5

-- the number of the next crossing of a kind, which stays at the greatest u32
abbrev pub next_nth : List ℕ → Kind → ℕ
next_nth counts kind = min (slice_index counts (place_of kind) + 1) (2 ^ 32 - 1)
