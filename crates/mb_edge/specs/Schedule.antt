-- Which calls of one kind an object in memory fails.
use Rattle.std.specs.Prelude.{ℕ, ◌+◌, ◌-◌, ◌^◌, Bool, min, nat_eq}
use Rattle.std.specs.List.{list_any}
use Rattle.mb_edge.specs.declared.schedules.Schedule.{Schedule}

-- the number of the next call, from 1; it stays at the greatest u64
abbrev pub next_call : Schedule → ℕ
next_call schedule = min (schedule.made + 1) (2 ^ 64 - 1)

-- the next call is one of those that are to fail
abbrev pub is_due : Schedule → Bool
is_due schedule = list_any (λ call. nat_eq call (next_call schedule)) schedule.fails

-- after one more call
abbrev pub after_call : Schedule → Schedule
after_call schedule = record schedule { made = next_call schedule }
