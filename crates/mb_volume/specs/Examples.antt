-- The definitions at work on numbers.
use Rattle.std.specs.Prelude.{◌≡◌, ◌-◌, ◌^◌, ◌&&◌, nat_eq, Bool, false, Some}
use Rattle.mb_edge.specs.declared.crossings.Crossing.{Crossing}
use Rattle.mb_kinds.specs.declared.faults.Kind.TheVariants.{Remount}
use Rattle.mb_volume.specs.Called.{TakesFirsts, firsts_planned, is_on_way}

-- a plan with one rule: caller 1's second call is struck at its first fault point of each kind
abbrev pub second_call : Crossing → Bool
second_call at = nat_eq at.caller 1 && nat_eq at.ordinal 2 && nat_eq at.nth 1

-- four of them are on its way, so that the count rose from 5 to 9 or more; where it stayed at 8 one was not taken, which another caller's
-- call, or another number, may. The count stays at the greatest u64
abbrev pub WorkedFirsts : Type 0
WorkedFirsts =
    (firsts_planned second_call 1 2 ≡ 4)
    × TakesFirsts (Some second_call) 1 2 5 9
    × (TakesFirsts (Some second_call) 1 2 5 8 → ⊥)
    × TakesFirsts (Some second_call) 0 2 5 5
    × TakesFirsts (Some second_call) 1 3 5 5
    × TakesFirsts (Some second_call) 1 2 (2 ^ 64 - 2) (2 ^ 64 - 1)
    × (is_on_way Remount ≡ false)
