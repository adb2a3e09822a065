-- The blocks that are asked for, worked out.
use Rattle.std.specs.Prelude.{[], ◌∷◌, ◌≡◌}
use Rattle.mb_iface.specs.Needs.{blocks_of}

-- blocks 3 and 4 and, behind them, 9 and 7
abbrev pub WorkedNeed : Type 0
WorkedNeed = blocks_of (record { first = 3; count = 2; others = 9 ∷ 0 ∷ 7 ∷ [] }) ≡ 3 ∷ 4 ∷ 9 ∷ 7 ∷ []
