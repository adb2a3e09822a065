-- The rule holds of a new table.
use Rattle.mb_turn.proofs.Parts.{opens}
use Rattle.mb_turn.proofs.turn.laid.Goals as goal

pub new-requires : goal.new-requires
new-requires g c = rw (c.push_reserved.ensures.items, c.in-Ok.ensures.items) (opens _ _ _ _ _ c.args.value _ c.entries-count.ensures c.of.ensures)
