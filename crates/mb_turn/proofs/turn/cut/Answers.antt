-- A view without the turn may be cut.
use Rattle.std.proofs.Common.{rules, ap}
use Rattle.mb_turn.proofs.Parts.{splits}
use Rattle.mb_turn.proofs.turn.cut.Goals as goal

pub split_seat-one-requires : goal.split_seat-one-requires
split_seat-one-requires g c = (search rules, search rules, splits _ _ _ _ _ _ _ (ap (λ m. m.0.holds) c.requires.seat))
