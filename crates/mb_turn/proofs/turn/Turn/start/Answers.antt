-- The first seat has the sights of the cards, and each pass is its card's.
use Rattle.std.proofs.Common.{[], false, map, sym, ap, ◌∙◌}
use Rattle.std.specs.List.{range_with_len}
use Rattle.mb_turn.specs.Passes.{Room, known, dealt}
use Rattle.mb_turn.specs.Rule.{idle, sight_of_card}
use Rattle.mb_turn.proofs.Seats.{card_sights, card_passes}
use Rattle.mb_turn.proofs.turn.Turn.start.Goals as goal

pub deal-passes-requires-clause-seat : goal.deal-passes-requires-clause-seat
deal-passes-requires-clause-seat g c =
    c.in_ok-turn.ensures.seat.1 ∙ ap (λ sights. (idle sights, [])) (sym (ap (map sight_of_card) c.in-Ok.ensures.0 ∙ card_sights 0 c.args.callers c.args.value))

pub returns-clause-passes : goal.returns-clause-passes
returns-clause-passes g c =
    c.deal-passes.ensures
    ∙ ap (map (λ card. known c.turn.inside.table.shared.table_id card.0 card.1 false)) c.in-Ok.ensures.0
    ∙ card_passes c.turn.inside.table.shared.table_id c.args.value (range_with_len 0 c.args.callers)
    ∙ ap (λ (room : Room). dealt room.table c.args.callers c.args.value) c.turn.view_is
