-- The value goes into the slot that the pass has, and it is one that its caller may give.
use Rattle.std.proofs.Common.{ap, ◌∙◌}
use Rattle.mb_turn.proofs.Seats.{rests_held, filled, adds_known, adds_card, grown}
use Rattle.mb_turn.proofs.turn.Turn.give.Goals as goal

pub publish-requires-clause-seat : goal.publish-requires-clause-seat
publish-requires-clause-seat g c =
    let rests = rests_held c.pass.inside.seat.me c.pass.inside.card.0 c.pass.inside.card.1 c.pass.invariant (ap (λ p. p.holds) c.pass.view_is ∙ c.requires.held) in
    let filled_is = filled c.pass.inside.seat.me c.exchange-empty.new.seat.me c.pass.inside.card.0 c.pass.inside.card.1 c.args.value _ rests c.exchange-empty.ensures.3 in
    adds_card _ _ _ _ c.pass.inside.card.0 c.caller.result c.pass.inside.card.1 c.args.value c.of-card.result c.exchange-empty.new.seat.me c.of-card.ensures c.caller.ensures
    (adds_known _ _ _ _ _ _ _ c.args.value _ _ c.pass.view_is c.requires.origin c.requires.list c.requires.others c.requires.tally) filled_is

pub returns-clause-mine : goal.returns-clause-mine
returns-clause-mine g c = λ new e.
    grown g.T.Booked.list c.of-card.result c.args.value c.args.pass.now new (c.of-card.ensures ∙ ap (λ n. (n, c.args.value)) (c.caller.ensures ∙ ap (λ p. p.caller) c.pass.view_is)) c.requires.list e
