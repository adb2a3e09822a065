-- The seat with the sights of all passes knows what the value is that the table ends with.
use Rattle.std.proofs.Common.{sym, ap, ◌∙◌}
use Rattle.std.specs.Prelude.{is_some}
use Rattle.mb_turn.specs.Passes.{EachIn, Follows}
use Rattle.mb_turn.proofs.Lists.{each_map}
use Rattle.mb_turn.proofs.Seats.{closed_with, closed_at}
use Rattle.mb_turn.proofs.turn.Turn.close.Goals as goal
use Rattle.mb_turn.proofs.turn.Turn.close.Goals.{After-free}

pub unwrap-value-requires : goal.unwrap-value-requires
unwrap-value-requires g c =
    let r = closed_with _ _ _ _ c.self.inside.table.shared.key c.gather-seat.result.id c.gather-seat.result.me c.args.passes.items _ _ c.take.result c.gather-seat.ensures.seat
    (c.requires.all ∙ sym (ap (λ r. r.callers) c.self.view_is)) c.close_with-closed.ensures.values.2 c.take.ensures.value in
    ap is_some r.1

follow : (g : _) (c : After-free g) → EachIn (λ pass. Follows g.T.Booked.list g.T.Booked.stand g.T.Booked.origin g.T.Booked.tally pass.caller pass.value c.unwrap-value.result) c.args.passes.items
follow g c =
    closed_at _ _ _ _ c.self.inside.table.shared.key c.gather-seat.result.id c.gather-seat.result.me c.args.passes.items _ _ c.take.result c.unwrap-value.result c.gather-seat.ensures.seat
    (c.requires.all ∙ sym (ap (λ r. r.callers) c.self.view_is)) c.close_with-closed.ensures.values.2 c.take.ensures.value c.unwrap-value.ensures

pub returns-clause-origin : goal.returns-clause-origin
returns-clause-origin g c = each_map _ _ (λ pass f. f.same) c.args.passes.items (follow g c)

pub returns-clause-seen : goal.returns-clause-seen
returns-clause-seen g c = each_map _ _ (λ pass f. f.goes_on) c.args.passes.items (follow g c)

pub returns-clause-mine : goal.returns-clause-mine
returns-clause-mine g c = each_map _ _ (λ pass f. f.keeps_own) c.args.passes.items (follow g c)

pub returns-clause-stand : goal.returns-clause-stand
returns-clause-stand g c = each_map _ _ (λ pass f. f.stands) c.args.passes.items (follow g c)

pub returns-clause-tally : goal.returns-clause-tally
returns-clause-tally g c = each_map _ _ (λ pass f. f.fewer) c.args.passes.items (follow g c)
