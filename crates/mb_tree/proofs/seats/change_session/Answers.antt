use Rattle.mb_tree.specs.Sessions.{changed}
use Rattle.mb_tree.specs.declared.seats.Seat.{Seat}
use Rattle.mb_tree.proofs.Swaps.{put_back}
use Rattle.mb_tree.proofs.seats.change_session.Goals as goal

pub returns : goal.returns
returns c = put_back (λ (seat : Seat). changed seat c.args.change) _ _ _ c.args.caller _ _ _ c.requires.caller c.swap.ensures.put c.swap.ensures.taken c.change.ensures c.swap-2.ensures.put
