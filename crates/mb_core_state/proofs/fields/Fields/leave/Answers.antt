use Rattle.std.proofs.Common.{◌∙◌, ap}
use Rattle.mb_core_state.proofs.Held.{left_after}
use Rattle.mb_core_state.proofs.fields.Fields.leave.Goals as goal

pub returns-clause-leaves : goal.returns-clause-leaves
returns-clause-leaves g c = λ mine here.
    let done = rw (← c.self-2.view_is) at (c.hand_out-reply.ensures.ended mine here) in (
      c.if-ticket-self.false ∙ ap (λ core. core.incarnation) c.self.view_is,
      done.0,
      left_after c.args.self.now _ c.args.ticket.now.caller mine c.args.ticket.now c.mark.new.self done.1 c.mark.ensures.marked,
      done.2,
    )
