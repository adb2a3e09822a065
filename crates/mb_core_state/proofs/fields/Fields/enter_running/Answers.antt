use Rattle.std.proofs.Common.{inl, inr, refl}
use Rattle.mb_core_state.proofs.fields.Fields.enter_running.Goals as goal

pub returns-in-Some-present_ticket : goal.returns-in-Some-present_ticket
returns-in-Some-present_ticket g c = λ mine here. (c.requires.lacks mine here, c.requires.runs, c.in_default.ensures mine c.args.call.now here, inl (c.in-Some-present_ticket.ensures.some mine here, refl))

pub returns-in-Ok-go_in : goal.returns-in-Ok-go_in
returns-in-Ok-go_in g c = λ mine here.
    (c.requires.lacks mine here, c.requires.runs, c.in_default.ensures mine c.args.call.now here, inr (c.in_default-present_ticket.ensures.none mine here, c.in-Ok-go_in.ensures.ok mine here))
