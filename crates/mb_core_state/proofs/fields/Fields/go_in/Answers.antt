use Rattle.std.proofs.Common.{◌∙◌, ap, slice_get}
use Rattle.mb_core_state.proofs.Enterings.{goes_in_after, if_ok}
use Rattle.mb_core_state.proofs.fields.Fields.go_in.Goals as goal

pub returns-clause-ok : goal.returns-clause-ok
returns-clause-ok g c = if_ok c.take_ticket.result _ _ (λ ticket goes mine here.
    goes_in_after c.args.self.now c.take_ticket.new.self c.args.caller mine c.args.call.now ticket c.reserved_by-reserved.result c.reserve_entry.new.self c.reserve_entry.ensures.same c.reserved_by-reserved.ensures
    (goes mine (ap (λ core. slice_get core.callers c.args.caller) c.reserve_entry.ensures.same ∙ here)) c.in_ok-reserve_entry.ensures.ok c.reserve_entry.ensures.kept c.take_ticket.ensures.room) c.take_ticket.ensures.ok
