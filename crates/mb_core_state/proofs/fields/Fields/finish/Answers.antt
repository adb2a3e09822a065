use Rattle.std.proofs.Common.{◌∙◌, ap, slice_get}
use Rattle.mb_core_state.proofs.Loggings.{logged_after}
use Rattle.mb_core_state.proofs.fields.Fields.finish.Goals as goal

pub returns-in-Ok-clause-finishes : goal.returns-in-Ok-clause-finishes
returns-in-Ok-clause-finishes g c = λ mine flight here flies.
    let ok = c.in-Ok.ensures in
    let there = ap (λ core. slice_get core.callers c.args.ticket.now.caller) ok.put ∙ here in
    let done = c.book.ensures.booked mine flight there flies in (
      ok.present,
      ok.mine,
      ok.fresh mine here,
      logged_after c.args.self.now c.prepare.new.self c.book.new.self c.args.ticket.now.caller mine flight c.args.ticket.now c.args.ready c.in-Ok.entry c.op_and_reply-op.result ok.put done.0 (ok.entry mine flight here flies) c.op_and_reply-op.ensures done.1,
    )

pub returns-in-Err-clause-finishes : goal.returns-in-Err-clause-finishes
returns-in-Err-clause-finishes g c = λ mine flight here flies. c.in-Err.ensures.err mine flight here
