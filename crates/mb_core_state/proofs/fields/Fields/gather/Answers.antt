use Rattle.std.proofs.Common.{◌∙◌, ap, sym, subst, slice_get}
use Rattle.mb_cache.specs.Stamps.{Stamps}
use Rattle.mb_edge.specs.Causes.{Rose}
use Rattle.mb_core_spec.specs.Events.{GivesBack}
use Rattle.mb_kinds.specs.declared.replies.Reply.TheVariants as reply
use Rattle.mb_core_state.proofs.Gatherings.{answered_after, device_rose, gathered_event}
use Rattle.mb_core_state.proofs.fields.Fields.gather.Goals as goal

pub returns-in-Ok-clause-gathers : goal.returns-in-Ok-clause-gathers
returns-in-Ok-clause-gathers g c = λ mine flight here flies.
    let by = c.in-Ok.ensures.ok mine here in (
      c.if-ticket-self.false ∙ ap (λ core. core.incarnation) c.self.view_is,
      by,
      gathered_event g.D.Disk.told c.args.self.now c.gather_for.new.self c.args.ticket.now.caller c.args.need mine c.args.pages.now c.gather_for.new.pages c.gather_for.ensures.rest by,
    )

pub returns-in-Err-Device-clause-gathers : goal.returns-in-Err-Device-clause-gathers
returns-in-Err-Device-clause-gathers g c = λ mine flight here flies.
    let kept = c.in-Err-Device.ensures.err in
    let there = ap (λ all. slice_get all c.args.ticket.now.caller) kept.0 ∙ here in
    let done = c.answer_by.ensures.answered mine flight there flies in (
      c.if-ticket-self.false ∙ ap (λ core. core.incarnation) c.self.view_is,
      subst (λ d. Rose (g.D.Disk.faults c.args.self.now.cache.disk) (g.D.Disk.faults d)) (sym c.answer_by.ensures.disk) (device_rose _ _ _ c.in-Err-Device.field-0-is c.in-Err-Device.ensures.cause.failed),
      answered_after c.args.self.now c.gather_for.new.self c.answer_by.new.self c.args.ticket.now.caller mine flight reply.Device c.gather_for.ensures.rest kept.0 c.answer_by.ensures.disk done.0,
      subst (λ (pins : Stamps). GivesBack pins c.answer_by.new.self.cache.pins mine.undo) kept.2 done.1,
      kept.1,
    )
