use Rattle.std.proofs.Common.{arith}
use Rattle.mb_kinds.specs.declared.faults.Kind.TheVariants as kind
use Rattle.mb_run.proofs.Inside.{inside_asked, asked_did, asked_may}
use Rattle.mb_run.proofs.Finishing.{asked_ready, asked_there}
use Rattle.mb_run.proofs.Inside.{has_ticket}
use Rattle.mb_run.proofs.Places.{of_ticket}
use Rattle.mb_run.proofs.TallySteps.{finishing_go, finishing_struck}
use Rattle.mb_run.proofs.steps.finish.Goals as goal

pub returns-then-is_struck-clause-did : goal.returns-then-is_struck-clause-did
returns-then-is_struck-clause-did g c = inside_asked _ _ _ _ _ c.requires.may _ c.requires.inside _ _ kind.Finish (λ same. omega (arith, same)) c.is_struck.ensures.right c.if-is_struck.ensures.asks

pub finish_now-requires-2-clause-may : goal.finish_now-requires-2-clause-may
finish_now-requires-2-clause-may g c = rw c.is_struck.ensures.test (asked_may _ _ _ _ _ _ _ c.args.ticket.now kind.Finish c.requires.may c.if-is_struck.ensures.asks)

pub returns-clause-did : goal.returns-clause-did
returns-clause-did g c = asked_did _ _ _ _ _ _ _ _ c.args.ticket.now kind.Finish _ c.if-is_struck.ensures.asks c.requires.may.counts (rw c.is_struck.ensures.test at c.finish_now-2.ensures.did)

pub finish_now-requires-2-clause-ready : goal.finish_now-requires-2-clause-ready
finish_now-requires-2-clause-ready g c = asked_ready (g.H.Hook.test c.args.hook.now) _ _ _ _ c.args.ticket.now kind.Finish _ _ c.if-is_struck.ensures.asks c.requires.ready

pub is_struck-requires-clause-ticket : goal.is_struck-requires-clause-ticket
is_struck-requires-clause-ticket g c = of_ticket _ _ _ (has_ticket _ _ _ _ _ c.requires.may c.args.ticket.now c.requires.inside)

pub finish_now-requires-2-clause-there : goal.finish_now-requires-2-clause-there
finish_now-requires-2-clause-there g c = asked_there (g.H.Hook.test c.args.hook.now) _ _ _ _ c.args.ticket.now kind.Finish c.if-is_struck.ensures.asks c.requires.there

pub returns-then-is_struck-clause-tallied : goal.returns-then-is_struck-clause-tallied
returns-then-is_struck-clause-tallied g c = finishing_struck _ _ _ _ _ c.requires.may c.args.ticket.now c.requires.inside _ _ c.if-is_struck.ensures.asks c.requires.there

pub returns-clause-tallied : goal.returns-clause-tallied
returns-clause-tallied g c = λ tally. (rw c.is_struck.ensures.test at c.finish_now-2.ensures.tallied) (finishing_go _ _ _ _ _ c.requires.may c.args.ticket.now c.requires.inside _ _ c.if-is_struck.ensures.asks c.requires.there tally)
