use Rattle.mb_kinds.specs.declared.faults.Kind.TheVariants as kind
use Rattle.mb_run.proofs.Inside.{in_on, in_back}
use Rattle.mb_run.proofs.Inside.{has_ticket}
use Rattle.mb_run.proofs.Places.{of_ticket}
use Rattle.mb_run.proofs.TallySteps.{in_go, in_struck}
use Rattle.mb_run.proofs.steps.go_in.Goals as goal
use Rattle.mb_run.proofs.Calmly.{never_struck, passes_by}

pub returns-then-is_struck-clause-did : goal.returns-then-is_struck-clause-did
returns-then-is_struck-clause-did g c = in_back _ _ _ _ _ _ _ c.args.ticket.now c.requires.may c.requires.inside c.requires.present c.is_struck.ensures.right c.if-is_struck.ensures.asks

pub returns-clause-did : goal.returns-clause-did
returns-clause-did g c = in_on _ _ _ _ _ _ _ c.args.ticket.now c.requires.may c.requires.inside c.if-is_struck.ensures.asks

pub is_struck-requires-clause-ticket : goal.is_struck-requires-clause-ticket
is_struck-requires-clause-ticket g c = of_ticket _ _ _ (has_ticket _ _ _ _ _ c.requires.may c.args.ticket.now c.requires.inside)

pub returns-then-is_struck-clause-tallied : goal.returns-then-is_struck-clause-tallied
returns-then-is_struck-clause-tallied g c = in_struck _ _ _ _ _ c.requires.may c.args.ticket.now c.requires.inside _ _ c.if-is_struck.ensures.asks

pub returns-clause-tallied : goal.returns-clause-tallied
returns-clause-tallied g c = in_go _ _ _ _ _ c.requires.may c.args.ticket.now c.requires.inside _ _ c.if-is_struck.ensures.asks

pub returns-then-is_struck-clause-calm : goal.returns-then-is_struck-clause-calm
returns-then-is_struck-clause-calm g c = λ nowhere. absurd (never_struck (g.H.Hook.test c.args.hook.now) (g.C.EventCore.sight c.args.core.now) (g.C.EventCore.sight c.is_struck.new.core) c.args.runner.now c.is_struck.new.runner c.args.ticket.now kind.Enter nowhere c.if-is_struck.ensures.asks)

pub returns-clause-calm : goal.returns-clause-calm
returns-clause-calm g c = λ nowhere. passes_by (g.H.Hook.test c.args.hook.now) (g.C.EventCore.sight c.args.core.now) (g.C.EventCore.sight c.is_struck.new.core) c.args.runner.now c.is_struck.new.runner c.args.ticket.now kind.Enter c.if-is_struck.ensures.asks
