use Rattle.std.proofs.Common.{sym, subst}
use Rattle.mb_run.specs.Served.{Did, backed}
use Rattle.mb_run.specs.Sights.{Sight}
use Rattle.mb_run.specs.declared.progress.Went.TheVariants as went
use Rattle.mb_run.proofs.Inside.{inside_back, did_busy, did_nothing, did_stale, did_log, has_ticket}
use Rattle.mb_run.proofs.Balance.{logs_if}
use Rattle.mb_run.proofs.Finishing.{call_at, held_tables, ready_at}
use Rattle.mb_run.proofs.Timely.{timely_logs}
use Rattle.mb_run.proofs.TallySteps.{finishing_logged, finishing_skip, finishing_stale}
use Rattle.mb_run.proofs.steps.finish_now.Goals as goal

pub returns-in-Skip-clause-did : goal.returns-in-Skip-clause-did
returns-in-Skip-clause-did g c = rw c.back.ensures (subst (λ (s : Sight). Did c.args.calls.now (g.H.Hook.test c.args.hook.now) (g.C.EventCore.sight c.args.core.now) s c.args.runner.now (backed c.args.runner.now) went.Back) (sym c.in-Skip.ensures.finishes.1) (inside_back _ _ _ _ _ c.requires.may c.args.ticket.now c.requires.inside c.in-Skip.ensures.finishes.0))

pub returns-in-Busy-clause-did : goal.returns-in-Busy-clause-did
returns-in-Busy-clause-did g c = did_busy _ _ _ _ _ c.requires.may c.args.ticket.now c.requires.inside _ c.in-Busy.holder c.in-Busy.ensures.finishes

pub returns-in-Stale-clause-did : goal.returns-in-Stale-clause-did
returns-in-Stale-clause-did g c = rw c.clear.ensures (did_stale _ _ _ _ _ c.requires.may c.args.ticket.now c.requires.inside _ c.in-Stale.block c.in-Stale.ensures.finishes)

pub returns-in-NoMemory-clause-did : goal.returns-in-NoMemory-clause-did
returns-in-NoMemory-clause-did g c = subst (λ (s : Sight). Did c.args.calls.now (g.H.Hook.test c.args.hook.now) (g.C.EventCore.sight c.args.core.now) s c.args.runner.now c.args.runner.now went.NoMemory) (sym c.in-NoMemory.ensures.finishes.1) (did_nothing _ _ _ _ _ c.requires.may c.args.ticket.now c.requires.inside)

pub returns-in-Logged-clause-did : goal.returns-in-Logged-clause-did
returns-in-Logged-clause-did g c =
    let of = c.in-Logged.ensures.finishes.2 in
    did_log _ _ _ _ _ c.requires.may c.args.ticket.now c.requires.inside _ c.in-Logged.ensures.finishes.0 (logs_if c.args.ticket.now.caller _ of.logged _ c.args.ticket.now _ of.logs of.seals)
    (timely_logs _ _ c.args.ticket.now c.args.call.now (has_ticket _ _ _ _ _ c.requires.may c.args.ticket.now c.requires.inside) (call_at _ _ _ _ _ c.requires.may c.args.ticket.now c.requires.inside) c.requires.may.right.covers of)

pub finish-finished-requires-clause-call : goal.finish-finished-requires-clause-call
finish-finished-requires-clause-call g c = call_at _ _ _ _ _ c.requires.may c.args.ticket.now c.requires.inside

pub finish-finished-requires-clause-ready : goal.finish-finished-requires-clause-ready
finish-finished-requires-clause-ready g c = ready_at _ _ _ _ _ c.requires.may c.args.ticket.now c.requires.inside _ c.requires.ready

pub finish-finished-requires-clause-tables : goal.finish-finished-requires-clause-tables
finish-finished-requires-clause-tables g c = held_tables _ _ _ _ _ c.requires.may c.args.ticket.now c.requires.inside

pub returns-in-Skip-clause-tallied : goal.returns-in-Skip-clause-tallied
returns-in-Skip-clause-tallied g c = finishing_skip _ _ _ _ _ c.requires.may c.args.ticket.now c.requires.inside _ c.in-Skip.mine c.in-Skip.now _ c.in-Skip.ensures.finishes

pub returns-in-Busy-clause-tallied : goal.returns-in-Busy-clause-tallied
returns-in-Busy-clause-tallied g c = λ tally. tt

pub returns-in-Stale-clause-tallied : goal.returns-in-Stale-clause-tallied
returns-in-Stale-clause-tallied g c = finishing_stale _ _ _ _ _ c.requires.may c.args.ticket.now c.requires.inside _ c.in-Stale.block _ c.in-Stale.ensures.finishes

pub returns-in-NoMemory-clause-tallied : goal.returns-in-NoMemory-clause-tallied
returns-in-NoMemory-clause-tallied g c = λ tally. tt

pub returns-in-Logged-clause-tallied : goal.returns-in-Logged-clause-tallied
returns-in-Logged-clause-tallied g c = finishing_logged _ _ _ _ _ c.requires.may c.args.ticket.now c.requires.inside _ c.in-Logged.ensures.finishes
