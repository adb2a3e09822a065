use denote.Param.Send.{sendable}
use Rattle.std.proofs.Common.{◌≡◌, ◌≤◌, List, length, map, refl, ap, sym, subst, ◌∙◌, arith}
use Rattle.std.proofs.Crossing.{crosses}
use Rattle.std.specs.List.{AllByRecursion}
use Rattle.mb_kinds.specs.Own.{own}
use Rattle.mb_run.specs.CoreSight.{sight_of}
use Rattle.mb_run.specs.Sights.{amiss_in}
use Rattle.mb_turn.specs.Passes.{IsIdle, Known}
use Rattle.mb_volume.specs.Parts.{stand_in}
use Rattle.mb_volume.specs.Passing.{part_in, seen_by}
use Rattle.mb_volume.specs.Shared.{Shared}
use Rattle.mb_threads.specs.declared.worker.Worker.{Worker}
use Rattle.mb_threads.proofs.Apart.{driven_apart, ready_new}
use Rattle.mb_threads.proofs.Sending.{volume_sync, worker_send}
use Rattle.mb_threads.proofs.Together.{caller_made, dealt_first, dealt_idle, dealt_long, done_idle, done_long, out_config, out_first, out_seals, ready}
use Rattle.mb_threads.proofs.driving.drive_threads.Goals as goal

pub close-requires-clause-all : goal.close-requires-clause-all
close-requires-clause-all g c =
    ap length c.in-Ok.ensures.passes ∙ dealt_long c.in-Ok.started.0.table (sight_of c.args.core.core).config.callers _ ∙ sym c.in-Ok.ensures.callers

pub close-requires-clause-idle : goal.close-requires-clause-idle
close-requires-clause-idle g c =
    dealt_idle _ (sight_of c.args.core.core).config.callers _ _ c.in-Ok.ensures.passes

pub close-requires-in-Err-with_capacity-2-clause-all : goal.close-requires-in-Err-with_capacity-2-clause-all
close-requires-in-Err-with_capacity-2-clause-all g c =
    ap length c.in-Ok.ensures.passes ∙ dealt_long c.in-Ok.started.0.table (sight_of c.args.core.core).config.callers _ ∙ sym c.in-Ok.ensures.callers

pub close-requires-in-Err-with_capacity-2-clause-idle : goal.close-requires-in-Err-with_capacity-2-clause-idle
close-requires-in-Err-with_capacity-2-clause-idle g c =
    dealt_idle _ (sight_of c.args.core.core).config.callers _ _ c.in-Ok.ensures.passes

pub returns-in-Err-with_capacity-clause-first : goal.returns-in-Err-with_capacity-clause-first
returns-in-Err-with_capacity-clause-first g c =
    dealt_first (λ (p : Known (Shared g.row.F.Denot g.row.D.Denot)). c.close.result.core.first ≡ p.value.core.core.first) c.in-Ok.started.0.table (sight_of c.args.core.core).config.callers _ _ c.in-Ok.ensures.passes c.in_order.ensures.orderly.bounds.some c.close.ensures.first

pub returns-in-Err-with_capacity-clause-config : goal.returns-in-Err-with_capacity-clause-config
returns-in-Err-with_capacity-clause-config g c =
    dealt_first (λ (p : Known (Shared g.row.F.Denot g.row.D.Denot)). c.close.result.core.config ≡ p.value.core.core.config) c.in-Ok.started.0.table (sight_of c.args.core.core).config.callers _ _ c.in-Ok.ensures.passes c.in_order.ensures.orderly.bounds.some c.close.ensures.config

pub returns-in-Err-with_capacity-2-clause-first : goal.returns-in-Err-with_capacity-2-clause-first
returns-in-Err-with_capacity-2-clause-first g c =
    dealt_first (λ (p : Known (Shared g.row.F.Denot g.row.D.Denot)). c.close-in-Err-with_capacity-2.result.core.first ≡ p.value.core.core.first) c.in-Ok.started.0.table (sight_of c.args.core.core).config.callers _ _ c.in-Ok.ensures.passes c.in_order.ensures.orderly.bounds.some c.close-in-Err-with_capacity-2.ensures.first

pub returns-in-Err-with_capacity-2-clause-config : goal.returns-in-Err-with_capacity-2-clause-config
returns-in-Err-with_capacity-2-clause-config g c =
    dealt_first (λ (p : Known (Shared g.row.F.Denot g.row.D.Denot)). c.close-in-Err-with_capacity-2.result.core.config ≡ p.value.core.core.config) c.in-Ok.started.0.table (sight_of c.args.core.core).config.callers _ _ c.in-Ok.ensures.passes c.in_order.ensures.orderly.bounds.some c.close-in-Err-with_capacity-2.ensures.config

pub employ-workers-requires-clause-same : goal.employ-workers-requires-clause-same
employ-workers-requires-clause-same g c =
    c.requires.hooks ∙ sym c.requires.begun.callers ∙ sym (ap length c.in-Ok.ensures.passes ∙ dealt_long c.in-Ok.started.0.table (sight_of c.args.core.core).config.callers _)

pub each-workers-requires-send-A : goal.each-workers-requires-send-A
each-workers-requires-send-A g c κs within =
    search (sendable, crosses, worker_send) depth 60

pub each-workers-requires-sync-S : goal.each-workers-requires-sync-S
each-workers-requires-sync-S g c κs within =
    search (sendable, crosses, volume_sync) depth 60

pub each-workers-requires-after_bounds : goal.each-workers-requires-after_bounds
each-workers-requires-after_bounds g c κs within =
    ready (λ (w : Worker g.row.F.Denot g.row.D.Denot g.row.H.Denot). w.pass) (λ (w : Worker g.row.F.Denot g.row.D.Denot g.row.H.Denot). g.H.Hook.test w.hook) (λ (w : Worker g.row.F.Denot g.row.D.Denot g.row.H.Denot). w.calls.now) (λ (w : Worker g.row.F.Denot g.row.D.Denot g.row.H.Denot). w.stopped)
    c.in-Ok.started.0.table (record { core = c.args.core }) (sight_of c.args.core.core).config.callers c.args.job.now.calls (map g.H.Hook.test c.args.hooks.items) c.employ-workers.result.items (c.employ-workers.ensures.passes ∙ c.in-Ok.ensures.passes) c.employ-workers.ensures.hooks
    (subst (λ cs. AllByRecursion (λ (w : Worker g.row.F.Denot g.row.D.Denot g.row.H.Denot). w.calls.now ≡ cs) c.employ-workers.result.items) c.as_slice.ensures c.employ-workers.ensures.calls)
    (ready_new c.in-Ok.started.0.table (record { core = c.args.core }) c.args.job.now c.requires.begun)

pub close-core-requires-clause-all : goal.close-core-requires-clause-all
close-core-requires-clause-all g c =
    ap length c.dismiss-passes.ensures.passes ∙ done_long (λ (w : Worker g.row.F.Denot g.row.D.Denot g.row.H.Denot). w.pass) (λ (w : Worker g.row.F.Denot g.row.D.Denot g.row.H.Denot). g.H.Hook.test w.hook) (λ (w : Worker g.row.F.Denot g.row.D.Denot g.row.H.Denot). w.calls.now) (λ (w : Worker g.row.F.Denot g.row.D.Denot g.row.H.Denot). w.stopped)
    c.in-Ok.started.0.table (record { core = c.args.core }) (sight_of c.args.core.core).config.callers c.args.job.now.calls (map g.H.Hook.test c.args.hooks.items) c.employ-workers.result.items (c.employ-workers.ensures.passes ∙ c.in-Ok.ensures.passes) c.employ-workers.ensures.hooks
    (subst (λ cs. AllByRecursion (λ (w : Worker g.row.F.Denot g.row.D.Denot g.row.H.Denot). w.calls.now ≡ cs) c.employ-workers.result.items) c.as_slice.ensures c.employ-workers.ensures.calls)
    c.each-workers.result.items c.each-workers.ensures.gives ∙ sym c.in-Ok.ensures.callers

pub close-core-requires-clause-idle : goal.close-core-requires-clause-idle
close-core-requires-clause-idle g c =
    subst (AllByRecursion (IsIdle c.in-Ok.started.0.table)) (sym c.dismiss-passes.ensures.passes) (done_idle (λ (w : Worker g.row.F.Denot g.row.D.Denot g.row.H.Denot). w.pass) (λ (w : Worker g.row.F.Denot g.row.D.Denot g.row.H.Denot). g.H.Hook.test w.hook) (λ (w : Worker g.row.F.Denot g.row.D.Denot g.row.H.Denot). w.calls.now) (λ (w : Worker g.row.F.Denot g.row.D.Denot g.row.H.Denot). w.stopped)
    c.in-Ok.started.0.table (record { core = c.args.core }) (sight_of c.args.core.core).config.callers c.args.job.now.calls (map g.H.Hook.test c.args.hooks.items) c.employ-workers.result.items (c.employ-workers.ensures.passes ∙ c.in-Ok.ensures.passes) c.employ-workers.ensures.hooks
    (subst (λ cs. AllByRecursion (λ (w : Worker g.row.F.Denot g.row.D.Denot g.row.H.Denot). w.calls.now ≡ cs) c.employ-workers.result.items) c.as_slice.ensures c.employ-workers.ensures.calls)
    c.each-workers.result.items c.each-workers.ensures.gives)

pub returns-clause-first : goal.returns-clause-first
returns-clause-first g c =
    out_first (λ (w : Worker g.row.F.Denot g.row.D.Denot g.row.H.Denot). w.pass) (λ (w : Worker g.row.F.Denot g.row.D.Denot g.row.H.Denot). g.H.Hook.test w.hook) (λ (w : Worker g.row.F.Denot g.row.D.Denot g.row.H.Denot). w.calls.now) (λ (w : Worker g.row.F.Denot g.row.D.Denot g.row.H.Denot). w.stopped)
    c.in-Ok.started.0.table (record { core = c.args.core }) (sight_of c.args.core.core).config.callers c.args.job.now.calls (map g.H.Hook.test c.args.hooks.items) c.employ-workers.result.items (c.employ-workers.ensures.passes ∙ c.in-Ok.ensures.passes) c.employ-workers.ensures.hooks
    (subst (λ cs. AllByRecursion (λ (w : Worker g.row.F.Denot g.row.D.Denot g.row.H.Denot). w.calls.now ≡ cs) c.employ-workers.result.items) c.as_slice.ensures c.employ-workers.ensures.calls)
    c.each-workers.result.items c.each-workers.ensures.gives
    c.close-core.result.core (subst (AllByRecursion (λ (p : Known (Shared g.row.F.Denot g.row.D.Denot)). c.close-core.result.core.first ≡ p.value.core.core.first)) c.dismiss-passes.ensures.passes c.close-core.ensures.first)
    (subst (AllByRecursion (λ (p : Known (Shared g.row.F.Denot g.row.D.Denot)). c.close-core.result.core.config ≡ p.value.core.core.config)) c.dismiss-passes.ensures.passes c.close-core.ensures.config) c.in_order.ensures.orderly.bounds.some

pub returns-clause-config : goal.returns-clause-config
returns-clause-config g c =
    out_config (λ (w : Worker g.row.F.Denot g.row.D.Denot g.row.H.Denot). w.pass) (λ (w : Worker g.row.F.Denot g.row.D.Denot g.row.H.Denot). g.H.Hook.test w.hook) (λ (w : Worker g.row.F.Denot g.row.D.Denot g.row.H.Denot). w.calls.now) (λ (w : Worker g.row.F.Denot g.row.D.Denot g.row.H.Denot). w.stopped)
    c.in-Ok.started.0.table (record { core = c.args.core }) (sight_of c.args.core.core).config.callers c.args.job.now.calls (map g.H.Hook.test c.args.hooks.items) c.employ-workers.result.items (c.employ-workers.ensures.passes ∙ c.in-Ok.ensures.passes) c.employ-workers.ensures.hooks
    (subst (λ cs. AllByRecursion (λ (w : Worker g.row.F.Denot g.row.D.Denot g.row.H.Denot). w.calls.now ≡ cs) c.employ-workers.result.items) c.as_slice.ensures c.employ-workers.ensures.calls)
    c.each-workers.result.items c.each-workers.ensures.gives
    c.close-core.result.core (subst (AllByRecursion (λ (p : Known (Shared g.row.F.Denot g.row.D.Denot)). c.close-core.result.core.first ≡ p.value.core.core.first)) c.dismiss-passes.ensures.passes c.close-core.ensures.first)
    (subst (AllByRecursion (λ (p : Known (Shared g.row.F.Denot g.row.D.Denot)). c.close-core.result.core.config ≡ p.value.core.core.config)) c.dismiss-passes.ensures.passes c.close-core.ensures.config) c.in_order.ensures.orderly.bounds.some

pub returns-clause-driven : goal.returns-clause-driven
returns-clause-driven g c =
    λ going. driven_apart g.D.Disk.told g.D.Disk.faults c.close-core.result.core c.args.core.core c.in_order-2.ensures c.args.job.now (map g.H.Hook.test c.args.hooks.items) c.close-core.ensures.right.seals
    (out_config (λ (w : Worker g.row.F.Denot g.row.D.Denot g.row.H.Denot). w.pass) (λ (w : Worker g.row.F.Denot g.row.D.Denot g.row.H.Denot). g.H.Hook.test w.hook) (λ (w : Worker g.row.F.Denot g.row.D.Denot g.row.H.Denot). w.calls.now) (λ (w : Worker g.row.F.Denot g.row.D.Denot g.row.H.Denot). w.stopped)
    c.in-Ok.started.0.table (record { core = c.args.core }) (sight_of c.args.core.core).config.callers c.args.job.now.calls (map g.H.Hook.test c.args.hooks.items) c.employ-workers.result.items (c.employ-workers.ensures.passes ∙ c.in-Ok.ensures.passes) c.employ-workers.ensures.hooks
    (subst (λ cs. AllByRecursion (λ (w : Worker g.row.F.Denot g.row.D.Denot g.row.H.Denot). w.calls.now ≡ cs) c.employ-workers.result.items) c.as_slice.ensures c.employ-workers.ensures.calls)
    c.each-workers.result.items c.each-workers.ensures.gives
    c.close-core.result.core (subst (AllByRecursion (λ (p : Known (Shared g.row.F.Denot g.row.D.Denot)). c.close-core.result.core.first ≡ p.value.core.core.first)) c.dismiss-passes.ensures.passes c.close-core.ensures.first)
    (subst (AllByRecursion (λ (p : Known (Shared g.row.F.Denot g.row.D.Denot)). c.close-core.result.core.config ≡ p.value.core.core.config)) c.dismiss-passes.ensures.passes c.close-core.ensures.config) c.in_order.ensures.orderly.bounds.some) c.requires.begun
    (λ caller low. caller_made (λ (w : Worker g.row.F.Denot g.row.D.Denot g.row.H.Denot). w.pass) (λ (w : Worker g.row.F.Denot g.row.D.Denot g.row.H.Denot). g.H.Hook.test w.hook) (λ (w : Worker g.row.F.Denot g.row.D.Denot g.row.H.Denot). w.calls.now) (λ (w : Worker g.row.F.Denot g.row.D.Denot g.row.H.Denot). w.stopped)
    c.in-Ok.started.0.table (record { core = c.args.core }) (sight_of c.args.core.core).config.callers c.args.job.now.calls (map g.H.Hook.test c.args.hooks.items) c.employ-workers.result.items (c.employ-workers.ensures.passes ∙ c.in-Ok.ensures.passes) c.employ-workers.ensures.hooks
    (subst (λ cs. AllByRecursion (λ (w : Worker g.row.F.Denot g.row.D.Denot g.row.H.Denot). w.calls.now ≡ cs) c.employ-workers.result.items) c.as_slice.ensures c.employ-workers.ensures.calls)
    c.each-workers.result.items c.each-workers.ensures.gives
    c.close-core.result.core (subst (AllByRecursion (λ (p : Known (Shared g.row.F.Denot g.row.D.Denot)). c.close-core.result.core.first ≡ p.value.core.core.first)) c.dismiss-passes.ensures.passes c.close-core.ensures.first)
    (subst (AllByRecursion (λ (p : Known (Shared g.row.F.Denot g.row.D.Denot)). c.close-core.result.core.config ≡ p.value.core.core.config)) c.dismiss-passes.ensures.passes c.close-core.ensures.config)
    (c.dismiss-passes.ensures.stopped (c.end_of-end.ensures.whole going)) (subst (AllByRecursion (λ (p : Known (Shared g.row.F.Denot g.row.D.Denot)). own (sight_of c.close-core.result.core).history p.caller ≡ (part_in p).entries)) c.dismiss-passes.ensures.passes c.close-core.ensures.mine)
    (subst (AllByRecursion (λ (p : Known (Shared g.row.F.Denot g.row.D.Denot)). stand_in (sight_of c.close-core.result.core) p.caller ≡ stand_in (seen_by p) p.caller)) c.dismiss-passes.ensures.passes c.close-core.ensures.stand) refl caller (omega (arith, low, c.requires.begun.callers)))
    (out_seals (λ (w : Worker g.row.F.Denot g.row.D.Denot g.row.H.Denot). w.pass) (λ (w : Worker g.row.F.Denot g.row.D.Denot g.row.H.Denot). g.H.Hook.test w.hook) (λ (w : Worker g.row.F.Denot g.row.D.Denot g.row.H.Denot). w.calls.now) (λ (w : Worker g.row.F.Denot g.row.D.Denot g.row.H.Denot). w.stopped)
    c.in-Ok.started.0.table (record { core = c.args.core }) (sight_of c.args.core.core).config.callers c.args.job.now.calls (map g.H.Hook.test c.args.hooks.items) c.employ-workers.result.items (c.employ-workers.ensures.passes ∙ c.in-Ok.ensures.passes) c.employ-workers.ensures.hooks
    (subst (λ cs. AllByRecursion (λ (w : Worker g.row.F.Denot g.row.D.Denot g.row.H.Denot). w.calls.now ≡ cs) c.employ-workers.result.items) c.as_slice.ensures c.employ-workers.ensures.calls)
    c.each-workers.result.items c.each-workers.ensures.gives
    c.close-core.result.core (subst (AllByRecursion (λ (p : Known (Shared g.row.F.Denot g.row.D.Denot)). c.close-core.result.core.first ≡ p.value.core.core.first)) c.dismiss-passes.ensures.passes c.close-core.ensures.first)
    (subst (AllByRecursion (λ (p : Known (Shared g.row.F.Denot g.row.D.Denot)). c.close-core.result.core.config ≡ p.value.core.core.config)) c.dismiss-passes.ensures.passes c.close-core.ensures.config)
    (subst (AllByRecursion (λ (p : Known (Shared g.row.F.Denot g.row.D.Denot)). amiss_in (sight_of c.close-core.result.core) ≤ amiss_in (seen_by p))) c.dismiss-passes.ensures.passes c.close-core.ensures.seals) c.in_order.ensures.orderly.bounds.some)
