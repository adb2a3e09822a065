use Rattle.std.proofs.Common.{◌≡◌, List, refl, ap, sym, subst, ◌∙◌, Some, take}
use Rattle.std.proofs.lemmas.Option.{slice_get-get_or}
use Rattle.mb_core_spec.specs.declared.config.Config.{Config}
use Rattle.mb_kinds.specs.declared.calls.Call.{Call}
use Rattle.mb_run.specs.Served.{calls_of}
use Rattle.mb_run.specs.Sights.{SightSeat}
use Rattle.mb_volume.specs.Passing.{part_in}
use Rattle.mb_volume.proofs.Holding.{later_same, later_then}
use Rattle.mb_threads.proofs.Together.{dealt_idle}
use Rattle.mb_threads.proofs.Sending.{volume_sync, worker_send}
use Rattle.mb_threads.proofs.Making.{calls_mine, made_more, may_more}
use Rattle.mb_threads.specs.Workers.{HasMadeCalls}
use Rattle.mb_threads.proofs.worker.MakeCallsErrandVolumeWorker.run.Goals as goal

pub loop-made-init : goal.loop-made-init
loop-made-init g c = record { later = later_same _ _ c.requires.idle; made = c.requires.made; caller = c.caller-caller.ensures; test = refl; calls = refl }

pub call-requires-clause-most : goal.call-requires-clause-most
call-requires-clause-most g c =
    may_more c.args.own.calls.now c.loop-made.made-index c.args.own.pass.caller c.made-item.result
    (slice_get-get_or c.args.own.calls.now c.loop-made.made-index c.made-item.result c.loop-made-test.true ∙ ap Some (sym c.made-item.is)) (c.if-made-caller.false ∙ c.caller-caller.ensures) _ _ _
    (ap (λ (s : SightSeat). s.begun) c.loop-made.invariant.made.seat) c.requires.most (ap (λ (k : Config). k.most) c.loop-made.invariant.later.config)

pub loop-made-preserved : goal.loop-made-preserved
loop-made-preserved g c =
    let calls = c.args.own.calls.now in
    let here = slice_get-get_or calls c.loop-made.made-index c.made-item.result c.loop-made-test.true ∙ ap Some (sym c.made-item.is) in
    let next = calls_mine calls c.loop-made.made-index c.args.own.pass.caller c.made-item.result here (c.if-made-caller.false ∙ c.caller-caller.ensures) in
    record {
      later = later_then _ _ _ _ c.loop-made.invariant.later c.call.ensures.later;
      made = subst (λ (cs : List Call). HasMadeCalls cs (g.H.Hook.test c.args.own.hook) (part_in c.call.new.pass)) (sym next)
          (made_more (calls_of (take c.loop-made.made-index calls) c.args.own.pass.caller) c.made-item.result.call (g.H.Hook.test c.args.own.hook) c.loop-made.pass.caller (part_in c.loop-made.pass) (part_in c.call.new.pass) c.in-Ok.field-0
          c.loop-made.invariant.made (rw c.loop-made.invariant.test at c.in-Ok.ensures.ok));
      caller = c.loop-made.invariant.caller;
      test = c.call.ensures.test ∙ c.loop-made.invariant.test;
      calls = c.loop-made.invariant.calls;
    }
