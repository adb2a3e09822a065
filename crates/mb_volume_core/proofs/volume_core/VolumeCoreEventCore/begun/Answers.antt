use Rattle.std.proofs.Common.{◌<◌, ◌∙◌, Option, length, ap, sym, arith}
use Rattle.mb_core_spec.specs.State.{CallerState}
use Rattle.mb_run.specs.CoreSight.{seat_of}
use Rattle.mb_volume_core.proofs.Staying.{some_at}
use Rattle.mb_volume_core.proofs.volume_core.VolumeCoreEventCore.begun.Goals as goal

pub returns : goal.returns
returns g c =
    let core = c.args.self.now.core in
    let low : c.args.caller < length core.config.callers = c.requires in
    let same = c.in_order.ensures.orderly.numbered.callers_are in
    let here = some_at core.callers c.args.caller (omega (arith, low, same)) in
    c.begun.ensures here.0 here.1 ∙ sym (ap (λ (o : Option CallerState). (seat_of o).begun) here.1)
