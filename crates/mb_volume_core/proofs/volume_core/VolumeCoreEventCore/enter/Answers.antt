use Rattle.std.proofs.Common.{◌<◌, length, subst, sym, arith}
use Rattle.mb_run.specs.CoreSight.{sight_of}
use Rattle.mb_run.specs.Events.{EntersInSight}
use Rattle.mb_run.specs.declared.answers.EnterAnswer.{EnterAnswer}
use Rattle.mb_run.proofs.InTime.{enters_time}
use Rattle.mb_volume_core.proofs.Entering.{enter_origin, enters_by, may_call}
use Rattle.mb_volume_core.proofs.Orderly.{orderly}
use Rattle.mb_volume_core.proofs.Standing.{enter_stands}
use Rattle.mb_volume_core.proofs.Staying.{some_at}
use Rattle.mb_volume_core.proofs.volume_core.VolumeCoreEventCore.enter.Goals as goal

pub enter-requires : goal.enter-requires
enter-requires g c = may_call c.args.self.now.core c.args.caller c.args.call.now c.requires.may

pub returns-clause-enters : goal.returns-clause-enters
returns-clause-enters g c =
    let core = c.args.self.now.core in
    let low : c.args.caller < length core.config.callers = c.requires.may.within in
    let same = c.in_order.ensures.orderly.numbered.callers_are in
    let here = some_at core.callers c.args.caller (omega (arith, low, same)) in
    subst (λ (answer : EnterAnswer). EntersInSight (sight_of core) (sight_of c.enter.new.self) c.args.caller c.args.call.now answer) (sym c.entered_as.ensures)
    (enters_by g.D.Disk.told g.D.Disk.faults core c.in_order.ensures c.args.caller here.0 here.1 c.args.call.now c.enter.new.self c.enter.result (c.enter.ensures.enters here.0 here.1))

pub returns-clause-stands : goal.returns-clause-stands
returns-clause-stands g c =
    let core = c.args.self.now.core in
    let low : c.args.caller < length core.config.callers = c.requires.may.within in
    let same = c.in_order.ensures.orderly.numbered.callers_are in
    let here = some_at core.callers c.args.caller (omega (arith, low, same)) in
    enter_stands core c.args.caller here.0 here.1 c.args.call.now c.enter.new.self c.enter.result (c.enter.ensures.enters here.0 here.1)

pub returns-clause-origin : goal.returns-clause-origin
returns-clause-origin g c =
    let core = c.args.self.now.core in
    let low : c.args.caller < length core.config.callers = c.requires.may.within in
    let same = c.in_order.ensures.orderly.numbered.callers_are in
    let here = some_at core.callers c.args.caller (omega (arith, low, same)) in
    enter_origin g.D.Disk.told g.D.Disk.faults core c.in_order.ensures c.args.caller here.0 here.1 c.args.call.now c.enter.new.self c.enter.result (c.enter.ensures.enters here.0 here.1)

pub returns-clause-right : goal.returns-clause-right
returns-clause-right g c = orderly g.D.Disk.told g.D.Disk.faults c.enter.new.self c.enter.ensures.right (enters_time _ _ c.args.caller c.args.call.now _ (returns-clause-enters g c) c.requires.right.seals)
