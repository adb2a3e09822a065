use Rattle.std.proofs.Common.{subst, sym}
use Rattle.mb_run.specs.CoreSight.{sight_of}
use Rattle.mb_volume.specs.Parts.{Part}
use Rattle.mb_volume.specs.Underway.{IsCallUnderway, MayCome}
use Rattle.mb_volume.proofs.Holding.{declared_on, held_leads, held_marks, later_held, others_held, taken_part}
use Rattle.mb_volume.proofs.Telling.{is_told}
use Rattle.mb_volume.proofs.Rising.{rises_held}
use Rattle.mb_volume.proofs.volume.Volume.hold.Goals as goal

pub act-came-requires-clause-on : goal.act-came-requires-clause-on
act-came-requires-clause-on g c =
    let saw = c.args.pass.now.value.core.core in
    let making = c.requires.making in
    let low = declared_on (sight_of saw) c.args.pass.now.caller c.args.call.now _ _ c.args.attempt.now making.caller making.underway in
    let same = taken_part saw c.take-shared.result.core.core saw c.args.pass.now.caller c.args.attempt.now.crossings.caller making.caller low c.take-shared.ensures.origin c.take-shared.ensures.mine c.take-shared.ensures.stand in
    (_, making.from, subst (λ (p : Part). IsCallUnderway c.args.call.now (g.H.Hook.test c.args.hook.now) making.from p c.args.attempt.now) (sym same) making.underway)

pub act-came-requires-clause-may : goal.act-came-requires-clause-may
act-came-requires-clause-may g c =
    let saw = c.args.pass.now.value.core.core in
    let making = c.requires.making in
    let low = declared_on (sight_of saw) c.args.pass.now.caller c.args.call.now _ _ c.args.attempt.now making.caller making.underway in
    let same = taken_part saw c.take-shared.result.core.core saw c.args.pass.now.caller c.args.attempt.now.crossings.caller making.caller low c.take-shared.ensures.origin c.take-shared.ensures.mine c.take-shared.ensures.stand in
    subst (λ (p : Part). MayCome c.args.call.now (g.H.Hook.test c.args.hook.now) (g.H.Hook.struck c.args.hook.now) p.seat c.args.attempt.now c.args.event) (sym same) c.requires.may

pub give-requires-clause-others : goal.give-requires-clause-others
give-requires-clause-others g c = rw c.take-shared.ensures.pass (others_held _ _ _ _ c.requires.making.caller c.act-came.ensures.comes.moves)

pub give-requires-clause-tally : goal.give-requires-clause-tally
give-requires-clause-tally g c = rw c.take-shared.ensures.pass c.act-came.ensures.comes.moves.seals

pub returns-clause-comes : goal.returns-clause-comes
returns-clause-comes g c =
    let saw = c.args.pass.now.value.core.core in
    let making = c.requires.making in
    let low = declared_on (sight_of saw) c.args.pass.now.caller c.args.call.now _ _ c.args.attempt.now making.caller making.underway in
    let same = taken_part saw c.take-shared.result.core.core saw c.args.pass.now.caller c.args.attempt.now.crossings.caller making.caller low c.take-shared.ensures.origin c.take-shared.ensures.mine c.take-shared.ensures.stand in
    let came = c.act-came.ensures.comes in
    rw (c.give.ensures.pass, c.take-shared.ensures.pass)
    (record {
      later = later_held _ c.args.pass.now c.take-shared.result _ c.requires.idle c.take-shared.ensures.origin c.act-came.ensures.origin c.take-shared.ensures.seen _ came.moves.entries c.take-shared.ensures.tally came.moves.seals;
      leads = held_leads saw c.take-shared.result.core.core c.act-came.new.self.core.core c.args.pass.now.caller c.args.attempt.now.crossings.caller making.caller low c.take-shared.ensures.origin c.take-shared.ensures.mine c.take-shared.ensures.stand c.args.call.now _ _ _ _
          (is_told g.D.Disk.told g.D.Disk.faults c.act-came.new.self.core.core c.in_order.ensures c.args.pass.now.caller) came.goes;
      marks = held_marks c.args.event (sight_of saw) (sight_of c.take-shared.result.core.core) (sight_of c.act-came.new.self.core.core) c.args.pass.now.caller c.args.attempt.now.crossings.caller c.args.attempt.now _ _ making.caller same came.marks;
      same = came.same;
      rises = λ before cause. rises_held before _ (sight_of saw) (sight_of c.take-shared.result.core.core) (sight_of c.act-came.new.self.core.core) c.args.pass.now.caller c.args.attempt.now.crossings.caller making.caller same came.moves (c.act-came.ensures.rises before cause);
      grows = c.act-came.ensures.grows;
    })
