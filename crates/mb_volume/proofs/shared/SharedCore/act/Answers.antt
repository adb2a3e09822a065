use Rattle.std.proofs.Common.{sym, subst}
use Rattle.mb_run.specs.CoreSight.{sight_of}
use Rattle.mb_volume.specs.Parts.{part_of}
use Rattle.mb_volume.specs.Coming.{ComesOfEvent}
use Rattle.mb_volume.specs.Shared.{Shared}
use Rattle.mb_volume.specs.Underway.{IsOn, MayCome}
use Rattle.mb_volume_core.proofs.Orderly.{orderly}
use Rattle.mb_volume.proofs.Emptied.{comes_emptied, grows_emptied, may_emptied, on_emptied}
use Rattle.mb_volume.proofs.shared.SharedCore.act.Goals as goal

pub act-requires-clause-right : goal.act-requires-clause-right
act-requires-clause-right g c = orderly g.D.Disk.told g.D.Disk.faults c.deref_mut-kept.result.now.core.core c.in_order.ensures (rw c.deref_mut-kept.ensures.value c.self.invariant.1)

pub act-requires-clause-on : goal.act-requires-clause-on
act-requires-clause-on g c =
    let attempt = c.args.attempt.now in
    let on = subst (λ (s : Shared g.row.F.Denot g.row.D.Denot). IsOn c.args.call.now (part_of (sight_of s.core.core) attempt.crossings.caller) attempt) (sym c.self.view_is) c.requires.on in
    rw (c.swap_pages.ensures.attempt, c.deref_mut-kept.ensures.value) (on_emptied c.args.event c.args.call.now (part_of (sight_of c.self.inside.kept.value.core.core)) attempt on)

pub act-requires-clause-may : goal.act-requires-clause-may
act-requires-clause-may g c =
    let attempt = c.args.attempt.now in
    let may = subst (λ (s : Shared g.row.F.Denot g.row.D.Denot). MayCome c.args.call.now (g.H.Hook.test c.args.hook.now) (g.H.Hook.struck c.args.hook.now) ((sight_of s.core.core).seats attempt.crossings.caller) attempt c.args.event) (sym c.self.view_is) c.requires.may in
    rw (c.swap_pages.ensures.attempt, c.deref_mut-kept.ensures.value)
    (may_emptied c.args.event c.args.call.now (g.H.Hook.test c.args.hook.now) (g.H.Hook.struck c.args.hook.now) (sight_of c.self.inside.kept.value.core.core).seats attempt may)

pub returns-clause-comes : goal.returns-clause-comes
returns-clause-comes g c =
    let attempt = c.args.attempt.now in
    subst (λ (s : Shared g.row.F.Denot g.row.D.Denot). ComesOfEvent c.args.call.now (g.H.Hook.test c.args.hook.now) c.args.event (sight_of s.core.core) (sight_of c.act.new.core.core) attempt c.act.new.attempt c.act.result) c.self.view_is
    (comes_emptied c.args.event c.args.call.now (g.H.Hook.test c.args.hook.now) (sight_of c.self.inside.kept.value.core.core) (sight_of c.act.new.core.core) attempt c.act.new.attempt c.act.result
    (rw (c.swap_pages.ensures.attempt, c.deref_mut-kept.ensures.value) at c.act.ensures.comes))

pub returns-clause-grown : goal.returns-clause-grown
returns-clause-grown g c = grows_emptied c.args.event c.args.attempt.now c.act.new.attempt.pages (rw c.swap_pages.ensures.attempt at c.act.ensures.grown)
