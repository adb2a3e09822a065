use Rattle.std.proofs.Common.{◌≤◌, ap, ◌∙◌, subst}
use Rattle.mb_core_spec.specs.State.{CoreState}
use Rattle.mb_core_events.specs.Beginning.{IsSweptIf}
use Rattle.mb_core_events.proofs.RightsOfBegin.{may_begin, names_told, unswept_begins}
use Rattle.mb_core_events.proofs.beginning.begun_fields.Goals as goal

pub returns-in-Ok-sweep_some-clause-may : goal.returns-in-Ok-sweep_some-clause-may
returns-in-Ok-sweep_some-clause-may g c =
    let told = g.D.Disk.told in
    let faults = g.D.Disk.faults in
    let fields = c.in-Ok-new.fields in
    let begun = c.in-Ok-new.ensures.begun in
    may_begin told faults c.args.fs c.args.disk c.sound.new.disk c.args.config c.in-Ok.ensures.told fields.cache.room fields.journal.room c.requires c.in-Ok.told.nameless
    (names_told (told c.args.disk) c.in-Ok.told c.in-Ok.ensures.scan) c.sweep_some.new.fields
    (subst (λ (core : CoreState _ _). IsSweptIf told core c.sweep_some.new.fields c.in-Ok.told.nameless) begun c.in-Ok-sweep_some.ensures.ok)
    (c.in-Ok-sweep_some.ensures.told ∙ ap (λ (core : CoreState _ _). told core.cache.disk) begun)
    (subst (λ (core : CoreState _ _). faults core.cache.disk ≤ faults c.sweep_some.new.fields.cache.disk) begun c.in-Ok-sweep_some.ensures.cause.later)

pub returns-in-Ok-sweep_some-clause-unswept : goal.returns-in-Ok-sweep_some-clause-unswept
returns-in-Ok-sweep_some-clause-unswept g c =
    let told = g.D.Disk.told in
    unswept_begins told c.in-Ok-new.fields c.sweep_some.new.fields c.in-Ok.told.nameless (ap (λ (core : CoreState _ _). core.cache.sealed) c.in-Ok-new.ensures.begun) c.in-Ok-sweep_some.ensures.ok (told c.args.disk)
    (names_told (told c.args.disk) c.in-Ok.told c.in-Ok.ensures.scan)
