use Rattle.std.proofs.Common.{◌≡◌, ◌∙◌, ap, arith}
use Rattle.mb_core_spec.specs.State.{CoreState}
use Rattle.mb_recover.proofs.Meeting.{drops_next, one_more, same_crossing}
use Rattle.mb_recover.proofs.steps.strike.Goals as goal

pub strike-requires-clause-struck : goal.strike-requires-clause-struck
strike-requires-clause-struck g c = (c.requires.of.0, c.requires.struck ∙ same_crossing c.args.at c.requires.of.0.flight.ordinal c.requires.of.1)

pub pass_limit-requires-clause-phase : goal.pass_limit-requires-clause-phase
pass_limit-requires-clause-phase g c =
    let of = c.requires.of.0 in
    drops_next c.args.core.now c.strike.new.self c.args.at.caller of.flight.ordinal c.args.at.kind c.args.at.nth (g.H.Hook.strokes c.args.hook.now) (c.in-Ok.ensures.ok of.mine of.flight of.here of.flies)

pub pass_limit-requires-clause-faults : goal.pass_limit-requires-clause-faults
pass_limit-requires-clause-faults g c =
    let of = c.requires.of.0 in
    one_more c.args.core.now c.strike.new.self c.args.at.caller of.flight.ordinal c.args.at.kind c.args.at.nth (g.H.Hook.strokes c.args.hook.now) c.in-Ok.faults c.in-Ok.ensures.number (c.in-Ok.ensures.ok of.mine of.flight of.here of.flies)

pub returns-in-Ok-clause-later : goal.returns-in-Ok-clause-later
returns-in-Ok-clause-later g c =
    let of = c.requires.of.0 in
    let same : g.D.Disk.faults c.strike.new.self.cache.disk ≡ g.D.Disk.faults c.args.core.now.cache.disk = ap (λ (core : CoreState _ _). g.D.Disk.faults core.cache.disk) (c.in-Ok.ensures.ok of.mine of.flight of.here of.flies) in
    let later = c.pass_limit.ensures.later in
    omega (arith, same, later)
