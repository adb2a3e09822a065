use Rattle.std.proofs.Common.{subst, ap, sym, ◌∙◌, ◌<◌}
use Rattle.mb_run.specs.Sights.{Limits}
use Rattle.mb_run.specs.CoreSight.{sight_of}
use Rattle.mb_volume.proofs.Changing.{has_stand}
use Rattle.mb_volume.proofs.Holding.{config_same, later_held, others_held}
use Rattle.mb_volume.proofs.Quitting.{declared_by, left_off, quit_from, quit_moves, quit_open}
use Rattle.mb_volume.proofs.volume.Volume.give_up.Goals as goal

pub quit-requires : goal.quit-requires
quit-requires g c =
    quit_open c.args.pass.now.value.core.core c.take-shared.result.core.core c.args.pass.now.caller c.caller.result c.begun.result c.args.attempt.now.crossings.ordinal (c.caller.ensures ∙ ap (λ p. p.caller) c.take-shared.ensures.pass)
    c.begun.ensures c.if-begun-attempt.true c.take-shared.ensures.origin c.take-shared.ensures.mine c.take-shared.ensures.stand c.requires.waits

pub give-requires-clause-origin : goal.give-requires-clause-origin
give-requires-clause-origin g c =
    rw c.take-shared.ensures.pass (quit_from c.args.pass.now.value.core.core c.take-shared.result.core.core c.args.pass.now.caller c.caller.result c.begun.result c.args.attempt.now.crossings.ordinal
    (c.caller.ensures ∙ ap (λ p. p.caller) c.take-shared.ensures.pass) c.begun.ensures c.if-begun-attempt.true c.take-shared.ensures.origin c.take-shared.ensures.mine c.take-shared.ensures.stand c.requires.waits c.quit.new.self.core.core c.quit.ensures.quit)

pub give-requires-clause-list : goal.give-requires-clause-list
give-requires-clause-list g c =
    let same = c.caller.ensures ∙ ap (λ p. p.caller) c.take-shared.ensures.pass in
    rw c.take-shared.ensures.pass (rw (sym same) (quit_moves c.args.pass.now.value.core.core c.take-shared.result.core.core c.args.pass.now.caller c.caller.result c.begun.result c.args.attempt.now.crossings.ordinal same
    c.begun.ensures c.if-begun-attempt.true c.take-shared.ensures.origin c.take-shared.ensures.mine c.take-shared.ensures.stand c.requires.waits c.quit.new.self.core.core c.quit.ensures.quit).entries)

pub give-requires-clause-tally : goal.give-requires-clause-tally
give-requires-clause-tally g c =
    let same = c.caller.ensures ∙ ap (λ p. p.caller) c.take-shared.ensures.pass in
    rw c.take-shared.ensures.pass (quit_moves c.args.pass.now.value.core.core c.take-shared.result.core.core c.args.pass.now.caller c.caller.result c.begun.result c.args.attempt.now.crossings.ordinal same
    c.begun.ensures c.if-begun-attempt.true c.take-shared.ensures.origin c.take-shared.ensures.mine c.take-shared.ensures.stand c.requires.waits c.quit.new.self.core.core c.quit.ensures.quit).seals

pub give-requires-clause-others : goal.give-requires-clause-others
give-requires-clause-others g c =
    let same = c.caller.ensures ∙ ap (λ p. p.caller) c.take-shared.ensures.pass in
    rw c.take-shared.ensures.pass (others_held _ _ _ _ same (quit_moves c.args.pass.now.value.core.core c.take-shared.result.core.core c.args.pass.now.caller c.caller.result c.begun.result c.args.attempt.now.crossings.ordinal same
    c.begun.ensures c.if-begun-attempt.true c.take-shared.ensures.origin c.take-shared.ensures.mine c.take-shared.ensures.stand c.requires.waits c.quit.new.self.core.core c.quit.ensures.quit))

pub give-requires-clause-stand : goal.give-requires-clause-stand
give-requires-clause-stand g c =
    let same = c.caller.ensures ∙ ap (λ p. p.caller) c.take-shared.ensures.pass in
    let low = declared_by (sight_of c.args.pass.now.value.core.core) c.args.pass.now.caller c.begun.result c.begun.ensures in
    let from = quit_from c.args.pass.now.value.core.core c.take-shared.result.core.core c.args.pass.now.caller c.caller.result c.begun.result c.args.attempt.now.crossings.ordinal same
    c.begun.ensures c.if-begun-attempt.true c.take-shared.ensures.origin c.take-shared.ensures.mine c.take-shared.ensures.stand c.requires.waits c.quit.new.self.core.core c.quit.ensures.quit in
    rw c.take-shared.ensures.pass (has_stand (sight_of c.quit.new.self.core.core) c.args.pass.now.caller (subst (λ (l : Limits). c.args.pass.now.caller < l.callers) (sym (config_same c.quit.new.self.core.core c.args.pass.now.value.core.core (from ∙ c.take-shared.ensures.origin))) low))

pub returns-then-begun-attempt-clause-later : goal.returns-then-begun-attempt-clause-later
returns-then-begun-attempt-clause-later g c =
    let same = c.caller.ensures ∙ ap (λ p. p.caller) c.take-shared.ensures.pass in
    rw (c.give.ensures.pass, c.take-shared.ensures.pass) (later_held _ c.args.pass.now c.take-shared.result _ c.requires.idle c.take-shared.ensures.origin
    (quit_from c.args.pass.now.value.core.core c.take-shared.result.core.core c.args.pass.now.caller c.caller.result c.begun.result c.args.attempt.now.crossings.ordinal same
    c.begun.ensures c.if-begun-attempt.true c.take-shared.ensures.origin c.take-shared.ensures.mine c.take-shared.ensures.stand c.requires.waits c.quit.new.self.core.core c.quit.ensures.quit)
    c.take-shared.ensures.seen _ (quit_moves c.args.pass.now.value.core.core c.take-shared.result.core.core c.args.pass.now.caller c.caller.result c.begun.result c.args.attempt.now.crossings.ordinal same
    c.begun.ensures c.if-begun-attempt.true c.take-shared.ensures.origin c.take-shared.ensures.mine c.take-shared.ensures.stand c.requires.waits c.quit.new.self.core.core c.quit.ensures.quit).entries c.take-shared.ensures.tally
    (quit_moves c.args.pass.now.value.core.core c.take-shared.result.core.core c.args.pass.now.caller c.caller.result c.begun.result c.args.attempt.now.crossings.ordinal same
    c.begun.ensures c.if-begun-attempt.true c.take-shared.ensures.origin c.take-shared.ensures.mine c.take-shared.ensures.stand c.requires.waits c.quit.new.self.core.core c.quit.ensures.quit).seals)

pub returns-then-begun-attempt-clause-quits : goal.returns-then-begun-attempt-clause-quits
returns-then-begun-attempt-clause-quits g c =
    let same = c.caller.ensures ∙ ap (λ p. p.caller) c.take-shared.ensures.pass in
    rw (c.give.ensures.pass, c.take-shared.ensures.pass) (left_off c.args.pass.now.value.core.core c.take-shared.result.core.core c.args.pass.now.caller c.caller.result c.begun.result c.args.attempt.now.crossings.ordinal same
    c.begun.ensures c.if-begun-attempt.true c.take-shared.ensures.origin c.take-shared.ensures.mine c.take-shared.ensures.stand c.requires.waits c.quit.new.self.core.core c.quit.ensures.quit)
