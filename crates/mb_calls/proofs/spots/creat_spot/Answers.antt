use Rattle.std.proofs.Common.{Ok, ap, ◌∙◌}
use Rattle.mb_tree.specs.Lookup.{stat_in}
use Rattle.mb_calls.specs.declared.spots.Spot.TheVariants as spot
use Rattle.mb_calls.proofs.Asking.{follows_spot}
use Rattle.mb_calls.proofs.spots.creat_spot.Goals as goal

pub returns-in-Itself-clause-follows : goal.returns-in-Itself-clause-follows
returns-in-Itself-clause-follows c = follows_spot _ (spot.Itself c.in-Itself.ino c.in-Itself.stat) _ _ (c.in_ok-ino.was ∙ ap Ok c.in-Itself.is)
    (λ nodes told. c.creat_asked.ensures.follows.gives (stat_in nodes c.in-Itself.ino) told) c.creat_asked.ensures.follows.need

pub returns-in-Present-clause-follows : goal.returns-in-Present-clause-follows
returns-in-Present-clause-follows c = follows_spot _ (spot.Present c.in-Present.dir c.in-Present.name c.in-Present.ino c.in-Present.stat c.in-Present.parent) _ _ (c.in_ok-ino.was ∙ ap Ok c.in-Present.is)
    (λ nodes told. c.creat_asked-in-Present.ensures.follows.gives (stat_in nodes c.in-Present.ino) told.0) (λ scope wants. c.creat_asked-in-Present.ensures.follows.need scope wants.0)

pub returns-in-Missing-clause-follows : goal.returns-in-Missing-clause-follows
returns-in-Missing-clause-follows c = follows_spot _ (spot.Missing c.in-Missing.dir c.in-Missing.name c.in-Missing.parent) _ _ (c.in_ok-ino.was ∙ ap Ok c.in-Missing.is)
    (λ nodes told. c.create_asked.ensures.follows.gives (stat_in nodes c.in-Missing.dir) told) c.create_asked.ensures.follows.need
