use Rattle.std.proofs.Common.{Ok, ap, ◌∙◌}
use Rattle.mb_tree.specs.Lookup.{stat_in}
use Rattle.mb_calls.specs.declared.spots.Spot.TheVariants as spot
use Rattle.mb_calls.proofs.Asking.{follows_spot}
use Rattle.mb_calls.proofs.spots.unlink_spot.Goals as goal

pub returns-in-Present-clause-follows : goal.returns-in-Present-clause-follows
returns-in-Present-clause-follows c = follows_spot _ (spot.Present c.in-Present.dir c.in-Present.name c.in-Present.ino c.in-Present.stat c.in-Present.parent) _ _ (c.in_ok-asked.was ∙ ap Ok c.in-Present.is)
    (λ nodes told. c.unlink_asked.ensures.follows.gives (stat_in nodes c.in-Present.ino) (stat_in nodes c.in-Present.dir) told.0 told.1) (λ scope wants. c.unlink_asked.ensures.follows.need scope wants.0 wants.1)
