use Rattle.std.proofs.Common.{Ok, ap, ◌∙◌}
use Rattle.mb_tree.specs.Lookup.{stat_in}
use Rattle.mb_calls.specs.declared.spots.Spot.TheVariants as spot
use Rattle.mb_calls.proofs.Asking.{follows_spot}
use Rattle.mb_calls.proofs.spots.enlink_spot.Goals as goal

pub returns-in-Missing-clause-follows : goal.returns-in-Missing-clause-follows
returns-in-Missing-clause-follows c = follows_spot _ (spot.Missing c.in-Missing.dir c.in-Missing.name c.in-Missing.parent) _ _ (c.in_ok-dir.was ∙ ap Ok c.in-Missing.is)
    (λ nodes told. c.link_asked.ensures.follows.gives (stat_in nodes c.in-Missing.dir) told) c.link_asked.ensures.follows.need
