use Rattle.std.proofs.Common.{◌∙◌}
use Rattle.mb_check.proofs.Tallying.{tallies_past, tallies_set}
use Rattle.mb_check.proofs.tallies.add_tally.Goals as goal

pub returns-then-place-tallies : goal.returns-then-place-tallies
returns-then-place-tallies c blocks slot keeps =
    tallies_set blocks c.args.dir c.args.at c.from-place.result (c.from-place.ensures ∙ slot) c.args.tallies.now keeps _ c.more-more.result c.if-place-tallies.true c.more-more.ensures

pub returns-else-place-tallies : goal.returns-else-place-tallies
returns-else-place-tallies c blocks slot keeps =
    tallies_past blocks c.args.dir c.args.at c.from-place.result (c.from-place.ensures ∙ slot) c.args.tallies.now keeps c.if-place-tallies.false
