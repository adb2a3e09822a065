use Rattle.mb_check.proofs.Leading.{found_at}
use Rattle.mb_check.proofs.links.tally_of.Goals as goal

pub returns-in-Some : goal.returns-in-Some
returns-in-Some c blocks keeps low =
    let h = c.in-Some.ensures.lookup in
    keeps.tallies c.args.ino c.in-Some.tally.now (found_at c.args.counts.now.tallies.items c.as_slice.result.now c.from.result c.args.ino c.in-Some.tally.now c.as_slice.ensures.value c.from.ensures h.3.0 h.1)
