use Rattle.mb_check.specs.Tallies.{below}
use Rattle.std.proofs.Common.{arith}
use Rattle.mb_check.proofs.Leading.{found_at}
use Rattle.mb_check.proofs.links.parent_of.Goals as goal

pub returns-in-Some : goal.returns-in-Some
returns-in-Some c blocks keeps low is =
    let h = c.in-Some.ensures.lookup in
    keeps.parents c.args.dir c.in-Some.up.now (below (omega (arith, low))) is (found_at c.args.counts.now.parents.items c.as_slice.result.now c.from.result c.args.dir c.in-Some.up.now c.as_slice.ensures.value c.from.ensures h.3.0 h.1)
