use Rattle.std.proofs.Common.{arith}
use Rattle.mb_headline.proofs.Begun.{begins_if}
use Rattle.mb_headline.proofs.beginning.begin_for.Goals as goal

pub config_of-requires-clause-calls : goal.config_of-requires-clause-calls
config_of-requires-clause-calls g c =
    let small = c.requires.runnable.small in
    omega (arith, small)

pub returns-clause-begun : goal.returns-clause-begun
returns-clause-begun g c =
    begins_if g.D.Disk.told g.D.Disk.faults c.args.fs c.args.disk c.args.job.now c.in-Ok.config c.begin.result c.begin.ensures.begun c.begin.ensures.right c.in-Ok.ensures.config
    (let most = c.in-Ok.ensures.most in omega (arith, most))
