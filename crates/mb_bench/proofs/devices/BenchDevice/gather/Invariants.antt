use Rattle.mb_bench.specs.Gathered.{ShowsMore}
use Rattle.mb_bench.proofs.devices.BenchDevice.gather.Given as goal

abbrev pub invariant-loop-block : goal.invariant-loop-block
invariant-loop-block l = ShowsMore l.fn.self l.self

abbrev pub invariant-loop-at : goal.invariant-loop-at
invariant-loop-at l = ShowsMore l.fn.self l.self
