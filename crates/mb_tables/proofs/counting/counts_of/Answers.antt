use Rattle.std.proofs.Common.{ap, ◌∙◌, ◌≡◌, arith}
use Rattle.std.proofs.lemmas.Option.{slice_get-get_or}
use Rattle.mb_iface.specs.OpenCounts.{count_of}
use Rattle.mb_tables.proofs.OneCount.{counted_more, nothing_counted}
use Rattle.mb_tables.proofs.counting.counts_of.Goals as goal

pub loop-ino-init : goal.loop-ino-init
loop-ino-init c = λ ino. (let none : count_of c.new-opens.result ino ≡ 0 = ap (λ opens. count_of opens ino) c.new-opens.ensures ∙ nothing_counted ino in omega (arith, none))

pub loop-ino-preserved : goal.loop-ino-preserved
loop-ino-preserved c = counted_more c.loop-ino.opens c.hold.new.opens c.args.inos.now c.loop-ino.ino-index _ c.loop-ino.invariant (slice_get-get_or c.args.inos.now c.loop-ino.ino-index 0 c.loop-ino-test.true) c.requires c.in_ok-hold.ensures.ok
