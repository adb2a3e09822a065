use Rattle.std.proofs.Common.{◌+◌, arith}
use Rattle.mb_check.proofs.Marking.{reaching_none}
use Rattle.mb_check.proofs.reaching.Reach.new.Goals as goal

pub returns : goal.returns
returns c blocks last = reaching_none blocks _ (c.from.result + 1) (c.in_ok-vec.ensures.items_if_clones_equal (λ y e. e)) (let e = c.from.ensures in omega (arith, e, last)) c.new.ensures.items
