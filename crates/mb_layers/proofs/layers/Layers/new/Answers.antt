use Rattle.std.proofs.Common.{arith, rules}
use Rattle.mb_layers.proofs.Sound.{new_sound}
use Rattle.mb_layers.proofs.layers.Layers.new.Goals as goal

pub invariant_of-result : goal.invariant_of-result
invariant_of-result c = new_sound c.in_ok-rings.rings c.new-2.result c.new-3.result.items c.in_ok-rings.ensures.0 c.new-2.ensures.current c.new-2.ensures.sealed c.new-2.ensures.aged (search rules) (omega (arith, c.new-2.ensures.present)) c.new-3.ensures.items
