use Rattle.std.proofs.Common.{refl, arith}
use Rattle.mb_frames.proofs.Stock.{ring_of}
use Rattle.mb_frames.proofs.rings.Rings.spare.Goals as goal

pub walk-requires : goal.walk-requires
walk-requires c = ring_of _ _ _ c.self.invariant.shaped 0 (omega arith) _ refl
