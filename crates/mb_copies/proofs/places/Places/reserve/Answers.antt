use Rattle.std.proofs.Common.{◌≡◌, length, arith}
use Rattle.std.proofs.lemmas.Bool.Decides.{nat_tests}
use Rattle.mb_copies.proofs.Chains.{chained_begun, filled_up}
use Rattle.mb_copies.proofs.places.Places.reserve.Goals as goal

pub invariant_of-self-in-Continue-branch-3 : goal.invariant_of-self-in-Continue-branch-3
invariant_of-self-in-Continue-branch-3 c =
    let none : length c.self.inside.last.items ≡ 0 = grind (arith, nat_tests, c.if-is_empty.ensures, c.is_empty.ensures, c.if-is_empty.true) in
    chained_begun c.self.inside.last.items c.self.inside.before.items c.self.inside.blocks.items c.resize.new.self.items c.reserve-2.new.self.items c.reserve.new.self.items none (filled_up c.self.inside.last.items c.resize.new.self.items 1024 c.self.inside.last.len none c.self.inside.last.ok.0 c.in_ok-resize.ensures.items) c.in_ok-reserve-2.ensures.same c.in_ok-reserve.ensures.same c.self.invariant
