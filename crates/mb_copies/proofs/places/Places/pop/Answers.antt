use Rattle.std.proofs.Common.{◌∷◌, ◌++◌, [], subst}
use Rattle.mb_copies.specs.Chains.{AreChained}
use Rattle.mb_copies.proofs.Chains.{chained_pop}
use Rattle.mb_copies.proofs.places.Places.pop.Goals as goal

pub invariant_of-self-2 : goal.invariant_of-self-2
invariant_of-self-2 c = rw c.chain_of.ensures.chain
    (chained_pop c.self.inside.last.items c.pop-2.new.self.items c.pop.new.self.items c.in_ok-block.block c.in_ok-before.before
    (subst (λ before. AreChained c.self.inside.last.items before (c.pop.new.self.items ++ c.in_ok-block.block ∷ [])) c.in_ok-before.ensures.some
    (subst (AreChained c.self.inside.last.items c.self.inside.before.items) c.in_ok-block.ensures.some c.self.invariant)))
