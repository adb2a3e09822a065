use Rattle.std.proofs.Common.{◌∙◌, nat_eq, sym, ap, subst, ◌<◌}
use Rattle.std.specs.List.{list_any}
use Rattle.mb_copies.proofs.Chains.{chained_pushed, room_full}
use Rattle.mb_copies.proofs.places.Places.push.Goals as goal

pub invariant_of-self : goal.invariant_of-self
invariant_of-self c =
    let last = c.self.inside.last.items in
    let full = room_full last c.self.inside.blocks.spare c.self.inside.before.spare (subst (λ now. 0 < now.spare) (sym c.self.view_is) c.requires.room) in
    let none = ap (λ now. list_any (nat_eq c.args.block) now.items) c.self.view_is ∙ c.requires.apart in
    chained_pushed last c.self.inside.before.items c.self.inside.blocks.items c.push.new.self.items c.push-2.new.self.items c.args.block c.chain_of-chain.result c.index.result.now c.len.result
    c.push.ensures.items c.push-2.ensures.items c.chain_of-chain.ensures.chain c.chain_of-chain.ensures.within c.len.ensures c.index.ensures full none c.self.invariant
