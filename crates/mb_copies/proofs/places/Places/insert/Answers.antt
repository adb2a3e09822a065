use Rattle.std.proofs.Common.{◌∷◌, ◌++◌, [], ◌∙◌, cond, sym, ap}
use Rattle.mb_copies.proofs.Chains.{is_listed, position_behind, position_is}
use Rattle.mb_copies.proofs.places.Places.insert.Goals as goal

pub returns-in-Some-clause-place : goal.returns-in-Some-clause-place
returns-in-Some-clause-place c = sym (position_is c.args.self.now.items c.in-Some.place c.args.block c.in-Some.ensures.once c.in-Some.ensures.found)

pub returns-in-Some-clause-blocks : goal.returns-in-Some-clause-blocks
returns-in-Some-clause-blocks c = sym (ap (λ test. cond test c.args.self.now.items (c.args.self.now.items ++ c.args.block ∷ [])) (is_listed c.args.self.now.items c.in-Some.place c.args.block c.in-Some.ensures.found))

pub returns-in-None-clause-place : goal.returns-in-None-clause-place
returns-in-None-clause-place c = c.push.ensures.place ∙ sym (position_behind c.args.block c.args.self.now.items c.in-None.ensures.none)
