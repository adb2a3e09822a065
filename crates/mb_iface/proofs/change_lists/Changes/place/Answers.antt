use Rattle.mb_iface.proofs.Marks.{unmarked}
use Rattle.mb_iface.proofs.Standing.{stands}
use Rattle.mb_iface.proofs.change_lists.Changes.place.Goals as goal

pub place_of-requires : goal.place_of-requires
place_of-requires c = unmarked c.self.inside.guesses c.self.inside.map.entries c.args.block c.guess_of.result c.self.invariant.marked c.guess_of.ensures.place

pub returns-clause-found : goal.returns-clause-found
returns-clause-found c = stands c.place_of.result c.self.inside.map.entries c.args.self.now c.args.block c.self.invariant.list c.self.view_is c.place_of.ensures.found
