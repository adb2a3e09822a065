use Rattle.std.proofs.Common.{◌∙◌, sym, ap}
use Rattle.mb_kinds.specs.Changed.{changed}
use Rattle.mb_iface.proofs.Marks.{unmarked}
use Rattle.mb_iface.proofs.change_lists.Changes.get.Goals as goal

pub returns-then-guess-eq0 : goal.returns-then-guess-eq0
returns-then-guess-eq0 c =
    let none = unmarked c.self.inside.guesses c.self.inside.map.entries c.args.block c.guess_of.result c.self.invariant.marked c.guess_of.ensures.place c.if-guess-eq0.true in
    sym none ∙ ap (λ es. changed es c.args.block) c.self.view_is
