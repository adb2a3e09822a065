use Rattle.std.proofs.Common.{◌∙◌, ◌+◌, ◌≤◌, ap, sym, subst, cond, nat_eq, arith}
use Rattle.std.proofs.lemmas.Bool.Decides.{nat_tests}
use Rattle.mb_cache.specs.Stamps.{stamp_of}
use Rattle.mb_cache.proofs.NumberPlaces.{raised_below, raised_within}
use Rattle.mb_cache.proofs.pins.PinMap.pin.Goals as goal

pub invariant_of-self-2 : goal.invariant_of-self-2
invariant_of-self-2 c = λ block.
    let least = c.self.invariant c.args.block in
    subst (λ counts. stamp_of counts block ≤ c.self.inside.total + 1) (sym c.in_ok-raise.ensures.ok)
    (raised_within c.self.inside.counts.items c.args.block c.self.inside.total (grind (arith, nat_tests, least)) c.self.invariant block)

pub returns-clause-ok : goal.returns-clause-ok
returns-clause-ok c = λ other.
    let least = c.self.invariant c.args.block in
    ap (λ counts. stamp_of counts other) c.in_ok-raise.ensures.ok
    ∙ raised_below c.self.inside.counts.items c.args.block (grind (arith, nat_tests, least)) other
    ∙ ap (λ now. cond (nat_eq c.args.block other) (stamp_of now.items other + 1) (stamp_of now.items other)) c.self.view_is
