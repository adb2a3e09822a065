use Rattle.std.proofs.Common.{ap, subst, ◌∙◌, ◌+◌, ◌-◌, ◌≤◌, arith, rules}
use Rattle.std.specs.Prelude.{vec_len, vec_capacity}
use Rattle.mb_layers.specs.Pages.{LayerState, under}
use Rattle.mb_layers.specs.State.{spare_of}
use Rattle.mb_layers.proofs.Sealed.{begun_one, sealed_sound, sealed_view, sealed_begun, ages_len, seal_same, spare_least, one_later}
use Rattle.mb_layers.proofs.layers.Layers.seal.Goals as goal

pub invariant_of-self : goal.invariant_of-self
invariant_of-self c =
    sealed_sound c.take_covered.new.rings c.splice.new.self c.take_covered.ensures.rings c.take_covered.new.tokens c.seal.new.self c.take_covered.ensures.tied c.take_covered.ensures.apart c.splice.ensures.rings (λ p. (c.splice.ensures.tokens p).stands)
    c.seal.ensures.current c.seal.ensures.sealed c.seal.ensures.aged (search rules)
    (omega (arith, c.seal.ensures.same.2, c.take_covered.ensures.ages.present, c.self.invariant.seals, begun_one c.first.result (λ page. (page.0, page.1.now)) c.self.inside.rings.rings c.if-is_none.ensures c.first.ensures.some)) c.take_covered.new.both.items c.take_covered.ensures.both.0

pub returns-clause-view : goal.returns-clause-view
returns-clause-view c = λ image.
    sealed_view image c.take_covered.new.rings c.splice.new.self c.take_covered.ensures.rings c.take_covered.ensures.apart c.splice.ensures.rings
    ∙ c.take_covered.ensures.view image ∙ ap (λ (v : LayerState). under (under image v.sealed) v.current) c.self.view_is

pub returns-clause-spare : goal.returns-clause-spare
returns-clause-spare c =
    let same = seal_same c.take_covered.new.tokens c.seal.new.self c.seal.ensures.same.0 c.seal.ensures.same.1 in
    subst (λ n. n ≤ spare_of c.splice.new.self c.seal.new.self (vec_capacity c.take_covered.new.both - vec_len c.take_covered.new.both)) (ap (λ (v : LayerState). v.spare) c.self.view_is)
    (spare_least c.self.inside.rings c.splice.new.self c.self.inside.tokens c.seal.new.self (vec_capacity c.self.inside.both - vec_len c.self.inside.both) (vec_capacity c.take_covered.new.both - vec_len c.take_covered.new.both)
    (omega (arith, c.take_covered.ensures.spare.0, c.splice.ensures.spare)) (omega (arith, c.take_covered.ensures.spare.1, same.0)) (omega (arith, c.take_covered.ensures.both.1, c.take_covered.ensures.both.2))
    (one_later _ c.self.inside.tokens.present _ _ c.seal.new.self.present _ (same.1 ∙ ages_len c.self.inside.tokens c.take_covered.new.tokens c.take_covered.ensures.ages)
    (c.seal.ensures.same.2 ∙ ap (λ n. n + 1) c.take_covered.ensures.ages.present)
    (begun_one c.first.result (λ page. (page.0, page.1.now)) c.self.inside.rings.rings c.if-is_none.ensures c.first.ensures.some)
    (sealed_begun c.take_covered.new.rings c.splice.new.self c.take_covered.ensures.rings c.splice.ensures.rings)))
