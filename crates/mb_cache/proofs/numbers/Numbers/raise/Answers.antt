use Rattle.std.proofs.Common.{◌∙◌, ◌+◌, ◌-◌, ◌^◌, min, ap}
use Rattle.indexmap.specs.IndexMap.{set_value_at}
use Rattle.mb_cache.specs.Stamps.{raised}
use Rattle.mb_cache.proofs.NumberPlaces.{raised_at, same_number}
use Rattle.mb_cache.proofs.numbers.Numbers.raise.Goals as goal

pub returns-in-Some-clause-ok : goal.returns-in-Some-clause-ok
returns-in-Some-clause-ok c =
    let numbers = c.self.inside.map.entries in
    let place = c.in-Some.place in
    let number = c.in-Some.ensures.found.0 in
    let same = same_number numbers place c.pair_mut-number.result.0.now c.pair_mut-number.result.1.now c.args.block number c.pair_mut-number.ensures.value c.in-Some.ensures.found.1 in
    ap (set_value_at numbers place) (c.saturating_add.ensures ∙ ap (λ n. min (n + 1) (2 ^ 64 - 1)) same)
    ∙ raised_at numbers place c.args.block number c.pair_mut-number.ensures.unique c.in-Some.ensures.found.1
    ∙ ap (λ now. raised now.items c.args.block) c.self.view_is
