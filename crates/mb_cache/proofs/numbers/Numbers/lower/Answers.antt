use Rattle.std.proofs.Common.{◌∙◌, ◌-◌, ap, cond, nat_eq}
use Rattle.indexmap.specs.IndexMap.{set_value_at}
use Rattle.mb_cache.specs.Stamps.{stamp_of}
use Rattle.mb_cache.proofs.NumberPlaces.{lowered_at, same_number}
use Rattle.mb_cache.proofs.numbers.Numbers.lower.Goals as goal

pub returns-in-Some-clause-numbers : goal.returns-in-Some-clause-numbers
returns-in-Some-clause-numbers c = λ other.
    let numbers = c.self.inside.map.entries in
    let place = c.in-Some.place in
    let number = c.in-Some.ensures.found.0 in
    let same = same_number numbers place c.pair_mut-number.result.0.now c.pair_mut-number.result.1.now c.args.block number c.pair_mut-number.ensures.value c.in-Some.ensures.found.1 in
    ap (λ n. stamp_of (set_value_at numbers place n) other) (c.saturating_sub.ensures ∙ ap (λ n. n - 1) same)
    ∙ lowered_at numbers place c.args.block number c.pair_mut-number.ensures.unique c.in-Some.ensures.found.1 other
    ∙ ap (λ now. cond (nat_eq c.args.block other) (stamp_of now.items other - 1) (stamp_of now.items other)) c.self.view_is
