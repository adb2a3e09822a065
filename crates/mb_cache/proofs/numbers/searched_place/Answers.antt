use Rattle.std.proofs.Common.{◌≡◌, ◌∙◌, sym, ap, Some, nat_eq, arith}
use Rattle.std.proofs.lemmas.Bool.Decides.{nat_tests}
use Rattle.std.proofs.lemmas.Map.Made.{lookup_key_passes}
use Rattle.mb_cache.proofs.numbers.searched_place.Goals as goal

pub returns-clause-found : goal.returns-clause-found
returns-clause-found c =
    let found = lookup_key_passes (nat_eq c.args.block) c.args.map.now.entries c.in_ok-place.field-0-1.now (sym c.in_ok-place.ensures.key) in
    let same : c.in_ok-place.field-0-1.now ≡ c.args.block = grind (arith, nat_tests) in
    (c.in_ok-place.field-0-2.now, c.in_ok-place.ensures.entry ∙ ap (λ k. Some (k, c.in_ok-place.field-0-2.now)) same)
