use Rattle.std.proofs.Common.{◌∙◌, subst}
use Rattle.std.specs.List.Sorted.{IsBinarySearchResult}
use Rattle.std.specs.Ordering.{nat_cmp}
use Rattle.mb_layers.proofs.Rising.{found_by_halves}
use Rattle.mb_layers.proofs.tokens.Tokens.is_dropped.Goals as goal

pub returns : goal.returns
returns c = c.is_ok.ensures.value ∙ found_by_halves c.args.self.now.dropped.items c.args.self.now.present c.args.generation c.binary_search.result c.requires.rising
    (subst (λ numbers. IsBinarySearchResult (λ one. nat_cmp one c.args.generation) numbers c.binary_search.result) c.as_slice.ensures.value c.binary_search.ensures.position)
