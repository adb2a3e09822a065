use Rattle.std.proofs.Common.{◌∙◌, ap, get_or}
use Rattle.mb_word.specs.Fields.{chain_entry}
use Rattle.mb_layout.proofs.NumberLists.{listed_item}
use Rattle.mb_layout.proofs.chains.Chain.read.Goals as goal

pub returns-clause-list : goal.returns-clause-list
returns-clause-list c = λ k below. ap (λ xs. get_or xs k 0) c.longs_at.ensures ∙ listed_item (chain_entry c.args.b.now) 50 k below
