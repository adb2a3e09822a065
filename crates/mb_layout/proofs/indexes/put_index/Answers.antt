use Rattle.std.proofs.Common.{◌∙◌, ap, arith}
use Rattle.mb_word.specs.Fields.{index_entry}
use Rattle.mb_layout.proofs.IndexEntries.{index_back, index_others}
use Rattle.mb_layout.proofs.indexes.put_index.Goals as goal

pub returns-clause-value : goal.returns-clause-value
returns-clause-value c = ap (λ b. index_entry b c.args.place) c.put_long.ensures ∙ index_back c.args.block.now c.args.place c.args.address (omega arith) (omega arith)

pub returns-clause-others : goal.returns-clause-others
returns-clause-others c = λ other below apart. ap (λ b. index_entry b other) c.put_long.ensures ∙ index_others c.args.block.now c.args.place other c.args.address (omega arith) apart
