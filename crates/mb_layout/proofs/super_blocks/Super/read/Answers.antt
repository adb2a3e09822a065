use Rattle.std.proofs.Common.{◌∙◌, ap, get_or}
use Rattle.mb_word.specs.Fields.{free_of, cached_of}
use Rattle.mb_layout.proofs.NumberLists.{listed_item}
use Rattle.mb_layout.proofs.super_blocks.Super.read.Goals as goal

pub returns-clause-free : goal.returns-clause-free
returns-clause-free c = λ k below. ap (λ xs. get_or xs k 0) c.longs_at.ensures ∙ listed_item (free_of c.args.b.now) 50 k below

pub returns-clause-inode : goal.returns-clause-inode
returns-clause-inode c = λ k below. ap (λ xs. get_or xs k 0) c.words_at.ensures ∙ listed_item (cached_of c.args.b.now) 100 k below
