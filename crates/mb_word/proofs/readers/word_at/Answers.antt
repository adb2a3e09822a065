use Rattle.std.proofs.Common.{◌∙◌}
use Rattle.mb_word.proofs.Values.{word_of_rest}
use Rattle.mb_word.proofs.readers.word_at.Goals as goal

pub returns : goal.returns
returns c = c.read_u16.ensures ∙ word_of_rest c.args.b.now c.args.at
