use Rattle.std.proofs.Common.{sym}
use Rattle.mb_jobs.proofs.RuleWords.{rule_of_words-short}
use Rattle.mb_jobs.proofs.rules.of_words.Goals as goal

pub returns-in_default : goal.returns-in_default
returns-in_default c = sym (rule_of_words-short (λ word. word.now) c.args.struck.calls.now c.args.words.now c.in_default.len_below)
