use Rattle.std.proofs.Common.{not, ap, ◌∙◌}
use Rattle.mb_check.proofs.Naming.{named_keys, named_more}
use Rattle.mb_check.proofs.names.NameSet.add.Goals as goal

pub returns-clause-added : goal.returns-clause-added
returns-clause-added c = c.in_ok-insert.ensures.added ∙ ap not (named_keys c.args.name.now c.args.self.now.names.keys)

pub returns-clause-names : goal.returns-clause-names
returns-clause-names c other = named_more c.args.name.now other c.args.self.now.names.keys c.insert.new.self.keys (c.in_ok-insert.ensures.updates.0 other)
